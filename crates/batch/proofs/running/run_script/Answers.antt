use Rattle.std.proofs.Common.{sym, ap, ◌∙◌, subst}
use Rattle.listing_reader.specs.Drafts.{script_in}
use Rattle.batch.specs.Played.{LeftByJobs}
use Rattle.batch.specs.Runs.{intake_over}
use Rattle.batch.proofs.Serially.{free, one-by-one}
use Rattle.batch.proofs.running.run_script.Goals as goal

pub returns-clause-settled : goal.returns-clause-settled
returns-clause-settled g c =
    let s = script_in c.args.script.now in
    ap (λ z. z.right) c.run_fitting.ensures.state ∙ free s c.args.script.now.within c.args.number (g.S.Store.cells c.args.store)

pub returns-clause-serial : goal.returns-clause-serial
returns-clause-serial g c =
    let s = script_in c.args.script.now in
    let cells = g.S.Store.cells c.args.store in
    subst (LeftByJobs (intake_over c.args.number cells s)) (sym c.run_fitting.ensures.state) (one-by-one s c.args.script.now.within c.args.number cells)
