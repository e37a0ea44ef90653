use Rattle.std.proofs.Common.{◌+◌, ◌<◌, length, drop, ◌∙◌, arith, length-set}
use Rattle.std.proofs.lemmas.List.{drop_more, drop-set-lt}
use Rattle.model.proofs.Whole.{law}
use Rattle.run.specs.Requests.{calls_of}
use Rattle.run.specs.Runs.{state}
use Rattle.run.proofs.Requested.{after-more, answers-more, through-more}
use Rattle.table.specs.Intakes.{intake_of}
use Rattle.table.proofs.Rostering.{well_formed_lem}
use Rattle.run.proofs.carrying.carry_out.Goals as goal

pub returns-then-answers-requests-clause-law : goal.returns-then-answers-requests-clause-law
returns-then-answers-requests-clause-law g c =
    let cells = g.S.Store.cells c.args.intake.store in
    law (intake_of cells c.args.intake.roster) (well_formed_lem cells c.args.intake.roster) (calls_of c.args.requests.now)

pub loop-i-preserved : goal.loop-i-preserved
loop-i-preserved g c =
    let s = state g.S.Store.cells c.loop-i.run in
    let s' = state g.S.Store.cells c.call.new.self in
    let requests = c.args.requests.now in
    let i = c.loop-i.i in
    let left = drop (i + 1) requests in
    let inv = c.loop-i.invariant in
    let room : i < length c.loop-i.answers = omega (arith, inv.0, c.loop-i-test.true, c.if-answers-requests.false) in
    let more = drop_more requests i _ c.loop-i-test.true in
    let made = c.call.ensures in (
      length-set c.loop-i.answers i c.call.result ∙ inv.0,
      after-more s s' _ (drop i requests) left more made.next ∙ inv.1,
      answers-more s s' _ (drop i requests) left more made.next c.loop-i.answers i c.call.result room made.answer ∙ inv.2,
      drop-set-lt (length requests) c.loop-i.answers i c.call.result c.loop-i-test.true ∙ inv.3,
      made.loan ∙ inv.4,
      λ t x. inv.5 t (through-more s s' _ (drop i requests) left more made.next g.S.Store.sets c.loop-i.run.store c.call.new.self.store t made.store x),
    )
