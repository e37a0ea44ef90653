use Rattle.std.proofs.Common.{sym, refl, subst}
use Rattle.model.specs.Law.{Lawful}
use Rattle.model.proofs.Whole.{law}
use Rattle.table.specs.Intakes.{intake_of}
use Rattle.table.proofs.Rostering.{well_formed_lem}
use Rattle.run.proofs.Reaching.{by_seal}
use Rattle.run.proofs.intake.Intake.seal.Goals as goal

pub returns : goal.returns
returns g c =
    let C = g.S.Store.cells c.args.self.store in
    let r = c.args.self.roster in
    let sealed = c.into_table.ensures C in
    record { sealed = sealed; lawful = subst Lawful (sym sealed) (law (intake_of C r) (well_formed_lem C r)); store = refl }

pub invariant_of-result : goal.invariant_of-result
invariant_of-result g c =
    let C = g.S.Store.cells c.args.self.store in
    let i = intake_of C c.args.self.roster in
    record { reached = by_seal _ i (well_formed_lem C c.args.self.roster) (c.into_table.ensures C) }
