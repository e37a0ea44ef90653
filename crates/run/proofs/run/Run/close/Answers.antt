use Rattle.std.proofs.Common.{ap, ◌∙◌}
use Rattle.model.specs.Intake.{closed_cells}
use Rattle.model.proofs.Closing.{closing}
use Rattle.run.specs.Runs.{state}
use Rattle.run.proofs.Reaching.{by_close}
use Rattle.run.proofs.run.Run.close.Goals as goal

pub returns-clause-left : goal.returns-clause-left
returns-clause-left g c = by_close (state g.S.Store.cells c.args.self) _ (ap (λ z. z.cells) c.settle.ensures.next) c.args.self.reached

pub returns-clause-serial : goal.returns-clause-serial
returns-clause-serial g c s₀ calls law is = ap (λ z. z.cells) c.settle.ensures.next ∙ (ap closed_cells is ∙ closing s₀ law calls)
