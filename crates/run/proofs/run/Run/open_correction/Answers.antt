use Rattle.model.specs.Calls.{Open}
use Rattle.run.specs.Runs.{state}
use Rattle.run.proofs.Reaching.{by_call}
use Rattle.run.proofs.run.Run.open_correction.Goals as goal

pub invariant_of-self : goal.invariant_of-self
invariant_of-self g c = record { reached = by_call (state g.S.Store.cells c.args.self.now) _ (Open) (c.open_correction.ensures.next (g.S.Store.cells c.args.self.now.store)) c.args.self.now.reached }
