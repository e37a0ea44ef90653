use Rattle.model.specs.Calls.{File}
use Rattle.run.specs.Runs.{state}
use Rattle.run.specs.Slips.{numbers_of}
use Rattle.run.proofs.Reaching.{by_call}
use Rattle.run.proofs.run.Run.file.Goals as goal

pub invariant_of-self : goal.invariant_of-self
invariant_of-self g c = record { reached = by_call (state g.S.Store.cells c.args.self.now) _ (File (numbers_of c.args.slip)) c.file.ensures.run.0 c.args.self.now.reached }
