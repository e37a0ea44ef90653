use Rattle.model.specs.Calls.{Turn}
use Rattle.run.proofs.Reaching.{by_call}
use Rattle.run.specs.Runs.{state}
use Rattle.table.proofs.Settings.{kept_by_turn, set_once}
use Rattle.run.proofs.run.Run.turn.Goals as goal

pub returns-clause-kept : goal.returns-clause-kept
returns-clause-kept g c e =
    kept_by_turn g.S.Store.sets c.args.self.now.store (state g.S.Store.cells c.args.self.now) c.args.job c.turn.new.store c.turn.result c.turn.ensures.answer e c.turn.ensures.store

pub returns-clause-once : goal.returns-clause-once
returns-clause-once g c cell e =
    set_once g.S.Store.sets c.args.self.now.store (state g.S.Store.cells c.args.self.now) c.args.job c.turn.new.store c.turn.result cell c.turn.ensures.answer e c.turn.ensures.store

pub invariant_of-self : goal.invariant_of-self
invariant_of-self g c = record { reached = by_call (state g.S.Store.cells c.args.self.now) _ (Turn c.args.job) c.turn.ensures.next c.args.self.now.reached }
