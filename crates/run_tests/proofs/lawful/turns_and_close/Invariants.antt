use Rattle.std.proofs.Common.{◌≡◌, ◌-◌, replicate}
use Rattle.model.specs.Calls.{Turn, after}
use Rattle.run.specs.Runs.{state}
use Rattle.run_tests.proofs.lawful.turns_and_close.Given as goal

abbrev pub invariant-loop : goal.invariant-loop
invariant-loop g l =
    after (state g.S.Store.cells l.run) (replicate (l.turns - l.counter) (Turn l.job)) ≡ after (state g.S.Store.cells l.initial.run) (replicate l.turns (Turn l.job))
