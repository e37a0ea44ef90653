use Rattle.std.proofs.Common.{◌≡◌, ◌-◌, replicate}
use Rattle.model.specs.Calls.{Turn, after, events_of}
use Rattle.run.specs.Runs.{state}
use Rattle.table.specs.Settings.{Through}
use Rattle.batch.proofs.turns.give_turns.Given as goal

abbrev pub invariant-loop : goal.invariant-loop
invariant-loop g l =
    let s = state g.S.Store.cells l.run in
    let s₀ = state g.S.Store.cells l.initial.run in
    let left = replicate (l.turns - l.counter) (Turn l.job) in
    let all = replicate l.turns (Turn l.job) in
    (after s left ≡ after s₀ all)
    × (g.S.Store.loan l.run.store ≡ g.S.Store.loan l.initial.run.store)
    × ((t : _) → Through g.S.Store.sets (events_of s left) l.run.store t → Through g.S.Store.sets (events_of s₀ all) l.initial.run.store t)
