use Rattle.std.proofs.Common.{◌≡◌, drop}
use Rattle.model.specs.Calls.{after, events_of}
use Rattle.run.specs.Runs.{state}
use Rattle.table.specs.Settings.{Through}
use Rattle.batch.specs.Runs.{turns_of}
use Rattle.batch.proofs.turns.play.Given as goal

abbrev pub invariant-loop-next : goal.invariant-loop-next
invariant-loop-next g l =
    let s = state g.S.Store.cells l.run in
    let s₀ = state g.S.Store.cells l.initial.run in
    let left = turns_of (drop l.next-index l.turns) in
    (after s left ≡ after s₀ (turns_of l.turns))
    × (g.S.Store.loan l.run.store ≡ g.S.Store.loan l.initial.run.store)
    × ((t : _) → Through g.S.Store.sets (events_of s left) l.run.store t → Through g.S.Store.sets (events_of s₀ (turns_of l.turns)) l.initial.run.store t)
