use Rattle.std.proofs.Common.{◌≡◌, ◌++◌, map, length, take, drop}
use Rattle.model.specs.Calls.{after, answers_of, events_of}
use Rattle.table.specs.Settings.{Through}
use Rattle.run.specs.Requests.{calls_of, answer_of}
use Rattle.run.specs.Runs.{state}
use Rattle.run.proofs.carrying.carry_out.Given as goal

abbrev pub invariant-loop-i : goal.invariant-loop-i
invariant-loop-i g l =
    let s = state g.S.Store.cells l.run in
    let s₀ = state g.S.Store.cells l.initial.run in
    let calls = calls_of l.requests in
    let left = calls_of (drop l.i l.requests) in
    (length l.answers ≡ length l.initial.answers)
    × (after s left ≡ after s₀ calls)
    × (map answer_of (take l.i l.answers) ++ answers_of s left ≡ answers_of s₀ calls)
    × (drop (length l.requests) l.answers ≡ drop (length l.requests) l.initial.answers)
    × (g.S.Store.loan l.run.store ≡ g.S.Store.loan l.initial.run.store)
    × ((t : _) → Through g.S.Store.sets (events_of s left) l.run.store t → Through g.S.Store.sets (events_of s₀ calls) l.initial.run.store t)
