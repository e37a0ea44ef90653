use Rattle.std.proofs.Common.{◌≡◌, drop}
use Rattle.store.specs.Changes.{replay}
use Rattle.store.specs.Sets.{SetsEach}
use Rattle.batch.specs.Runs.{preset_changes}
use Rattle.batch.proofs.turns.preset.Given as goal

abbrev pub invariant-loop-next : goal.invariant-loop-next
invariant-loop-next g l =
    let sets = g.S.Store.sets in
    let left = preset_changes (drop l.next-index l.presets) in
    (replay (g.S.Store.cells l.store) left ≡ replay (g.S.Store.cells l.initial.store) (preset_changes l.presets))
    × (g.S.Store.loan l.store ≡ g.S.Store.loan l.initial.store)
    × ((t : _) → SetsEach sets l.store left t → SetsEach sets l.initial.store (preset_changes l.presets) t)
