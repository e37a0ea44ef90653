use Rattle.std.proofs.Common.{◌≡◌, drop}
use Rattle.store.specs.Changes.{replay}
use Rattle.store.specs.Sets.{SetsEach}
use Rattle.write_back.proofs.WriteBack.into_store.Given as goal

abbrev pub invariant-loop-change : goal.invariant-loop-change
invariant-loop-change g l =
    let sets = g.S.Store.sets in
    (replay (g.S.Store.cells l.below) (drop l.change-index l.change-items) ≡ replay (g.S.Store.cells l.initial.below) l.change-items)
    × (g.S.Store.loan l.below ≡ g.S.Store.loan l.initial.below)
    × ((t : _) → SetsEach sets l.below (drop l.change-index l.change-items) t → SetsEach sets l.initial.below l.change-items t)
