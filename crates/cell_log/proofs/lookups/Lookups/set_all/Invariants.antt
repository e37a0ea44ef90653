use Rattle.std.proofs.Common.{◌≡◌, drop}
use Rattle.model.specs.Logs.{set_all}
use Rattle.store.specs.Sets.{SetsEach}
use Rattle.cell_log.specs.Changes.{as_changes}
use Rattle.cell_log.proofs.lookups.Lookups.set_all.Given as goal

abbrev pub invariant-loop-logged : goal.invariant-loop-logged
invariant-loop-logged g l =
    let log = g.Self.Lookups.list l.self in
    let sets = g.S.Store.sets in
    (set_all (drop l.logged-index log) (g.S.Store.cells l.store) ≡ set_all log (g.S.Store.cells l.initial.store))
    × (g.S.Store.loan l.store ≡ g.S.Store.loan l.initial.store)
    × ((t : _) → SetsEach sets l.store (as_changes (drop l.logged-index log)) t → SetsEach sets l.initial.store (as_changes log) t)
