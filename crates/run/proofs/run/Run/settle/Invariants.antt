use Rattle.std.proofs.Common.{◌≡◌, ◌-◌}
use Rattle.model.specs.Calls.{settle_in}
use Rattle.run.specs.Runs.{state}
use Rattle.table.specs.Settings.{Through}
use Rattle.run.proofs.run.Run.settle.Given as goal

abbrev pub invariant-loop : goal.invariant-loop
invariant-loop g l =
    ((settle_in (l.most - l.counter) (state g.S.Store.cells l.self)).next ≡ (settle_in l.most (state g.S.Store.cells l.initial.self)).next)
    × (g.S.Store.loan l.self.store ≡ g.S.Store.loan l.initial.self.store)
    × ((t : _) → Through g.S.Store.sets (settle_in (l.most - l.counter) (state g.S.Store.cells l.self)).events l.self.store t → Through g.S.Store.sets (settle_in l.most (state g.S.Store.cells l.initial.self)).events l.initial.self.store t)
