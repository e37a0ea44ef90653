-- The entries of a log, as changes to the cells of a store. Assumes nothing.
use Rattle.std.specs.Prelude.{List, [], ◌∷◌}
use Rattle.model.specs.Logs.{Log}
use Rattle.store.specs.declared.change.Change.{Change}

abbrev pub as_changes : Log → List Change
as_changes [] = []
as_changes (e ∷ log) = record { cell = e.cell; number = e.number } ∷ as_changes log
