-- What a cell's number is, by both logs and the store. Assumes nothing.
use Rattle.std.specs.Prelude.{◌≡◌, ℕ, true, false, List, length, Some, None, nat_lt}
use Rattle.model.specs.Logs.{find, put, cell_of}
use Rattle.cell_log.specs.Rows.{entries_of}
use Rattle.cell_log.specs.declared.both.Logs.{Logs}
use Rattle.cell_log.specs.declared.both.Found.{Found}
use Rattle.cell_log.specs.declared.both.Found.TheVariants.{InWrites, InReads, InStore}

-- Neither log has the cell.
abbrev pub Unlogged : ℕ → Logs → Type 0
Unlogged cell logs = (find (entries_of logs.writes) cell ≡ None) × (find (entries_of logs.reads) cell ≡ None)

-- The number was found there; a number from the store goes into the read log, and else the logs stay.
abbrev pub FoundIn : List ℕ → ℕ → Logs → Logs → ℕ → Found → Type 0
FoundIn cells cell old new number InWrites = (find (entries_of old.writes) cell ≡ Some number) × (new ≡ old)
FoundIn cells cell old new number InReads = (find (entries_of old.writes) cell ≡ None) × (find (entries_of old.reads) cell ≡ Some number) × (new ≡ old)
FoundIn cells cell old new number InStore =
    Unlogged cell old × (nat_lt (length (entries_of old.reads)) 24 ≡ true) × (number ≡ cell_of cells cell) × (entries_of new.reads ≡ put (entries_of old.reads) cell number) × (new.writes ≡ old.writes)

-- The read log has no room for the cell, and neither log has it.
abbrev pub FullFor : ℕ → Logs → Type 0
FullFor cell logs = Unlogged cell logs × (nat_lt (length (entries_of logs.reads)) 24 ≡ false)
