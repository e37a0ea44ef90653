-- What one set makes of a word table. Assumes nothing.
use Rattle.std.specs.Prelude.{◌≡◌, ℕ, Bool, true, false, length, nat_lt, slice_set}
use Rattle.store.specs.Cells.{word_cells}
use Rattle.store.specs.declared.word_table.WordTable.{WordTable}

-- Where there is such a cell, its word is replaced and no other, in the same memory; else the table is the same.
abbrev pub replaces_if : Bool → WordTable → ℕ → ℕ → WordTable → Type 0
replaces_if true table cell number table' = (table'.words.now ≡ slice_set table.words.now cell number) × (table'.words.ghost_name ≡ table.words.ghost_name)
replaces_if false table cell number table' = table' ≡ table

abbrev pub Replaces : WordTable → ℕ → ℕ → WordTable → Type 0
Replaces table cell number table' = replaces_if (nat_lt cell (length (word_cells table.words.now))) table cell number table'
