-- The records of a change list, as a list of changes, the newest last. Assumes nothing.
use Rattle.std.specs.Prelude.{ℕ, ◌-◌, min, cond, List, [], ◌∷◌, ◌++◌, length, take, replicate, nat_lt}
use Rattle.store.specs.declared.change.Change.{Change}
use Rattle.store.specs.Changes.{replay, touches}

-- How many cells so many records carry.
abbrev pub cell_count : ℕ → ℕ
cell_count records = min (records - 1) 65536

-- The cells of a change list before any change.
abbrev pub zeros : ℕ → List ℕ
zeros count = replicate count 0

-- The cells of a change list: zeros, under the records in force, which are the first so many.
abbrev pub list_cells : List Change → ℕ → List ℕ
list_cells records used = replay (zeros (cell_count (length records))) (take used records)

-- The newest change of each cell, in the order in which they stand.
abbrev pub newest : List Change → List Change
newest [] = []
newest (c ∷ cs) = cond (touches cs c.cell) (newest cs) (c ∷ newest cs)

-- The records in force before one is added to them: the newest of each cell, if there is room for no more.
abbrev pub with_room : ℕ → List Change → List Change
with_room room cs = cond (nat_lt (length cs) room) cs (newest cs)

-- The records in force once a cell is set.
abbrev pub with_record : ℕ → List Change → ℕ → ℕ → List Change
with_record room cs cell number = with_room room cs ++ record { cell = cell; number = number } ∷ []
