-- A change list, as the records in force and the cells that these give. Assumes nothing.
use Rattle.std.specs.Prelude.{◌≡◌, ℕ, Bool, true, false, List, length, take, drop, nat_lt}
use Rattle.store.specs.declared.change.Change.{Change}
use Rattle.change_list.specs.declared.ChangeList.{ChangeList}
use Rattle.change_list.specs.Records.{list_cells, with_record}

-- How many records were lent.
abbrev pub records_of : ChangeList → ℕ
records_of list = length list.records.now

-- The records in force.
abbrev pub in_force : ChangeList → List Change
in_force list = take list.used list.records.now

-- The cells that these give.
abbrev pub cells_of : ChangeList → List ℕ
cells_of list = list_cells list.records.now list.used

-- What one set makes of a list. Where there is such a cell, one record more is in force, the records that are not in force
-- then are as they were, and the memory is the same; else the list is the same.
abbrev pub adds_if : Bool → ChangeList → ℕ → ℕ → ChangeList → Type 0
adds_if true list cell number list' =
    (in_force list' ≡ with_record (records_of list) (in_force list) cell number)
    × (drop list'.used list'.records.now ≡ drop list'.used list.records.now)
    × (list'.records.ghost_name ≡ list.records.ghost_name)
adds_if false list cell number list' = list' ≡ list

abbrev pub Adds : ChangeList → ℕ → ℕ → ChangeList → Type 0
Adds list cell number list' = adds_if (nat_lt cell (length (cells_of list))) list cell number list'
