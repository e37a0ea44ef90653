-- How a store comes through what happens in a run. Assumes nothing.
use Rattle.std.specs.Prelude.{ℕ, Bool, true, false, List, [], ◌∷◌, Some, Ok}
use Rattle.model.specs.Calls.{Turned}
use Rattle.model.specs.Rules.{Event, SetCell}
use Rattle.model.specs.declared.Rule.{Rule}
use Rattle.model.specs.declared.Rule.TheVariants.{C2}
use Rattle.store.specs.Sets.{SetsEach}
use Rattle.store.specs.declared.change.Change.{Change}

-- The cells that are set in what happens, in their order, each with its number.
abbrev pub changes_in : List Event → List Change
changes_in [] = []
changes_in (SetCell party cell number ∷ events) = record { cell = cell; number = number } ∷ changes_in events
changes_in (event ∷ events) = changes_in events

-- The store is set once for each cell that is set, in this order, and otherwise stays as it is.
abbrev pub Through : {S : Type 0} → (S → ℕ → ℕ → S → Type 0) → List Event → S → S → Type 0
Through sets events s t = SetsEach sets s (changes_in events) t

-- Whether a turn that is answered so set a cell: rule c2 does, and no other.
abbrev pub sets_cell : Rule → Bool
sets_cell C2 = true
sets_cell rule = false

abbrev pub turn_sets : Turned → Bool
turn_sets (Ok (Some applied)) = sets_cell applied.rule
turn_sets answer = false

-- The answer of a turn by c2 that names this cell.
abbrev pub by_c2 : ℕ → Turned
by_c2 cell = Ok (Some (record { rule = C2; cell = Some cell }))
