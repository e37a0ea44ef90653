-- What a write-back layer holds, as a list of changes, the one held longest first. Assumes nothing.
use Rattle.std.specs.Prelude.{◌≡◌, ℕ, Bool, true, false, cond, not, ◌&&◌, List, [], ◌∷◌, length, drop, Some, None, Option, ◌==◌, nat_le, nat_lt, slice_set}
use Rattle.store.specs.declared.change.Change.{Change}
use Rattle.store.specs.Changes.{touches}
use Rattle.write_back.specs.declared.WriteBack.{WriteBack}
use Rattle.write_back.specs.declared.held.Held.{Held}

-- The changes that a table of held cells holds.
abbrev pub held_in : Held → List Change
held_in held = held.changes.items

-- Whether a cell finds no room: 32 others are held.
abbrev pub full : List Change → ℕ → Bool
full held cell = nat_le 32 (length held) && not (touches held cell)

-- The change held longest.
abbrev pub oldest : List Change → Option Change
oldest [] = None
oldest (c ∷ cs) = Some c

-- What has to be set below before a cell is held.
abbrev pub evicted : List Change → ℕ → Option Change
evicted held cell = cond (full held cell) (oldest held) None

-- What is still held then.
abbrev pub remaining : List Change → ℕ → List Change
remaining held cell = cond (full held cell) (drop 1 held) held

-- The cells below with an evicted change made.
abbrev pub set_below : List ℕ → Option Change → List ℕ
set_below cells None = cells
set_below cells (Some c) = slice_set cells c.cell c.number

-- A held cell has its number replaced in its place; another is held last.
abbrev pub holding : List Change → ℕ → ℕ → List Change
holding [] cell number = record { cell = cell; number = number } ∷ []
holding (c ∷ cs) cell number = cond (c.cell == cell) (record { cell = cell; number = number } ∷ cs) (c ∷ holding cs cell number)

-- How a layer over a store comes through a set, where `sets` is what one set makes of the store below, and `cells` its cells.
module _ {S : Type 0} (cells : S → List ℕ) (sets : S → ℕ → ℕ → S → Type 0) where
  -- An evicted change is set below, once; where there is none, the store below is the same.
  abbrev pub Evicts : S → Option Change → S → Type 0
  Evicts below None below' = below' ≡ below
  Evicts below (Some c) below' = sets below c.cell c.number below'

  -- Where there is such a cell, it is held, and what finds no room is set below; else the layer is the same.
  abbrev pub holds_if : Bool → WriteBack S → ℕ → ℕ → WriteBack S → Type 0
  holds_if true layer cell number layer' =
      (held_in layer'.held ≡ holding (remaining (held_in layer.held) cell) cell number) × Evicts layer.below (evicted (held_in layer.held) cell) layer'.below
  holds_if false layer cell number layer' = layer' ≡ layer

  abbrev pub Holds : WriteBack S → ℕ → ℕ → WriteBack S → Type 0
  Holds layer cell number layer' = holds_if (nat_lt cell (length (cells layer.below))) layer cell number layer'
