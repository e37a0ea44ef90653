-- How a store comes through several sets. Assumes nothing.
use Rattle.std.specs.Prelude.{◌≡◌, ℕ, List, [], ◌∷◌}
use Rattle.store.specs.declared.change.Change.{Change}

-- Each of these changes is set once, in their order, and nothing else touches the store. What one set makes of a store is
-- `sets`, which each kind of store says of itself.
module _ {S : Type 0} (sets : S → ℕ → ℕ → S → Type 0) where
  abbrev pub SetsEach : S → List Change → S → Type 0
  SetsEach s [] t = t ≡ s
  SetsEach s (c ∷ cs) t = (u : S) × sets s c.cell c.number u × SetsEach u cs t
