-- How a store comes through a turn and through a filing.
use Rattle.std.proofs.Common.{◌≡◌, ℕ, true, false, List, [], ◌∷◌, ◌++◌, Some, None, Ok, Option, ⊎_elim, ◌⊎◌, inl, inr, refl, sym, ap, ◌∙◌, subst, arith}
use Rattle.cell_log.specs.Changes.{as_changes}
use Rattle.model.specs.Calls.{Outcome, Turned, turn, settings_of}
use Rattle.model.specs.Logs.{Log, find, value_in}
use Rattle.model.specs.Rules.{JobState, State, Event, SetCell, TookRight, Joined, counted, effect, happens}
use Rattle.model.specs.declared.Party.{Party}
use Rattle.model.specs.declared.Rule.{Rule}
use Rattle.model.specs.declared.Rule.TheVariants.{C2}
use Rattle.model.specs.declared.Step.{Step}
use Rattle.model.proofs.Basics.{zero_one}
use Rattle.model.proofs.Cases.{ruled}
use Rattle.model.proofs.Lifting.{turn-any}
use Rattle.store.specs.Sets.{SetsEach}
use Rattle.store.specs.declared.change.Change.{Change}
use Rattle.table.specs.Settings.{Through, by_c2, changes_in, sets_cell, turn_sets}

-- Where no cell is set, the store stays, and nothing else is said of it.
module _ {S : Type 0} (sets : S → ℕ → ℕ → S → Type 0) (s : S) (cs : List Change) (none : cs ≡ []) where
  pub untouched : SetsEach sets s cs s
  untouched = subst (λ xs. SetsEach sets s xs s) (sym none) refl

  pub same_store : (t : S) → SetsEach sets s cs t → t ≡ s
  same_store t x = subst (λ xs. SetsEach sets s xs t) none x

module _ {S : Type 0} (sets : S → ℕ → ℕ → S → Type 0) where
  pub through_both : (es fs : List Event) (s u t : S) → Through sets es s u → Through sets fs u t → Through sets (es ++ fs) s t
  through_both [] fs s u t x y = subst (λ z. Through sets fs z t) x y
  through_both (SetCell p c n ∷ es) fs s u t x y = (x.0, x.1, through_both es fs x.0 u t x.2 y)
  through_both (e ∷ es) fs s u t x y = through_both es fs s u t x y

-- A filing sets what its log has.
settings_in_log : (p : Party) (log : Log) → changes_in (settings_of p log ++ Joined p ∷ []) ≡ as_changes log
settings_in_log p [] = refl
settings_in_log p (e ∷ log) = ap (λ (cs : List Change). record { cell = e.cell; number = e.number } ∷ cs) (settings_in_log p log)

pub filed_through : {S : Type 0} (sets : S → ℕ → ℕ → S → Type 0) (p : Party) (log : Log) (s t : S) → SetsEach sets s (as_changes log) t →
    Through sets (TookRight p ∷ settings_of p log ++ Joined p ∷ []) s t
filed_through sets p log s t x = subst (λ cs. SetsEach sets s cs t) (sym (settings_in_log p log)) x

-- A turn sets no cell if it counts no setting, or if its answer names another rule than c2.
abbrev Quiet : State → Outcome Turned → Type 0
Quiet s o = (o.next.settings ≡ s.settings) ⊎ (turn_sets o.answer ≡ false)

counts_one : (n : ℕ) → counted n ≡ n → ⊥
counts_one n e = omega (arith, e)

module _ (s : State) (j : ℕ) where
  by_rule : (b : JobState) (step : Step) (c : ℕ) (r : Rule) → ((effect s j b step c r).settings ≡ s.settings) ⊎ (sets_cell r ≡ false) → changes_in (happens s j b c r) ≡ []
  by_rule b step c C2 h = absurd (⊎_elim (counts_one s.settings) (λ (e : true ≡ false). zero_one (cc)) h)
  by_rule b step c r h = refl

  pub quiet : Quiet s (turn s j) → changes_in (turn s j).events ≡ []
  quiet = turn-any s j (λ o. Quiet s o → changes_in o.events ≡ []) (λ h. refl) (λ h. refl) (λ b e step c r f h. by_rule b step c r h)

-- A turn by c2 sets its cell, and no other.
abbrev cell_in : Turned → Option ℕ
cell_in (Ok (Some applied)) = applied.cell
cell_in answer = None

abbrev SetsOne : Outcome Turned → Type 0
SetsOne o = (cell : ℕ) → o.answer ≡ by_c2 cell → (number : ℕ) × (changes_in o.events ≡ record { cell = cell; number = number } ∷ [])

module _ (s : State) (j : ℕ) where
  c2-by_rule : (b : JobState) (step : Step) (c : ℕ) (r : Rule) → SetsOne (ruled s j b step c r)
  c2-by_rule b step c C2 cell e =
      let named_so : Some c ≡ Some cell = ap cell_in e in
      let q : c ≡ cell = cc in
      (value_in (find b.writes c), ap (λ (x : ℕ). record { cell = x; number = value_in (find b.writes c) } ∷ []) q)
  c2-by_rule b step c r cell e = let bad : sets_cell r ≡ true = ap turn_sets e in zero_one (cc)

  sets-one : SetsOne (turn s j)
  sets-one =
      turn-any s j SetsOne (λ cell e. let bad : false ≡ true = ap turn_sets e in zero_one (cc)) (λ cell e. let bad : false ≡ true = ap turn_sets e in zero_one (cc)) (λ b h step c r f. c2-by_rule b step c r)

module _ {S : Type 0} (sets : S → ℕ → ℕ → S → Type 0) (st : S) (s : State) (j : ℕ) where
  pub not_set : (next : State) → next ≡ (turn s j).next → next.settings ≡ s.settings → Through sets (turn s j).events st st
  not_set next e f = untouched sets st _ (quiet s j (inl (sym (ap (λ z. z.settings) e) ∙ f)))

  pub kept_by_turn : (t : S) (a : Turned) → a ≡ (turn s j).answer → turn_sets a ≡ false → Through sets (turn s j).events st t → t ≡ st
  kept_by_turn t a e f x = same_store sets st _ (quiet s j (inr (sym (ap turn_sets e) ∙ f))) t x

  pub set_once : (t : S) (a : Turned) (cell : ℕ) → a ≡ (turn s j).answer → a ≡ by_c2 cell → Through sets (turn s j).events st t → (number : ℕ) × sets st cell number t
  set_once t a cell e f x =
      let one = sets-one s j cell (sym e ∙ f) in
      let y : SetsEach sets st (record { cell = cell; number = one.0 } ∷ []) t = subst (λ cs. SetsEach sets st cs t) one.1 x in
      (one.0, subst (λ u. sets st cell one.0 u) (sym y.2) y.1)
