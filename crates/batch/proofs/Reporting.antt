-- The lines of a report, one after the other.
use Rattle.std.proofs.Common.{inl, inr, subst, Some, ◌^◌, ◌≡◌, ℕ, zero, suc, ◌+◌, ◌-◌, ◌<◌, ◌≤◌, Bool, true, false, cond, ◌||◌, ltb, List, [], ◌∷◌, ◌++◌, length, drop, None, Ok, Err, Option, sym, refl, ap, ◌∙◌, append_assoc, add-one, arith}
use Rattle.std.proofs.lemmas.Bool.{cases_lt, ltb-true, ltb-false}
use Rattle.std.proofs.lemmas.Option.{slice_get-get_or, slice_get_past}
use Rattle.std.specs.List.{slice_get, list_any, range_with_len}
use Rattle.std.proofs.lemmas.List.{append-nil, at_drop_all, length-map}
use Rattle.model.specs.Intake.{cell_answer}
use Rattle.model.specs.Logs.{at, cell_of}
use Rattle.model.specs.Rules.{JobState, State}
use Rattle.model.specs.declared.Party.{Party}
use Rattle.model.specs.declared.Refusal.TheVariants.{NoSuchCell}
use Rattle.model.proofs.Basics.{zero_one}
use Rattle.script.specs.Scripts.{Words}
use Rattle.batch.specs.Reports.{numbered, is_job, has_committed, cell_text, answer_text, cells_text, starts_in}

-- What is written so far, and what is still to be written.
pub record Lines (written before rest whole : List ℕ) : Type 0 where
  pub so_far : written ++ rest ≡ before ++ whole

pub one_more : (written' written before line rest rest' whole : List ℕ) → written' ≡ written ++ line → rest ≡ line ++ rest' → Lines written before rest whole → Lines written' before rest' whole
one_more written' written before line rest rest' whole e f h =
    record { so_far = ap (λ bs. bs ++ rest') e ∙ (append_assoc written line rest' ∙ (ap (λ bs. written ++ bs) (sym f) ∙ h.so_far)) }

pub all_written : (written before rest whole : List ℕ) → rest ≡ [] → Lines written before rest whole → written ≡ before ++ whole
all_written written before rest whole e h = sym (append-nil written) ∙ (ap (λ bs. written ++ bs) (sym e) ∙ h.so_far)

-- The members of a list from place k on, counted from 0: the first of them, if there is one, and the others.
module _ {X : Type 0} (line : ℕ → Option X → List ℕ) (blank : (n : ℕ) → line n None ≡ []) where
  numbered-drop : (xs : List X) (k n : ℕ) → numbered line n (drop k xs) ≡ line n (slice_get xs k) ++ numbered line (suc n) (drop (suc k) xs)
  numbered-drop [] zero n = ap (λ bs. bs ++ []) (sym (blank n))
  numbered-drop [] (suc k) n = ap (λ bs. bs ++ []) (sym (blank n))
  numbered-drop (x ∷ xs) zero n = refl
  numbered-drop (x ∷ xs) (suc k) n = numbered-drop xs k n

  -- The same where places are counted from 1.
  numbered_next : (xs : List X) (n : ℕ) → 1 ≤ n → numbered line n (drop (n - 1) xs) ≡ line n (at xs n) ++ numbered line (n + 1) (drop (n + 1 - 1) xs)
  numbered_next xs zero h = absurd (omega arith)
  numbered_next xs (suc k) h =
      let a : suc k - 1 ≡ k = omega arith in
      let b : suc k + 1 - 1 ≡ suc k = omega arith in
      let c : suc k + 1 ≡ suc (suc k) = omega arith in
      rw (a, b, c) (numbered-drop xs k (suc k))

  pub numbered_over : (xs : List X) (k n : ℕ) → length xs ≤ k → numbered line n (drop k xs) ≡ []
  numbered_over xs k n l = at_drop_all (numbered line n) xs k l

  -- After the line of place n, counted from 1, and after the last line.
  module _ (xs : List X) (n : ℕ) (before : List ℕ) where
    pub one_place : (written' written : List ℕ) → 1 ≤ n → written' ≡ written ++ line n (at xs n) → Lines written before (numbered line n (drop (n - 1) xs)) (numbered line 1 xs) →
        Lines written' before (numbered line (n + 1) (drop (n + 1 - 1) xs)) (numbered line 1 xs)
    one_place written' written l e h =
        one_more written' written before (line n (at xs n)) (numbered line n (drop (n - 1) xs)) (numbered line (n + 1) (drop (n + 1 - 1) xs)) (numbered line 1 xs) e (numbered_next xs n l) h

    pub all_places : (written : List ℕ) → length xs < n → Lines written before (numbered line n (drop (n - 1) xs)) (numbered line 1 xs) → written ≡ before ++ numbered line 1 xs
    all_places written l h = all_written written before (numbered line n (drop (n - 1) xs)) (numbered line 1 xs) (numbered_over xs (n - 1) n (omega arith)) h

-- Who has committed: some party of the order from place k on, counted from 0.
committed-drop : (order : List Party) (k j : ℕ) → has_committed (drop k order) j ≡ (is_job j (slice_get order k) || has_committed (drop (suc k) order) j)
committed-drop [] zero j = refl
committed-drop [] (suc k) j = refl
committed-drop (p ∷ order) zero j = refl
committed-drop (p ∷ order) (suc k) j = committed-drop order k j

module _ (order : List Party) (j : ℕ) where
  some-place : (n k : ℕ) → length order ≡ k + n → list_any (λ place. is_job j (at order place)) (range_with_len (suc k) n) ≡ has_committed (drop k order) j
  some-place zero k l = sym (at_drop_all (λ ps. has_committed ps j) order k (omega arith))
  some-place (suc n) k l =
      let e : length order ≡ suc k + n = omega arith in
      rw (add-one, some-place n (suc k) e) (sym (committed-drop order k j))

  pub at_some_place : list_any (λ place. is_job j (at order place)) (range_with_len 1 (length order)) ≡ has_committed order j
  at_some_place = some-place (length order) 0 (omega arith)

-- A cell's answer is its line.
cell_line_at : (s : State) (cell : ℕ) (t : Bool) → ltb cell (length s.cells) ≡ t → answer_text cell (cell_answer s cell) ≡ cell_text cell (slice_get s.cells cell)
cell_line_at s cell true e = ap (λ t. answer_text cell (cond t (Ok (cell_of s.cells cell)) (Err NoSuchCell))) e ∙ ap (cell_text cell) (sym (slice_get-get_or s.cells cell 0 (ltb-true cell (length s.cells) e)))
cell_line_at s cell false e = ap (λ t. answer_text cell (cond t (Ok (cell_of s.cells cell)) (Err NoSuchCell))) e ∙ ap (cell_text cell) (sym (slice_get_past s.cells cell (ltb-false cell (length s.cells) e)))

cell_line : (s : State) (cell : ℕ) → answer_text cell (cell_answer s cell) ≡ cell_text cell (slice_get s.cells cell)
cell_line s cell = cell_line_at s cell (ltb cell (length s.cells)) refl

pub cells_next : (s : State) (k : ℕ) → cells_text k (drop k s.cells) ≡ answer_text k (cell_answer s k) ++ cells_text (k + 1) (drop (k + 1) s.cells)
cells_next s k =
    rw (add-one, cell_line s k) (numbered-drop cell_text (λ n. refl) s.cells k k)

-- Numbers of 32 bits, one place further, and all of them; places are counted from 1.
abbrev pub FitBelow : List ℕ → ℕ → Type 0
FitBelow ns k = (j n : ℕ) → j < k → at ns j ≡ Some n → n < 2 ^ 32

pub one_fits : (ns : List ℕ) (k : ℕ) → ((n : ℕ) → at ns k ≡ Some n → n < 2 ^ 32) → FitBelow ns k → FitBelow ns (k + 1)
one_fits ns k h below j n l e = elim (cases_lt j k) [
  | inl l' ↦ below j n l' e
  | inr l' ↦ let q : j ≡ k = omega (arith, l, l') in h n (subst (λ (x : ℕ). at ns x ≡ Some n) q e)
]

pub all_fit : (ns : List ℕ) (k : ℕ) → length ns < k → FitBelow ns k → Words ns
all_fit [] k l below = tt
all_fit (n ∷ ns) k l below = (below 1 n (omega (arith, l)) refl, all_fit ns (k - 1) (omega (arith, l)) rest)
  where
    rest : FitBelow ns (k - 1)
    rest zero m l' e = zero_one (cc)
    rest (suc j) m l' e = below (suc (suc j)) m (omega (arith, l')) e

pub starts-many : (s : State) → length (starts_in s) ≡ length s.jobs
starts-many s = length-map s.jobs (λ (b : JobState). b.starts)
