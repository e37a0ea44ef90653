-- The places of held changes, and what a table does at them.
use Rattle.std.proofs.Common.{◌≡◌, ℕ, suc, Bool, ◌+◌, ◌^◌, ◌<◌, ◌≤◌, true, false, not, eqb, leb, List, [], ◌∷◌, ◌++◌, length, set, ltb, Some, None, sym, refl, ap, ⊎_elim, arith}
use Rattle.std.specs.List.{AllByRecursion as All, position, position_or_len}
use Rattle.std.proofs.lemmas.Option.{cond_some, none-some}
use Rattle.std.proofs.lemmas.Bool.{lt-ltb, ltb-true, both_ways, cases_Bool, cases_lt, le-leb, and_from, not_from_false}
use Rattle.store.specs.declared.change.Change.{Change}
use Rattle.store.specs.Changes.{sound, touches}
use Rattle.store.proofs.Changes.{Sound, all_from_sound, sound_from_all}
use Rattle.write_back.specs.Holding.{full, holding}

-- Whether a change is to the cell.
abbrev pub is_to : ℕ → Change → Bool
is_to cell c = eqb c.cell cell

-- The first change to the cell is replaced in its place.
put-at : (cs : List Change) (cell number : ℕ) → position_or_len (is_to cell) cs < length cs → set cs (position_or_len (is_to cell) cs) (record { cell = cell; number = number }) ≡ holding cs cell number
put-at [] cell number l = absurd (omega arith)
put-at (c ∷ cs) cell number l =
    ⊎_elim
    (λ (e : eqb c.cell cell ≡ true). rw e)
    (λ (e : eqb c.cell cell ≡ false).
    let next : 1 + position_or_len (is_to cell) cs ≡ suc (position_or_len (is_to cell) cs) = omega arith in
    rw (e, next) (ap (λ (rest : List Change). c ∷ rest) (put-at cs cell number (let l = rw e at l in omega arith))))
    (cases_Bool (eqb c.cell cell))

pub put_in_place : (cs : List Change) (i cell number : ℕ) → Some i ≡ position (is_to cell) cs → set cs i (record { cell = cell; number = number }) ≡ holding cs cell number
put_in_place cs i cell number e =
    let found = cond_some (ltb (position_or_len (is_to cell) cs) (length cs)) (position_or_len (is_to cell) cs) i (sym e) in
    let within = ltb-true (position_or_len (is_to cell) cs) (length cs) found.0 in
    rw (← found.1) (put-at cs cell number within)

-- A cell that is not held is held last.
put-last : (cs : List Change) (cell number : ℕ) → length cs ≤ position_or_len (is_to cell) cs → (touches cs cell ≡ false) × (cs ++ record { cell = cell; number = number } ∷ [] ≡ holding cs cell number)
put-last [] cell number l = (refl, refl)
put-last (c ∷ cs) cell number l =
    ⊎_elim
    (λ (e : eqb c.cell cell ≡ true). absurd (let l = rw e at l in omega arith))
    (λ (e : eqb c.cell cell ≡ false). let rest = put-last cs cell number (let l = rw e at l in omega arith) in rw e (rest.0, ap (λ (rest : List Change). c ∷ rest) rest.1))
    (cases_Bool (eqb c.cell cell))

pub put_at_end : (cs : List Change) (cell number : ℕ) → None ≡ position (is_to cell) cs → (touches cs cell ≡ false) × (cs ++ record { cell = cell; number = number } ∷ [] ≡ holding cs cell number)
put_at_end cs cell number e =
    let place = position_or_len (is_to cell) cs in
    ⊎_elim
    (λ (l : place < length cs). absurd (none-some place (rw (lt-ltb place (length cs) l) at e)))
    (λ (l : length cs ≤ place). put-last cs cell number l)
    (cases_lt place (length cs))

-- What holds of each held change holds still once a cell is held.
sound-holding_all : (P : Change → Type 0) (cs : List Change) (cell number : ℕ) → P (record { cell = cell; number = number }) → All P cs → All P (holding cs cell number)
sound-holding_all P [] cell number p h = (p, tt)
sound-holding_all P (c ∷ cs) cell number p h =
    ⊎_elim
    (λ (e : eqb c.cell cell ≡ true). rw e (p, h.1))
    (λ (e : eqb c.cell cell ≡ false). rw e (h.0, sound-holding_all P cs cell number p h.1))
    (cases_Bool (eqb c.cell cell))

pub sound-holding : (count : ℕ) (cs : List Change) (cell number : ℕ) → cell < count → number < 2 ^ 32 → sound count cs ≡ true → sound count (holding cs cell number) ≡ true
sound-holding count cs cell number a b h = sound_from_all count (holding cs cell number) (sound-holding_all (Sound count) cs cell number (a, b) (all_from_sound count cs h))

-- There is room for a cell that is not held, unless the table is full.
pub room : (cs : List Change) (cell : ℕ) → full cs cell ≡ false → touches cs cell ≡ false → length cs < 32
room cs cell f t =
    ⊎_elim
    (λ (l : length cs < 32). l)
    (λ (l : 32 ≤ length cs). absurd (both_ways (full cs cell) f (and_from (leb 32 (length cs)) (not (touches cs cell)) (le-leb 32 (length cs) l) (not_from_false (touches cs cell) t))))
    (cases_lt (length cs) 32)
