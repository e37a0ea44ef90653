-- What the order of a log says of its lowest cells, and of the cells that it sets.
use Rattle.std.proofs.Common.{◌≡◌, ℕ, ◌<◌, Bool, true, false, cond, [], ◌∷◌, Some, None, Option, inl, inr, sym, refl, ap, subst, arith}
use Rattle.std.proofs.lemmas.Bool.{ne_eqb}
use Rattle.model.specs.Law.{Member}
use Rattle.model.specs.Logs.{Log, Above, Ascending, lowest}
use Rattle.model.specs.declared.Entry.{Entry}
use Rattle.model.proofs.Basics.{by_bool}
use Rattle.store.specs.Changes.{touches, distinct}
use Rattle.cell_log.specs.Changes.{as_changes}
use Rattle.cell_log.specs.Lowest.{NoneBelow}
use Rattle.cell_log.specs.Rows.{ascends}
use Rattle.cell_log.proofs.Soundness.{ascends_ascending}

above_all : (c : ℕ) (l : Log) (e : Entry) → Above c l → Member e l → c < e.cell
above_all c [] e h m = absurd m
above_all c (x ∷ l) e h m = elim m [
  | inl q ↦ subst (λ (y : Entry). c < y.cell) (sym q) h.0
  | inr n ↦ above_all c l e h.1 n
]

module _ (t : Entry → Bool) (x : Entry) (l : Log) where
  fails_too : (o : Option ℕ) → t x ≡ false → NoneBelow t l o → NoneBelow t (x ∷ l) o
  fails_too None f h =
      λ e m. elim m [
        | inl q ↦ subst (λ (y : Entry). t y ≡ false) (sym q) f
        | inr n ↦ h e n
      ]
  fails_too (Some c) f h =
      λ e m lt. elim m [
        | inl q ↦ subst (λ (y : Entry). t y ≡ false) (sym q) f
        | inr n ↦ h e n lt
      ]

  first_fits : Above x.cell l → NoneBelow t (x ∷ l) (Some x.cell)
  first_fits a e m lt = elim m [
    | inl q ↦ let same : e.cell ≡ x.cell = ap (λ (y : Entry). y.cell) q in absurd (omega (arith, same, lt))
    | inr n ↦ let over : x.cell < e.cell = above_all x.cell l e a n in absurd (omega (arith, over, lt))
  ]

none_below : (t : Entry → Bool) (l : Log) → Ascending l → NoneBelow t l (lowest t l)
none_below t [] a = λ e m. absurd m
none_below t (x ∷ l) a =
    by_bool (t x)
    (λ q. subst (NoneBelow t (x ∷ l)) (sym (ap (λ b. cond b (Some x.cell) (lowest t l)) q)) (first_fits t x l a.0))
    (λ q. subst (NoneBelow t (x ∷ l)) (sym (ap (λ b. cond b (Some x.cell) (lowest t l)) q)) (fails_too t x l (lowest t l) q (none_below t l a.1)))

-- What is found first in a log is at its lowest cell.
pub least : (t : Entry → Bool) (l es : Log) (o : Option ℕ) → es ≡ l → ascends es ≡ true → o ≡ lowest t l → NoneBelow t l o
least t l es o e a q = subst (NoneBelow t l) (sym q) (none_below t l (ascends_ascending l (subst (λ xs. ascends xs ≡ true) e a)))

untouched : (c : ℕ) (l : Log) → Above c l → touches (as_changes l) c ≡ false
untouched c [] h = refl
untouched c (e ∷ l) h = let ne : e.cell ≡ c → ⊥ = (λ q. absurd (omega (arith, q, h.0))) in rw (ne_eqb e.cell c ne, untouched c l h.1)

each_once : (l : Log) → Ascending l → distinct (as_changes l) ≡ true
each_once [] a = refl
each_once (e ∷ l) a = rw (untouched e.cell l a.0, each_once l a.1)

pub set_once : (l es : Log) → es ≡ l → ascends es ≡ true → distinct (as_changes l) ≡ true
set_once l es e a = each_once l (ascends_ascending l (subst (λ xs. ascends xs ≡ true) e a))
