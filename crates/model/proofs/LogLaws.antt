-- Laws of logs.
use Rattle.std.proofs.Common.{◌≡◌, ℕ, suc, ◌<◌, ◌≤◌, Bool, true, cond, eqb, ltb, ◌⊎◌, List, [], ◌∷◌, length, set, Some, None, unwrap_or, sym, refl, ap, ◌∙◌, subst, inl, inr, arith, ltb-false, ltb-true, eqb-true}
use borrow.Author.Tests.{eqb-false}
use Rattle.std.proofs.lemmas.List.{set-set, set_comm}
use Rattle.model.specs.Logs.{Log, Above, Ascending, entry, find, put, remove, lowest, any, cell_of, current, changed, set_all, value_in}
use Rattle.model.specs.Replay.{Note, noted, entered}
use Rattle.model.specs.declared.Entry.{Entry}
use Rattle.model.proofs.Basics.{by_bool, by_cond, zero_one}

-- The cells hold what the log has.
abbrev pub Agrees : Log → List ℕ → Type 0
Agrees l C = (a v : ℕ) → find l a ≡ Some v → cell_of C a ≡ v

find-put_same : (l : Log) (a v : ℕ) → find (put l a v) a ≡ Some v
find-put_same [] a v = grind arith
find-put_same (p ∷ l) a v = let ih = find-put_same l a v in grind arith

find-put_other : (l : Log) (a b v : ℕ) → (a ≡ b → ⊥) → find (put l a v) b ≡ find l b
find-put_other [] a b v ne = grind arith
find-put_other (p ∷ l) a b v ne = let ih = find-put_other l a b v ne in grind arith

find-remove_other : (l : Log) (a b : ℕ) → (a ≡ b → ⊥) → find (remove l a) b ≡ find l b
find-remove_other [] a b ne = refl
find-remove_other (p ∷ l) a b ne = let ih = find-remove_other l a b ne in grind arith

pub agrees_put : (l : Log) (C : List ℕ) (c v : ℕ) → find l c ≡ None → Agrees (put l c v) C → Agrees l C × (cell_of C c ≡ v)
agrees_put l C c v h g = (
  λ a w e.
      by_bool (eqb c a)
      (λ t. let q : c ≡ a = eqb-true c a t in let z : ◌≡◌ {A = ℕ} (cell_of C a) w = cc in z)
      (λ t. g a w (find-put_other l c a v (eqb-false c a t) ∙ e)),
  g c v (find-put_same l c v),
)

-- Where no entry has changed.
pub unchanged_agrees : (C : List ℕ) (l : Log) → lowest (changed C) l ≡ None → Agrees l C
unchanged_agrees C [] h a v e = grind arith
unchanged_agrees C (p ∷ l) h a v e =
    let ih : lowest (changed C) l ≡ None → find l a ≡ Some v → cell_of C a ≡ v = λ x y. unchanged_agrees C l x a v y in
    grind arith

pub unchanged-put : (C : List ℕ) (l : Log) (c : ℕ) → lowest (changed C) l ≡ None → lowest (changed C) (put l c (cell_of C c)) ≡ None
unchanged-put C [] c h = grind arith
unchanged-put C (p ∷ l) c h =
    let ih : lowest (changed C) l ≡ None → lowest (changed C) (put l c (cell_of C c)) ≡ None = unchanged-put C l c in
    grind arith

pub unchanged-remove : (C : List ℕ) (l : Log) (c : ℕ) → lowest (changed C) l ≡ None → lowest (changed C) (remove l c) ≡ None
unchanged-remove C [] c h = refl
unchanged-remove C (p ∷ l) c h =
    let ih : lowest (changed C) l ≡ None → lowest (changed C) (remove l c) ≡ None = unchanged-remove C l c in
    grind arith

pub none_any : (l : Log) → lowest any l ≡ None → l ≡ []
none_any [] h = refl
none_any (p ∷ l) h = cc

pub none_either : (C : List ℕ) (l : Log) → lowest (current C) l ≡ None → lowest (changed C) l ≡ None → l ≡ []
none_either C [] g h = refl
none_either C (p ∷ l) g h = grind arith

-- Ascending logs.
pub above_less : (a b : ℕ) (l : Log) → a ≤ b → Above b l → Above a l
above_less a b [] h k = tt
above_less a b (p ∷ l) h k = let q : b < p.cell = k.0 in (omega arith, above_less a b l h k.1)

above_lowest : (a c : ℕ) (t : Entry → Bool) (l : Log) → Above a l → lowest t l ≡ Some c → a < c
above_lowest a c t [] h e = zero_one (cc)
above_lowest a c t (p ∷ l) h e =
    by_bool (t p)
    (λ q. let u : Some p.cell ≡ Some c = sym (ap (λ z. cond z (Some p.cell) (lowest t l)) q) ∙ e in let x : p.cell ≡ c = cc in omega (arith, h.0))
    (λ q. above_lowest a c t l h.1 (sym (ap (λ z. cond z (Some p.cell) (lowest t l)) q) ∙ e))

-- The entry at the lowest cell that passes a test is that cell's.
pub lowest_found : (t : Entry → Bool) (l : Log) (c : ℕ) → Ascending l → lowest t l ≡ Some c → (v : ℕ) × (find l c ≡ Some v) × (t (entry c v) ≡ true)
lowest_found t [] c h e = zero_one (cc)
lowest_found t (p ∷ l) c h e =
    by_bool (t p)
    (λ q.
    let u : Some p.cell ≡ Some c = sym (ap (λ z. cond z (Some p.cell) (lowest t l)) q) ∙ e in
    let x : p.cell ≡ c = cc in
    (p.number, (grind arith), subst (λ z. t (entry z p.number) ≡ true) x q))
    (λ q.
    let u : lowest t l ≡ Some c = sym (ap (λ z. cond z (Some p.cell) (lowest t l)) q) ∙ e in
    let r = lowest_found t l c h.1 u in
    let lt : p.cell < c = above_lowest p.cell c t l h.0 u in
    let f : find l c ≡ Some r.0 = r.1 in
    (r.0, (grind arith), r.2))

-- A read that is no more in the log was found to be current.
pub kept_remove : (C : List ℕ) (l : Log) (c : ℕ) → Ascending l → lowest (current C) l ≡ Some c →
    (a v : ℕ) → find l a ≡ Some v → (find (remove l c) a ≡ Some v) ⊎ (cell_of C a ≡ v)
kept_remove C l c h e a v f =
    by_bool (eqb c a)
    (λ t.
    let q : c ≡ a = eqb-true c a t in
    let r = lowest_found (current C) l c h e in
    let x : Some r.0 ≡ Some v = sym r.1 ∙ (ap (find l) q ∙ f) in
    let y : r.0 ≡ v = cc in
    let z : cell_of C c ≡ r.0 = eqb-true (cell_of C c) r.0 r.2 in
    inr (sym (ap (cell_of C) q) ∙ (z ∙ y)))
    (λ t. inl (find-remove_other l c a (eqb-false c a t) ∙ f))

above_put : (a c v : ℕ) (l : Log) → Above a l → a < c → Above a (put l c v)
above_put a c v [] h k = (k, tt)
above_put a c v (p ∷ l) h k =
    by_cond (Above a) (eqb p.cell c) _ _
    (λ e. (k, h.1))
    (λ e. by_cond (Above a) (ltb c p.cell) _ _ (λ f. (k, h)) (λ f. (h.0, above_put a c v l h.1 k)))

pub ascending_put : (c v : ℕ) (l : Log) → Ascending l → Ascending (put l c v)
ascending_put c v [] h = (tt, tt)
ascending_put c v (p ∷ l) h =
    by_cond Ascending (eqb p.cell c) _ _
    (λ e. (subst (λ z. Above z l) (eqb-true p.cell c e) h.0, h.1))
    (λ e.
    by_cond Ascending (ltb c p.cell) _ _
    (λ f. let q : c < p.cell = ltb-true c p.cell f in ((q, above_less c p.cell l (omega arith) h.0), h))
    (λ f.
    let q : p.cell ≤ c = ltb-false c p.cell f in
    let ne : p.cell ≡ c → ⊥ = eqb-false p.cell c e in
    (above_put p.cell c v l h.0 (omega arith), ascending_put c v l h.1)))

above_remove : (a c : ℕ) (l : Log) → Above a l → Above a (remove l c)
above_remove a c [] h = tt
above_remove a c (p ∷ l) h = by_cond (Above a) (eqb p.cell c) _ _ (λ e. h.1) (λ e. (h.0, above_remove a c l h.1))

pub ascending_remove : (c : ℕ) (l : Log) → Ascending l → Ascending (remove l c)
ascending_remove c [] h = tt
ascending_remove c (p ∷ l) h =
    by_cond Ascending (eqb p.cell c) _ _ (λ e. h.1) (λ e. (above_remove p.cell c l h.0, ascending_remove c l h.1))

pub length-put_le : (c v : ℕ) (l : Log) → length (put l c v) ≤ suc (length l)
length-put_le c v [] = let q : 1 ≤ 1 = omega arith in q
length-put_le c v (p ∷ l) = let ih = length-put_le c v l in grind arith

length-put_old : (c v w : ℕ) (l : Log) → Ascending l → find l c ≡ Some w → length (put l c v) ≡ length l
length-put_old c v w [] h e = zero_one (cc)
length-put_old c v w (p ∷ l) h e =
    by_cond (λ (x : Log). length x ≡ suc (length l)) (eqb p.cell c) _ _
    (λ t. refl)
    (λ t.
    let u : find l c ≡ Some w = sym (ap (λ z. cond z (Some p.number) (find l c)) t) ∙ e in
    by_cond (λ (x : Log). length x ≡ suc (length l)) (ltb c p.cell) _ _
    (λ f. absurd (above_absent c p.cell w l h.0 (ltb-true c p.cell f) u))
    (λ f. ap suc (length-put_old c v w l h.1 u)))
  where
    above_absent : (c a w : ℕ) (l : Log) → Above a l → c < a → find l c ≡ Some w → ⊥
    above_absent c a w [] h k e = zero_one (cc)
    above_absent c a w (p ∷ l) h k e =
        let q : a < p.cell = h.0 in
        let ih : find l c ≡ Some w → ⊥ = above_absent c a w l h.1 k in
        grind arith

pub length-remove_le : (c : ℕ) (l : Log) → length (remove l c) ≤ length l
length-remove_le c [] = omega arith
length-remove_le c (p ∷ l) = let ih = length-remove_le c l in grind arith

pub shorter : (l : Log) (c : ℕ) → lowest any l ≡ Some c → suc (length (remove l c)) ≡ length l
shorter [] c e = zero_one (cc)
shorter (p ∷ l) c e = let q : p.cell ≡ c = cc in grind arith

-- An ascending log of at most n entries.
abbrev pub Sized : ℕ → Log → Type 0
Sized n l = Ascending l × (length l ≤ n)

pub sized_none : (n : ℕ) (l : Log) → l ≡ [] → Sized n l
sized_none n l e = subst (Sized n) (sym e) (tt, omega arith)

pub sized_more : (n m : ℕ) (l : Log) → n ≤ m → Sized n l → Sized m l
sized_more n m l h k = (k.0, omega (arith, k.1))

pub sized_put : (n c v : ℕ) (l : Log) → Sized n l → Sized (suc n) (put l c v)
sized_put n c v l h = (ascending_put c v l h.0, omega (arith, length-put_le c v l, h.1))

pub sized_put_old : (n c v w : ℕ) (l : Log) → find l c ≡ Some w → Sized n l → Sized n (put l c v)
sized_put_old n c v w l e h = (ascending_put c v l h.0, omega (arith, length-put_old c v w l h.0 e, h.1))

pub sized_remove : (n c : ℕ) (l : Log) → Sized n l → Sized n (remove l c)
sized_remove n c l h = (ascending_remove c l h.0, omega (arith, length-remove_le c l, h.1))

-- What a write log sets.
set_through : (c v : ℕ) (l : Log) (C : List ℕ) → Above c l → set (set_all l C) c v ≡ set_all l (set C c v)
set_through c v [] C h = refl
set_through c v (p ∷ l) C h =
    let lt : c < p.cell = h.0 in
    let ne : p.cell ≡ c → ⊥ = λ e. omega arith in
    set_through c v l (set C p.cell p.number) h.1 ∙ ap (set_all l) (set_comm C p.cell c p.number v ne)

set_all-put : (c v : ℕ) (l : Log) (C : List ℕ) → Ascending l → set_all (put l c v) C ≡ set (set_all l C) c v
set_all-put c v [] C h = refl
set_all-put c v (p ∷ l) C h =
    by_cond (λ (x : Log). set_all x C ≡ set (set_all (p ∷ l) C) c v) (eqb p.cell c) _ _
    (λ e.
    let q : p.cell ≡ c = eqb-true p.cell c e in
    let a : set (set_all l (set C p.cell p.number)) c v ≡ set_all l (set (set C p.cell p.number) c v) = set_through c v l (set C p.cell p.number) (subst (λ z. Above z l) q h.0) in
    let b : set (set C p.cell p.number) c v ≡ set C c v = ap (λ z. set (set C z p.number) c v) q ∙ set-set C c p.number v in
    sym (a ∙ ap (set_all l) b))
    (λ e.
    by_cond (λ (x : Log). set_all x C ≡ set (set_all (p ∷ l) C) c v) (ltb c p.cell) _ _
    (λ f.
    let q : c < p.cell = ltb-true c p.cell f in
    sym (set_through c v (p ∷ l) C (q, above_less c p.cell l (omega arith) h.0)))
    (λ f. set_all-put c v l (set C p.cell p.number) h.1))

pub set_all_first : (w : Log) (C : List ℕ) (c : ℕ) → lowest any w ≡ Some c → set_all (remove w c) (set C c (value_in (find w c))) ≡ set_all w C
set_all_first [] C c h = zero_one (cc)
set_all_first (p ∷ l) C c h = let q : p.cell ≡ c = cc in grind arith

-- A write log and the notes of a player that mean the same.
pub record Means (l : Log) (notes : List Note) : Type 0 where
  pub finds : (C : List ℕ) (a : ℕ) → noted C notes a ≡ unwrap_or (find l a) (cell_of C a)
  pub sets : (C : List ℕ) → entered C notes ≡ set_all l C

abbrev pub note : ℕ → ℕ → Note
note c v = record { cell = c; number = v }

pub means_none : Means [] []
means_none = record { finds = λ C a. refl; sets = λ C. refl }

pub means_put : (l : Log) (notes : List Note) (c v : ℕ) → Ascending l → Means l notes → Means (put l c v) (note c v ∷ notes)
means_put l notes c v h m = record {
  finds = λ C a.
      by_cond (λ (x : ℕ). x ≡ unwrap_or (find (put l c v) a) (cell_of C a)) (eqb c a) v (noted C notes a)
      (λ t. sym (ap (λ o. unwrap_or o (cell_of C a)) (subst (λ z. find (put l c v) z ≡ Some v) (eqb-true c a t) (find-put_same l c v))))
      (λ t. m.finds C a ∙ sym (ap (λ o. unwrap_or o (cell_of C a)) (find-put_other l c a v (eqb-false c a t))));
  sets = λ C. ap (λ (X : List ℕ). set X c v) (m.sets C) ∙ sym (set_all-put c v l C h);
}
