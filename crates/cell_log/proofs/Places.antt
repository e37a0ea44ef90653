-- What the place of a cell tells of its log.
use Rattle.std.proofs.Common.{◌≡◌, ℕ, zero, suc, ◌<◌, ◌≤◌, [], ◌∷◌, length, get_or, Some, None, Ok, Err, Option, Bool, leb, ltb, sym, refl, ap, arith}
use Rattle.std.specs.List.{position, position_or_len}
use Rattle.std.proofs.lemmas.Bool.{lt-ltb, le-ltb, eq-eqb, ne_eqb, leb-true, leb-false, ltb-false}
use Rattle.std.proofs.lemmas.List.Sums.{fails_before_first}
use Rattle.std.proofs.lemmas.List.Quantifiers.{position-Some}
use Rattle.model.proofs.Basics.{by_bool, zero_one}
use Rattle.model.specs.Logs.{Log, Above, Ascending, entry, find, remove}
use Rattle.model.specs.declared.Entry.{Entry}
use Rattle.model.proofs.LogLaws.{above_less}
use Rattle.cell_log.specs.Places.{Has, Placed}

has_further : (e : Entry) (l : Log) (c : ℕ) (o : Option ℕ) (f : ℕ → Log) (r : Log) → e.cell < c → Has l c o f r → Has (e ∷ l) c o (λ n. e ∷ f n) (e ∷ r)
has_further e l c o f r h s =
    let ne = ne_eqb e.cell c (λ q. omega arith) in
    let nl = le-ltb c e.cell (omega arith) in
    record {
      found = rw ne s.found;
      puts = λ n. rw (ne, nl) (ap (λ (z : Log). e ∷ z) (s.puts n));
      removes = rw ne (ap (λ (z : Log). e ∷ z) s.removes);
    }

placed_here : (e : Entry) (l : Log) (c : ℕ) → e.cell ≡ c → Placed (e ∷ l) c (Ok 0)
placed_here e l c h =
    let q = eq-eqb e.cell c h in
    (omega arith, record { found = rw q; puts = λ n. rw q; removes = rw q })

above_absent : (c : ℕ) (l : Log) → Above c l → (find l c ≡ None) × (remove l c ≡ l)
above_absent c [] h = (refl, refl)
above_absent c (e ∷ l) h =
    let ne = ne_eqb e.cell c (λ q. omega (arith, h.0)) in
    let ih = above_absent c l h.1 in
    (rw ne ih.0, rw ne (ap (λ (z : Log). e ∷ z) ih.1))

placed_before : (e : Entry) (l : Log) (c : ℕ) → Above c (e ∷ l) → Placed (e ∷ l) c (Err 0)
placed_before e l c a =
    let h : c < e.cell = a.0 in
    let ne = ne_eqb e.cell c (λ q. omega arith) in
    let lt = lt-ltb c e.cell h in
    let absent = above_absent c (e ∷ l) a in
    (omega arith, record { found = absent.0; puts = λ n. rw (ne, lt); removes = absent.1 })

-- In an ascending log a later entry has a greater cell.
above_at : (c : ℕ) (l : Log) (i : ℕ) (d : Entry) → Above c l → i < length l → c < (get_or l i d).cell
above_at c [] i d a h = absurd (omega arith)
above_at c (e ∷ l) zero d a h = a.0
above_at c (e ∷ l) (suc i) d a h = above_at c l i d a.1 (omega arith)

rises : (l : Log) (i j : ℕ) (d : Entry) → Ascending l → i ≤ j → j < length l → (get_or l i d).cell ≤ (get_or l j d).cell
rises [] i j d a le h = absurd (omega arith)
rises (e ∷ l) zero zero d a le h = omega arith
rises (e ∷ l) zero (suc j) d a le h = omega (arith, above_at e.cell l j d a.0 (omega arith))
rises (e ∷ l) (suc i) zero d a le h = absurd (omega arith)
rises (e ∷ l) (suc i) (suc j) d a le h = rises l i j d a.1 (omega arith) (omega arith)

placed_at : (l : Log) (c i : ℕ) → Ascending l → i < length l → (get_or l i (entry 0 0)).cell ≡ c → Placed l c (Ok i)
placed_at [] c i a h q = absurd (omega arith)
placed_at (e ∷ l) c zero a h q = placed_here e l c q
placed_at (e ∷ l) c (suc i) a h q =
    let less : e.cell < c = omega (arith, above_at e.cell l i (entry 0 0) a.0 (omega arith)) in
    (h, has_further e l c _ _ _ less (placed_at l c i a.1 (omega arith) q).1)

placed_between : (l : Log) (c i : ℕ) → Ascending l → i ≤ length l → ((k : ℕ) → k < i → (get_or l k (entry 0 0)).cell < c) → ((k : ℕ) → i ≤ k → k < length l → c < (get_or l k (entry 0 0)).cell) → Placed l c (Err i)
placed_between [] c zero a h less more = (omega arith, record { found = refl; puts = λ n. refl; removes = refl })
placed_between [] c (suc i) a h less more = absurd (omega arith)
placed_between (e ∷ l) c zero a h less more =
    let lt : c < e.cell = more 0 (omega arith) (omega arith) in
    placed_before e l c (lt, above_less c e.cell l (omega arith) a.0)
placed_between (e ∷ l) c (suc i) a h less more =
    let rest = placed_between l c i a.1 (omega arith) (λ k lt. less (suc k) (omega arith)) (λ k le lt. more (suc k) (omega arith) (omega arith)) in
    (h, has_further e l c _ _ _ (less 0 (omega arith)) rest.1)

-- The first entry that is not below the cell tells its place.
module _ (l : Log) (c : ℕ) (a : Ascending l) where
  abbrev none : Entry
  none = entry 0 0

  abbrev reaches : Entry → Bool
  reaches e = leb c e.cell

  pub first_is : (i : ℕ) → Some i ≡ position reaches l → (get_or l i none).cell ≡ c → Placed l c (Ok i)
  first_is i p q = placed_at l c i a (position-Some reaches l i none (sym p)).0 q

  pub first_over : (i : ℕ) → Some i ≡ position reaches l → ((get_or l i none).cell ≡ c → ⊥) → Placed l c (Err i)
  first_over i p n =
      let s = position-Some reaches l i none (sym p) in
      let over : c < (get_or l i none).cell = omega (arith, leb-true c (get_or l i none).cell s.1, n) in
      placed_between l c i a (omega (arith, s.0)) (λ k lt. omega (arith, leb-false c (get_or l k none).cell (s.2 k lt))) (λ k le lt. omega (arith, over, rises l i k none a le lt))

  pub none_over : None ≡ position reaches l → Placed l c (Err (length l))
  none_over p =
      let n = position_or_len reaches l in
      let past : length l ≤ n = by_bool (ltb n (length l)) (λ t. zero_one (let q = rw t at p in cc)) (λ t. ltb-false n (length l) t) in
      placed_between l c (length l) a (omega arith) (λ k lt. omega (arith, leb-false c (get_or l k none).cell (fails_before_first reaches l k none (omega (arith, past, lt))))) (λ k le lt. absurd (omega (arith, le, lt)))
