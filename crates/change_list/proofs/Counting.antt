-- How many cells a list of changes is to, of those below n.
use Rattle.std.proofs.Common.{◌≡◌, ℕ, zero, suc, ◌+◌, ◌<◌, ◌≤◌, true, false, cond, List, [], ◌∷◌, length, refl, ⊎_elim, arith}
use Rattle.std.proofs.lemmas.Bool.{cases_eq, cases_Bool, eq-eqb, ne_eqb}
use Rattle.std.specs.List.{AllByRecursion as All}
use Rattle.store.specs.declared.change.Change.{Change}
use Rattle.store.specs.Changes.{sound, touches}
use Rattle.store.proofs.Changes.{Sound, all_from_sound}
use Rattle.change_list.specs.Records.{newest}

tally : ℕ → List Change → ℕ
tally zero cs = 0
tally (suc n) cs = cond (touches cs n) 1 0 + tally n cs

tally_le : (n : ℕ) (cs : List Change) → tally n cs ≤ n
unfolding tally
tally_le zero cs = omega arith
tally_le (suc n) cs =
    let rest = tally_le n cs in
    ⊎_elim
    (λ (e : touches cs n ≡ true). rw e (omega arith))
    (λ (e : touches cs n ≡ false). rw e (omega arith))
    (cases_Bool (touches cs n))

tally_past : (n : ℕ) (c : Change) (cs : List Change) → n ≤ c.cell → tally n (c ∷ cs) ≡ tally n cs
unfolding tally
tally_past zero c cs h = refl
tally_past (suc n) c cs h = rw (ne_eqb c.cell n (λ e. omega arith), tally_past n c cs (omega arith))

tally_fresh : (n : ℕ) (c : Change) (cs : List Change) → c.cell < n → touches cs c.cell ≡ false → tally n (c ∷ cs) ≡ suc (tally n cs)
unfolding tally
tally_fresh zero c cs h f = absurd (omega arith)
tally_fresh (suc n) c cs h f =
    ⊎_elim
    (λ (e : c.cell ≡ n).
    let g : touches cs n ≡ false = rw e at f in
    rw (eq-eqb c.cell n e, tally_past n c cs (omega arith), g) (omega arith))
    (λ (e : c.cell ≡ n → ⊥). rw (ne_eqb c.cell n e, tally_fresh n c cs (omega arith) f) (omega arith))
    (cases_eq c.cell n)

tally_again : (n : ℕ) (c : Change) (cs : List Change) → touches cs c.cell ≡ true → tally n (c ∷ cs) ≡ tally n cs
unfolding tally
tally_again zero c cs t = refl
tally_again (suc n) c cs t =
    ⊎_elim
    (λ (e : c.cell ≡ n).
    let g : touches cs n ≡ true = rw e at t in
    rw (eq-eqb c.cell n e, tally_again n c cs t, g))
    (λ (e : c.cell ≡ n → ⊥). rw (ne_eqb c.cell n e, tally_again n c cs t))
    (cases_eq c.cell n)

newest-tally : (n : ℕ) (cs : List Change) → All (Sound n) cs → length (newest cs) ≤ tally n cs
newest-tally n [] h = omega arith
newest-tally n (c ∷ cs) h =
    let rest = newest-tally n cs h.1 in
    ⊎_elim
    (λ (t : touches cs c.cell ≡ true). rw (t, tally_again n c cs t) rest)
    (λ (t : touches cs c.cell ≡ false). rw (t, tally_fresh n c cs h.0.0 t) (omega arith))
    (cases_Bool (touches cs c.cell))

-- The pigeonhole: changes to different cells below n are at most n.
pub newest_few : (n : ℕ) (cs : List Change) → sound n cs ≡ true → length (newest cs) ≤ n
newest_few n cs h = omega (arith, newest-tally n cs (all_from_sound n cs h), tally_le n cs)
