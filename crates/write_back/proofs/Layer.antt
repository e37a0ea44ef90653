-- The meaning of a layer: the cells below under the held changes.
use Rattle.std.proofs.Common.{◌≡◌, ℕ, ◌<◌, Bool, true, false, not, ◌||◌, eqb, List, [], ◌∷◌, length, get_or, drop, set, Some, None, Option, unwrap_or, sym, refl, ⊎_elim, arith}
use Rattle.std.proofs.lemmas.List.{set-set}
use Rattle.std.proofs.lemmas.Bool.{cases_eq, cases_Bool, eq-eqb, ne_eqb, lt-ltb, and_from, and_parts, not-true}
use Rattle.std.specs.Option.{option_or}
use Rattle.store.specs.declared.change.Change.{Change}
use Rattle.store.specs.Cells.{cell_at}
use Rattle.store.specs.Changes.{distinct, newest_number, replay, touches}
use Rattle.store.proofs.Changes.{length-replay, replay-at, replay_later}
use Rattle.write_back.specs.Holding.{evicted, full, holding, oldest, remaining, set_below}

or_twice : (a b : Bool) → (a || b) ≡ (a || (a || b))
or_twice true b = refl
or_twice false b = refl

or_swap : (a b d : Bool) → (a || (b || d)) ≡ (b || (a || d))
or_swap true true d = refl
or_swap true false d = refl
or_swap false b d = refl

touches-holding : (cs : List Change) (cell number other : ℕ) → touches (holding cs cell number) other ≡ (eqb cell other || touches cs other)
touches-holding [] cell number other = refl
touches-holding (c ∷ cs) cell number other =
    ⊎_elim
    (λ (e : c.cell ≡ cell). rw (eq-eqb c.cell cell e, e) (or_twice (eqb cell other) (touches cs other)))
    (λ (e : c.cell ≡ cell → ⊥). rw (ne_eqb c.cell cell e, touches-holding cs cell number other) (or_swap (eqb c.cell other) (eqb cell other) (touches cs other)))
    (cases_eq c.cell cell)

pub distinct-holding : (cs : List Change) (cell number : ℕ) → distinct cs ≡ true → distinct (holding cs cell number) ≡ true
distinct-holding [] cell number h = refl
distinct-holding (c ∷ cs) cell number h =
    let parts = and_parts (not (touches cs c.cell)) (distinct cs) h in
    ⊎_elim
    (λ (e : c.cell ≡ cell). rw (eq-eqb c.cell cell e) (rw e at h))
    (λ (e : c.cell ≡ cell → ⊥).
    rw (ne_eqb c.cell cell e, touches-holding cs cell number c.cell, ne_eqb cell c.cell (λ (r : cell ≡ c.cell). e (sym r)))
    (and_from (not (touches cs c.cell)) (distinct (holding cs cell number)) parts.0 (distinct-holding cs cell number parts.1)))
    (cases_eq c.cell cell)

-- To hold a number is to set it.
replay-holding : (cells : List ℕ) (cs : List Change) (cell number : ℕ) → distinct cs ≡ true → replay cells (holding cs cell number) ≡ set (replay cells cs) cell number
replay-holding cells [] cell number h = refl
replay-holding cells (c ∷ cs) cell number h =
    let parts = and_parts (not (touches cs c.cell)) (distinct cs) h in
    ⊎_elim
    (λ (e : c.cell ≡ cell).
    let once : touches cs cell ≡ false = rw e at (not-true (touches cs c.cell) parts.0) in
    rw (eq-eqb c.cell cell e, e, replay_later cells cs cell number once, replay_later cells cs cell c.number once, set-set (replay cells cs) cell c.number number))
    (λ (e : c.cell ≡ cell → ⊥). rw (ne_eqb c.cell cell e) (replay-holding (set cells c.cell c.number) cs cell number parts.1))
    (cases_eq c.cell cell)

replay_evicted : (cells : List ℕ) (cs : List Change) (cell number : ℕ) → distinct cs ≡ true → replay (set_below cells (oldest cs)) (holding (drop 1 cs) cell number) ≡ set (replay cells cs) cell number
replay_evicted cells [] cell number h = refl
replay_evicted cells (c ∷ cs) cell number h = replay-holding (set cells c.cell c.number) cs cell number (and_parts (not (touches cs c.cell)) (distinct cs) h).1

-- A set of the layer sets its meaning.
pub replay-set : (cells below : List ℕ) (cs held : List Change) (cell number : ℕ) → distinct cs ≡ true → below ≡ set_below cells (evicted cs cell) → held ≡ holding (remaining cs cell) cell number → replay below held ≡ set (replay cells cs) cell number
replay-set cells below cs held cell number h b e =
    ⊎_elim
    (λ (f : full cs cell ≡ true). rw (b, e, f) (replay_evicted cells cs cell number h))
    (λ (f : full cs cell ≡ false). rw (b, e, f) (replay-holding cells cs cell number h))
    (cases_Bool (full cs cell))

layered : (o : Option ℕ) (cells : List ℕ) (cell : ℕ) → cell < length cells → option_or o (cell_at cells cell) ≡ Some (unwrap_or o (get_or cells cell 0))
layered None cells cell l = rw (lt-ltb cell (length cells) l)
layered (Some n) cells cell l = refl

-- A held number is what the layer means, and else the number below.
pub get_layer : (cells : List ℕ) (cs : List Change) (cell : ℕ) → cell < length (replay cells cs) → option_or (newest_number cs cell) (cell_at cells cell) ≡ cell_at (replay cells cs) cell
get_layer cells cs cell l =
    let same = length-replay cells cs in
    rw (lt-ltb cell (length (replay cells cs)) l, replay-at cells cs cell (omega arith)) (layered (newest_number cs cell) cells cell (omega arith))
