-- What the records in force mean, before and after a step of the code.
use Rattle.std.proofs.Common.{◌≡◌, ℕ, ◌+◌, ◌^◌, ◌<◌, ◌≤◌, true, false, ltb, List, [], ◌∷◌, ◌++◌, length, get_or, take, drop, set, Some, unwrap_or, sym, refl, ap, ◌∙◌, ⊎_elim, arith, length-set}
use lib.Seq.{take-set-lt}
use Rattle.std.specs.List.{AllByRecursion as All}
use Rattle.std.proofs.ByRecursion.{All-set, All-push, All-get_or}
use Rattle.std.proofs.lemmas.List.{get_or-take, drop-drop, drop_more, drop_all, drop-set-lt, take_more_set, get_or-replicate, get_or_past, length-replicate, length-take, length-take-le, append_assoc, append-nil}
use Rattle.std.proofs.lemmas.Bool.{cases_Bool, cases_lt, lt-ltb, le-ltb}
use Rattle.store.specs.declared.change.Change.{Change}
use Rattle.store.specs.Cells.{cell_at}
use Rattle.store.specs.Changes.{newest_number, replay, sound, touches}
use Rattle.store.proofs.Changes.{Sound, all_from_sound, sound_from_all, fit_replay, length-replay, replay-at, replay_hidden, replay-push}
use Rattle.change_list.specs.Records.{cell_count, list_cells, newest, with_room, zeros}

-- Only the newest record of each cell shows.
replay-newest : (cells : List ℕ) (cs : List Change) → replay cells (newest cs) ≡ replay cells cs
replay-newest cells [] = refl
replay-newest cells (c ∷ cs) =
    ⊎_elim
    (λ (t : touches cs c.cell ≡ true). rw t (replay-newest cells cs ∙ sym (replay_hidden cells cs c.cell c.number t)))
    (λ (t : touches cs c.cell ≡ false). rw t (replay-newest (set cells c.cell c.number) cs))
    (cases_Bool (touches cs c.cell))

all_newest : (P : Change → Type 0) (cs : List Change) → All P cs → All P (newest cs)
all_newest P [] h = tt
all_newest P (c ∷ cs) h =
    ⊎_elim
    (λ (t : touches cs c.cell ≡ true). rw t (all_newest P cs h.1))
    (λ (t : touches cs c.cell ≡ false). rw t (h.0, all_newest P cs h.1))
    (cases_Bool (touches cs c.cell))

-- The records in force from the i-th on begin with it.
here : (ys : List Change) (used i : ℕ) (d : Change) → used ≤ length ys → i < used → drop i (take used ys) ≡ get_or ys i d ∷ drop (i + 1) (take used ys)
here ys used i d w l = drop_more (take used ys) i d (omega (arith, length-take-le used ys w)) ∙ ap (λ (x : Change). x ∷ drop (i + 1) (take used ys)) (get_or-take used ys i d l)

-- One turn of a compaction of the first `used` of ys: the record at i is kept at `len`, or left out.
pub turn_keeps : (ys : List Change) (used i len : ℕ) (d : Change) → used ≤ length ys → i < used → len ≤ i → touches (drop (i + 1) (take used ys)) (get_or ys i d).cell ≡ false
    → take (len + 1) (set ys len (get_or ys i d)) ++ newest (drop (i + 1) (take used (set ys len (get_or ys i d)))) ≡ take len ys ++ newest (drop i (take used ys))
turn_keeps ys used i len d w l k t =
    let x = get_or ys i d in
    let rest = drop (i + 1) (take used ys) in
    let front : take (len + 1) (set ys len x) ≡ take len ys ++ x ∷ [] = take_more_set ys len x (omega arith) in
    let same : drop (i + 1) (take used (set ys len x)) ≡ rest = ap (drop (i + 1)) (take-set-lt used ys len x (omega arith)) ∙ drop-set-lt (i + 1) (take used ys) len x (omega arith) in
    let split : drop i (take used ys) ≡ x ∷ rest = here ys used i d w l in
    rw (front, same, split, t) (append_assoc (take len ys) (x ∷ []) (newest rest))

pub turn_leaves : (ys : List Change) (used i len : ℕ) (d : Change) → used ≤ length ys → i < used → touches (drop (i + 1) (take used ys)) (get_or ys i d).cell ≡ true
    → take len ys ++ newest (drop (i + 1) (take used ys)) ≡ take len ys ++ newest (drop i (take used ys))
turn_leaves ys used i len d w l t = rw (here ys used i d w l, t)

-- A record in force stays sound where another of them is written over it.
pub sound_moved : (ys : List Change) (used i len : ℕ) (d : Change) → used ≤ length ys → i < used → len < used → sound (cell_count (length ys)) (take used ys) ≡ true
    → sound (cell_count (length (set ys len (get_or ys i d)))) (take used (set ys len (get_or ys i d))) ≡ true
sound_moved ys used i len d w l k h =
    let count = cell_count (length ys) in
    let all = all_from_sound count (take used ys) h in
    let x = All-get_or (Sound count) (take used ys) i d (omega (arith, length-take-le used ys w)) all in
    rw (length-set ys len (get_or ys i d), take-set-lt used ys len (get_or ys i d) k)
    (sound_from_all count (set (take used ys) len (get_or ys i d)) (All-set (Sound count) (take used ys) len (get_or ys i d) (rw (get_or-take used ys i d l) at x) all))

-- The records once the loop of a compaction has passed them all.
pub loop_over : (ys es : List Change) (used i len : ℕ) → used ≤ i → take len ys ++ newest (drop i (take used ys)) ≡ newest es → take len ys ≡ newest es
loop_over ys es used i len l h = sym (append-nil (take len ys)) ∙ (rw (drop_all i (take used ys) (omega (arith, length-take used ys))) at h)

pub sound_kept : (xs ys : List Change) (used len : ℕ) → take len ys ≡ newest (take used xs) → length ys ≡ length xs → sound (cell_count (length xs)) (take used xs) ≡ true
    → sound (cell_count (length ys)) (take len ys) ≡ true
sound_kept xs ys used len e l h =
    let count = cell_count (length xs) in
    rw (e, l) (sound_from_all count (newest (take used xs)) (all_newest (Sound count) (take used xs) (all_from_sound count (take used xs) h)))

pub room_left : (room : ℕ) (cs : List Change) → length cs < room → with_room room cs ≡ cs
room_left room cs h = rw (lt-ltb (length cs) room h)

pub room_none : (room : ℕ) (cs : List Change) → room ≤ length cs → with_room room cs ≡ newest cs
room_none room cs h = rw (le-ltb (length cs) room h)

replay-room : (room : ℕ) (cells : List ℕ) (cs : List Change) → replay cells (with_room room cs) ≡ replay cells cs
replay-room room cells cs =
    ⊎_elim
    (λ (e : ltb (length cs) room ≡ true). rw e)
    (λ (e : ltb (length cs) room ≡ false). rw e (replay-newest cells cs))
    (cases_Bool (ltb (length cs) room))

-- A record that is set at n changes no later one.
pub later : (records entry : List Change) (n : ℕ) (x : Change) → drop n records ≡ drop n entry → drop (n + 1) (set records n x) ≡ drop (n + 1) entry
later records entry n x e = drop-set-lt (n + 1) records n x (omega arith) ∙ (sym (drop-drop 1 n records) ∙ (ap (drop 1) e ∙ drop-drop 1 n entry))

-- What a record does that is added to the first `used` of ys.
pub added : (ys : List Change) (used : ℕ) (x : Change) (cs : List Change) → used < length ys → take used ys ≡ cs → take (used + 1) (set ys used x) ≡ cs ++ x ∷ []
added ys used x cs l e = take_more_set ys used x l ∙ ap (λ (zs : List Change). zs ++ x ∷ []) e

pub cells_added : (xs ys : List Change) (used n : ℕ) (x : Change) → n < length ys → length ys ≡ length xs → take n ys ≡ with_room (length xs) (take used xs)
    → list_cells (set ys n x) (n + 1) ≡ set (list_cells xs used) x.cell x.number
cells_added xs ys used n x l m e =
    let start = zeros (cell_count (length xs)) in
    rw (length-set ys n x, m, added ys n x (with_room (length xs) (take used xs)) l e, replay-push start (with_room (length xs) (take used xs)) x, replay-room (length xs) start (take used xs))

pub sound_added : (ys : List Change) (n : ℕ) (x : Change) → n < length ys → x.cell < cell_count (length ys) → x.number < 2 ^ 32 → sound (cell_count (length ys)) (take n ys) ≡ true
    → sound (cell_count (length (set ys n x))) (take (n + 1) (set ys n x)) ≡ true
sound_added ys n x l a b h =
    let count = cell_count (length ys) in
    rw (length-set ys n x, take_more_set ys n x l) (sound_from_all count (take n ys ++ x ∷ []) (All-push (Sound count) (take n ys) x (all_from_sound count (take n ys) h) (a, b)))

-- The cells of a list.
length-zeros : (n : ℕ) → length (zeros n) ≡ n
length-zeros n = length-replicate {A = ℕ} n 0

pub length-cells : (xs : List Change) (used : ℕ) → length (list_cells xs used) ≡ cell_count (length xs)
length-cells xs used = length-replay (zeros (cell_count (length xs))) (take used xs) ∙ length-zeros (cell_count (length xs))

zero_at : (n k : ℕ) → get_or (zeros n) k 0 ≡ 0
zero_at n k =
    ⊎_elim
    (λ (l : k < n). get_or-replicate {A = ℕ} n k 0 0 l)
    (λ (l : n ≤ k). get_or_past (zeros n) k 0 (omega (arith, length-zeros n)))
    (cases_lt k n)

fit_zeros : (n k : ℕ) → get_or (zeros n) k 0 < 2 ^ 32
fit_zeros n k = rw (zero_at n k) (omega arith)

pub fit_cells : (xs : List Change) (used : ℕ) → sound (cell_count (length xs)) (take used xs) ≡ true → (k : ℕ) → get_or (list_cells xs used) k 0 < 2 ^ 32
fit_cells xs used h = let count = cell_count (length xs) in fit_replay count (zeros count) (take used xs) (fit_zeros count) (all_from_sound count (take used xs) h)

pub get_inside : (xs : List Change) (used cell : ℕ) → cell < length (list_cells xs used) → Some (unwrap_or (newest_number (take used xs) cell) 0) ≡ cell_at (list_cells xs used) cell
get_inside xs used cell l =
    let count = cell_count (length xs) in
    rw (lt-ltb cell (length (list_cells xs used)) l, replay-at (zeros count) (take used xs) cell (omega (arith, length-cells xs used, length-zeros count)), zero_at count cell)
