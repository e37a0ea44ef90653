-- What changes of a table's rows mean.
use Rattle.std.proofs.Common.{◌≡◌, Bor, ℕ, zero, suc, ◌+◌, ◌<◌, ◌≤◌, true, false, not, ◌&&◌, eqb, cond, Bool, List, [], ◌∷◌, map, length, get_or, set, Some, None, Option, sym, refl, ap, ◌∙◌, arith}
use Prim.Native.Nat.compare
use lib.Dec.{compare_is_eq}
use Rattle.std.proofs.lemmas.List.{map-set, length-set}
use Rattle.std.proofs.lemmas.Option.{slice_get-get_or}
use Rattle.std.specs.List.{slice_get, find, enumerate_from}
use Rattle.std.specs.Option.{option_map}
use Rattle.arrayvec.specs.ArrayVec.{ArrayVec, with_items}
use Rattle.arrayvec.proofs.ArrayVecLemmas.{items-with_items}
use Rattle.job.specs.Jobs.{job_of}
use Rattle.job.specs.Moves.{Comes, WriteOf}
use Rattle.job.specs.Shape.{is_done}
use Rattle.job.specs.declared.job.Job.{Job}
use Rattle.job.specs.declared.moves.Move.{Move}
use Rattle.job.specs.declared.moves.Move.TheVariants.{NoRule, Applies, Takes, Commits}
use Rattle.model.specs.Logs.{at}
use Rattle.model.specs.declared.Entry.{Entry}
use Rattle.model.specs.Rules.{JobState, State, with_job, other_marked}
use Rattle.model.proofs.Basics.{by_bool, by_cond, zero_one, put-again, at-map-to}
use Rattle.table.specs.States.{jobs_in}
use Rattle.table.specs.Shape.{unfinished, unclosed}
use Rattle.table.specs.declared.table.Table.{Table}

-- A row that is read and written through the slice of its vector, and what it means.
module _ {T U : Type 0} (f : T → U) (v : ArrayVec T) (xs : List T) (i : ℕ) (d : T) (shown : xs ≡ v.items) (within : i < length v.items) where
  pub row_here : slice_get v.items i ≡ Some (get_or xs i d)
  row_here = slice_get-get_or v.items i d within ∙ ap (λ ys. Some (get_or ys i d)) (sym shown)

  pub row_read : d ≡ get_or xs i d → slice_get v.items i ≡ Some d
  row_read read = row_here ∙ ap Some (sym read)

  pub row_means : slice_get (map f v.items) i ≡ Some (f (get_or xs i d))
  row_means = at-map-to f v.items (suc i) (get_or xs i d) row_here

  pub row-set : (y : T) → (with_items v (set xs i y)).items ≡ set v.items i y
  row-set y = items-with_items v (set xs i y) (length-set xs i y ∙ ap length shown) ∙ ap (λ ys. set ys i y) shown

  pub row_becomes : (y : T) (z : U) → f y ≡ z → map f (with_items v (set xs i y)).items ≡ set (map f v.items) i z
  row_becomes y z e = ap (map f) (row-set y) ∙ (map-set f v.items i y ∙ ap (set (map f v.items) i) e)

-- How many have not committed.
pub unfinished_le : (xs : List Job) → unfinished xs ≤ length xs
unfinished_le [] = omega arith
unfinished_le (b ∷ xs) = let ih = unfinished_le xs in by_cond (λ (n : ℕ). n ≤ suc (length xs)) (is_done b.stage) _ _ (λ t. omega arith) (λ t. omega arith)

weigh : (b : Job) (n : ℕ) → cond (is_done b.stage) n (suc n) ≡ cond (is_done b.stage) 0 1 + n
weigh b n = by_bool (is_done b.stage) (λ t. rw (t) (omega arith)) (λ t. rw (t) (omega arith))

unfinished-set : (xs : List Job) (i : ℕ) (b b' : Job) → slice_get xs i ≡ Some b → unfinished (set xs i b') + cond (is_done b.stage) 0 1 ≡ unfinished xs + cond (is_done b'.stage) 0 1
unfinished-set [] i b b' e = zero_one (cc)
unfinished-set (x ∷ xs) zero b b' e = let q : x ≡ b = cc in omega (arith, weigh x (unfinished xs), weigh b' (unfinished xs), ap {B = ℕ} (λ z. cond (is_done z.stage) 0 1) q)
unfinished-set (x ∷ xs) (suc i) b b' e = omega (arith, unfinished-set xs i b b' e, weigh x (unfinished xs), weigh x (unfinished (set xs i b')))

some-unfinished : (xs : List Job) (i : ℕ) (b : Job) → slice_get xs i ≡ Some b → is_done b.stage ≡ false → 0 < unfinished xs
some-unfinished [] i b e f = zero_one (cc)
some-unfinished (x ∷ xs) zero b e f = let q : x ≡ b = cc in omega (arith, weigh x (unfinished xs), ap {B = ℕ} (λ z. cond (is_done z.stage) 0 1) q, ap {B = ℕ} (λ z. cond z 0 1) f)
some-unfinished (x ∷ xs) (suc i) b e f = omega (arith, weigh x (unfinished xs), some-unfinished xs i b e f)

-- A job put where it was.
pub with_same : (s : State) (i : ℕ) (b : JobState) → at s.jobs (suc i) ≡ Some b → with_job s (suc i) b ≡ s
with_same s i b e = λ k. record s { jobs = put-again s.jobs (suc i) b e k }

-- Whether a job is done does not change by its own turn.
pub same_done : (s : State) (j : ℕ) (b b' : JobState) (m : Move) → Comes s j b b' m → is_done b'.stage ≡ is_done b.stage
same_done s j b b' NoRule x = ap (λ z. is_done z.stage) x.0
same_done s j b b' (Applies a) x = x.2
same_done s j b b' Takes x = x.2
same_done s j b b' Commits x = ap (λ z. is_done z.stage) x.0

-- A job that gave up an entry of its write log is as much done as before.
pub done_write : (b b' : Job) (r : Option Entry) → WriteOf (job_of b) (job_of b') r → is_done b'.stage ≡ is_done b.stage
done_write b b' None x = ap (λ z. is_done z.stage) x.1
done_write b b' (Some e) x = ap (λ z. is_done z.stage) x.2

-- The jobs of a table where the one at a place changes.
abbrev pub with_row : Table → List Job → ℕ → Job → List Job
with_row t xs i b' = (with_items t.jobs (set xs i b')).items

-- The room in the order then: a job that is as done as before keeps it, and one that is not done yet has a place left,
-- which it takes as it is done.
module _ (t : Table) (xs : List Job) (i : ℕ) (d : Job) (shown : xs ≡ t.jobs.items) (within : i < length t.jobs.items) where
  counts : (b' : Job) → unfinished (with_row t xs i b') + cond (is_done (get_or xs i d).stage) 0 1 ≡ unfinished t.jobs.items + cond (is_done b'.stage) 0 1
  counts b' =
      ap (λ (ys : List Job). unfinished ys + cond (is_done (get_or xs i d).stage) 0 1) (row-set job_of t.jobs xs i d shown within b')
      ∙ unfinished-set t.jobs.items i (get_or xs i d) b' (row_here job_of t.jobs xs i d shown within)

  pub as_many : (b' : Job) → length (with_row t xs i b') ≡ length t.jobs.items
  as_many b' = ap length (row-set job_of t.jobs xs i d shown within b') ∙ length-set t.jobs.items i b'

  pub room_kept : (b' : Job) → is_done b'.stage ≡ is_done (get_or xs i d).stage →
      length t.order.items + (unfinished (with_row t xs i b') + unclosed t.corrections.items) ≤ length (with_row t xs i b') + length t.corrections.items
  room_kept b' e = omega (arith, t.room, counts b', as_many b', ap {B = ℕ} (λ z. cond z 0 1) e)

  module _ (not_yet : is_done (get_or xs i d).stage ≡ false) where
    pub room_left : length t.order.items < length t.jobs.items + length t.corrections.items
    room_left = omega (arith, t.room, some-unfinished t.jobs.items i (get_or xs i d) (row_here job_of t.jobs xs i d shown within) not_yet)

    pub room_used : (b' : Job) → is_done b'.stage ≡ true →
        (length t.order.items + 1) + (unfinished (with_row t xs i b') + unclosed t.corrections.items) ≤ length (with_row t xs i b') + length t.corrections.items
    room_used b' e = omega (arith, t.room, counts b', as_many b', ap {B = ℕ} (λ z. cond z 0 1) e, ap {B = ℕ} (λ z. cond z 0 1) not_yet)

some_same : {A : Type 0} {x y : A} → Some x ≡ Some y → x ≡ y
some_same e = cc

-- The job at the place has not committed.
pub not_yet : (t : Table) (xs : List Job) (i : ℕ) (d : Job) → xs ≡ t.jobs.items → i < length t.jobs.items → (s : JobState) × (at (jobs_in t) (suc i) ≡ Some s) × (is_done s.stage ≡ false) → is_done (get_or xs i d).stage ≡ false
not_yet t xs i d shown within x = sym (ap (λ z. is_done z.stage) (some_same (sym x.1 ∙ row_means job_of t.jobs xs i d shown within))) ∙ x.2

-- The lowest marked job but the one at place i, as it is found among the jobs with their places.
abbrev pub beside : ℕ → ℕ × Job → Bool
beside i p = p.1.marked && not (eqb p.0 i)

pub other-found : (i k : ℕ) (xs : List Job) → other_marked (suc i) (suc k) (map job_of xs) ≡ option_map (λ p. suc p.0) (find (beside i) (enumerate_from k xs))
other-found i k [] = refl
other-found i k (x ∷ xs) =
    let e : k + 1 ≡ suc k = omega arith in
    let later = other-found i (suc k) xs ∙ ap (λ (n : ℕ). option_map (λ p. suc p.0) (find (beside i) (enumerate_from n xs))) (sym e) in
    ap (λ t. cond (x.marked && not t) (Some (suc k)) (other_marked (suc i) (suc (suc k)) (map job_of xs))) (ap compare_is_eq (compare.suc-suc k i))
    ∙ by_bool (beside i (k, x)) (λ t. rw (t) refl) (λ t. rw (t) later)

pub other-read : (i : ℕ) (xs : List Job) (r : Option (ℕ × Bor Job)) → option_map (λ p. (p.0, p.1.now)) r ≡ find (beside i) (enumerate_from 0 xs) → option_map (λ p. suc p.0) r ≡ other_marked (suc i) 1 (map job_of xs)
other-read i xs None e = ap (option_map (λ (p : ℕ × Job). suc p.0)) e ∙ sym (other-found i 0 xs)
other-read i xs (Some p) e = ap (option_map (λ (p : ℕ × Job). suc p.0)) e ∙ sym (other-found i 0 xs)
