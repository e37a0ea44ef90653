-- From what the table did to the model's calls with a slip.
use Rattle.std.proofs.Common.{◌≡◌, ℕ, zero, suc, ◌+◌, ◌%◌, ◌^◌, ◌<◌, ◌≤◌, Bool, true, false, cond, List, [], ◌∷◌, ◌++◌, map, length, get_or, set, Some, None, Ok, Err, Result, sym, refl, ap, ◌∙◌, add-one, arith}
use Rattle.std.proofs.lemmas.List.{length-map, length-set}
use Rattle.std.specs.List.{slice_get}
use Rattle.correction.specs.Calls.{CallOn, Comes, Checked}
use Rattle.correction.specs.Corrections.{correction_of}
use Rattle.correction.specs.declared.correction.Correction.{Correction}
use Rattle.correction.proofs.Calling.{stays_closed}
use Rattle.job.specs.Jobs.{job_of}
use Rattle.job.specs.Shape.{is_done}
use Rattle.job.specs.declared.job.Job.{Job}
use Rattle.model.specs.Calls.{SlipNumbers, held, if_open, refuse, with_corrections, correction, file_by, filed}
use Rattle.model.specs.Logs.{at, set_all}
use Rattle.model.specs.Rules.{JobState, CorrectionState, State, counted, unmark}
use Rattle.model.specs.declared.Party.TheVariants as party
use Rattle.model.specs.declared.Refusal.{Refusal}
use Rattle.model.specs.declared.Refusal.TheVariants.{NotOpen}
use Rattle.model.proofs.Basics.{by_bool, zero_one, at-map-to}
use Rattle.arrayvec.specs.ArrayVec.{with_items}
use Rattle.arrayvec.proofs.ArrayVecLemmas.{items-with_items}
use Rattle.model.specs.declared.Party.{Party}
use Rattle.table.specs.Corrections.{Finds}
use Rattle.table.specs.Shape.{unfinished, unclosed}
use Rattle.table.specs.States.{corrections_in, state_of}
use Rattle.table.specs.declared.table.Table.{Table}
use Rattle.table.proofs.Tabling.{row_here, row_means, row-set, row_becomes}

-- How many are open.
weigh : (c : Correction) (n : ℕ) → cond c.is_open (suc n) n ≡ cond c.is_open 1 0 + n
weigh c n = by_bool c.is_open (λ t. rw (t) (omega arith)) (λ t. rw (t) (omega arith))

unclosed-set : (xs : List Correction) (i : ℕ) (c c' : Correction) → slice_get xs i ≡ Some c → unclosed (set xs i c') + cond c.is_open 1 0 ≡ unclosed xs + cond c'.is_open 1 0
unclosed-set [] i c c' e = zero_one (cc)
unclosed-set (x ∷ xs) zero c c' e = let q : x ≡ c = cc in omega (arith, weigh x (unclosed xs), weigh c' (unclosed xs), ap {B = ℕ} (λ z. cond z.is_open 1 0) q)
unclosed-set (x ∷ xs) (suc i) c c' e = omega (arith, unclosed-set xs i c c' e, weigh x (unclosed xs), weigh x (unclosed (set xs i c')))

-- The corrections of a table where the one at a place changes.
abbrev pub with_correction : Table → List Correction → ℕ → Correction → List Correction
with_correction t xs i c' = (with_items t.corrections (set xs i c')).items

module _ (t : Table) (xs : List Correction) (i : ℕ) (d : Correction) (shown : xs ≡ t.corrections.items) (within : i < length t.corrections.items) where
  counts : (c' : Correction) → unclosed (with_correction t xs i c') + cond (get_or xs i d).is_open 1 0 ≡ unclosed t.corrections.items + cond c'.is_open 1 0
  counts c' =
      ap (λ (ys : List Correction). unclosed ys + cond (get_or xs i d).is_open 1 0) (row-set correction_of t.corrections xs i d shown within c')
      ∙ unclosed-set t.corrections.items i (get_or xs i d) c' (row_here correction_of t.corrections xs i d shown within)

  pub as_many_opened : (c' : Correction) → length (with_correction t xs i c') ≡ length t.corrections.items
  as_many_opened c' = ap length (row-set correction_of t.corrections xs i d shown within c') ∙ length-set t.corrections.items i c'

  -- Filing closes one that was open.
  pub one_fewer : (c' : Correction) → (get_or xs i d).is_open ≡ true → c'.is_open ≡ false → unclosed (with_correction t xs i c') + 1 ≡ unclosed t.corrections.items
  one_fewer c' o f = omega (arith, counts c', ap {B = ℕ} (λ z. cond z 1 0) o, ap {B = ℕ} (λ z. cond z 1 0) f)

  module _ {A : Type 0} (call : CallOn A) (cells : List ℕ) (c' : Correction) (r : Result A Refusal) (x : Comes call cells (correction_of (get_or xs i d)) (correction_of c') r) where
    -- A call opens nothing that was closed, so the order has its room after it.
    pub room-called : ((s : State) (k : ℕ) → (call s k None).next ≡ s) →
        length t.order.items + (unfinished t.jobs.items + unclosed (with_correction t xs i c')) ≤ length t.jobs.items + length (with_correction t xs i c')
    room-called n = omega (arith, t.room, as_many_opened c', less)
      where
        closed : (get_or xs i d).is_open ≡ false → c'.is_open ≡ false
        closed = stays_closed call cells (correction_of (get_or xs i d)) (correction_of c') r n x

        at_most_one : (b : Bool) → cond b 1 0 ≤ 1
        at_most_one true = omega arith
        at_most_one false = omega arith

        less : unclosed (with_correction t xs i c') ≤ unclosed t.corrections.items
        less =
            by_bool (get_or xs i d).is_open
            (λ o. omega (arith, counts c', ap {B = ℕ} (λ z. cond z 1 0) o, at_most_one c'.is_open))
            (λ o. omega (arith, counts c', ap {B = ℕ} (λ z. cond z 1 0) o, ap {B = ℕ} (λ z. cond z 1 0) (closed o)))

    -- The run after a call of a correction, and its answer.
    pub called : (with_corrections (state_of cells t) (map correction_of (with_correction t xs i c')) ≡ (call (state_of cells t) (suc i) (if_open (at (corrections_in t) (suc i)))).next)
        × (r ≡ (call (state_of cells t) (suc i) (if_open (at (corrections_in t) (suc i)))).answer)
    called =
        let s = state_of cells t in
        let here = row_means correction_of t.corrections xs i d shown within in
        let y = x s (suc i) refl here in
        let e = row_becomes correction_of t.corrections xs i d shown within c' (correction_of c') refl in (
          ap (with_corrections s) e ∙ (sym y.0 ∙ sym (ap (λ o. (call s (suc i) (if_open o)).next) here)),
          sym y.1 ∙ sym (ap (λ o. (call s (suc i) (if_open o)).answer) here),
        )

-- A slip's call, where its correction stands at place i, and where it has none.
module _ {A : Type 0} (call : CallOn A) (C : List ℕ) (t : Table) (slip : SlipNumbers) where
  pub same_call : (i : ℕ) → Finds t slip (Ok i) → call (state_of C t) slip.correction (held (state_of C t) slip) ≡ call (state_of C t) (suc i) (if_open (at (corrections_in t) (suc i)))
  same_call i p = ap (λ k. call (state_of C t) k (held (state_of C t) slip)) p.1 ∙ ap (call (state_of C t) (suc i)) (p.2 C)

  pub no_call : ((s : State) (k : ℕ) → call s k None ≡ refuse s NotOpen) → (refusal : Refusal) → Finds t slip (Err refusal) → call (state_of C t) slip.correction (held (state_of C t) slip) ≡ refuse (state_of C t) NotOpen
  no_call n refusal h = ap (call (state_of C t) slip.correction) (h.1 C) ∙ n (state_of C t) slip.correction

  pub by_place : (s' : State) (r : Result A Refusal) (i : ℕ) → Finds t slip (Ok i) →
      (s' ≡ (call (state_of C t) (suc i) (if_open (at (corrections_in t) (suc i)))).next) × (r ≡ (call (state_of C t) (suc i) (if_open (at (corrections_in t) (suc i)))).answer) →
      (s' ≡ (call (state_of C t) slip.correction (held (state_of C t) slip)).next) × (r ≡ (call (state_of C t) slip.correction (held (state_of C t) slip)).answer)
  by_place s' r i p x =
      let e = sym (same_call i p) in
      (x.0 ∙ ap (λ o. o.next) e, x.1 ∙ ap (λ o. o.answer) e)

  pub by-none : ((s : State) (k : ℕ) → call s k None ≡ refuse s NotOpen) → (refusal : Refusal) → Finds t slip (Err refusal) → (r : Result A Refusal) → r ≡ Err refusal →
      (state_of C t ≡ (call (state_of C t) slip.correction (held (state_of C t) slip)).next) × (r ≡ (call (state_of C t) slip.correction (held (state_of C t) slip)).answer)
  by-none n refusal h r e =
      let none = sym (no_call n refusal h) in
      (ap (λ o. o.next) none, (e ∙ ap Err h.0) ∙ ap (λ o. o.answer) none)

-- One correction more.
pub unclosed_more : (xs : List Correction) (c : Correction) → unclosed (xs ++ c ∷ []) ≤ unclosed xs + 1
unclosed_more [] c = by_bool c.is_open (λ t. rw (t) (omega arith)) (λ t. rw (t) (omega arith))
unclosed_more (y ∷ ys) c = omega (arith, unclosed_more ys c, weigh y (unclosed ys), weigh y (unclosed (ys ++ c ∷ [])))

-- Jobs that lost their marks are as much done as before.
abbrev undone : List JobState → ℕ
undone [] = 0
undone (b ∷ bs) = cond (is_done b.stage) (undone bs) (suc (undone bs))

undone_is : (js : List Job) → unfinished js ≡ undone (map job_of js)
undone_is [] = refl
undone_is (b ∷ js) = ap (λ (n : ℕ). cond (is_done b.stage) n (suc n)) (undone_is js)

undone_unmarked : (bs : List JobState) → undone (map unmark bs) ≡ undone bs
undone_unmarked [] = refl
undone_unmarked (b ∷ bs) = ap (λ (n : ℕ). cond (is_done b.stage) n (suc n)) (undone_unmarked bs)

-- The jobs of a table that all lost their marks.
module _ (t : Table) (js js' : List Job) (shown : js ≡ t.jobs.items) (e : map job_of js' ≡ map unmark (map job_of js)) where
  length-unmarked : length js' ≡ length t.jobs.items
  length-unmarked = sym (length-map js' job_of) ∙ (ap length e ∙ (length-map (map job_of js) unmark ∙ (length-map js job_of ∙ ap length shown)))

  pub unmarked : (with_items t.jobs js').items ≡ js'
  unmarked = items-with_items t.jobs js' length-unmarked

  pub jobs-unmarked : map job_of (with_items t.jobs js').items ≡ map unmark (map job_of t.jobs.items)
  jobs-unmarked = ap (map job_of) unmarked ∙ (e ∙ ap (λ xs. map unmark (map job_of xs)) shown)

  pub as_many-unmarked : length (with_items t.jobs js').items ≡ length t.jobs.items
  as_many-unmarked = ap length unmarked ∙ length-unmarked

  pub unfinished-unmarked : unfinished (with_items t.jobs js').items ≡ unfinished t.jobs.items
  unfinished-unmarked = undone_is (with_items t.jobs js').items ∙ (ap undone jobs-unmarked ∙ (undone_unmarked (map job_of t.jobs.items) ∙ sym (undone_is t.jobs.items)))

some_same : {A : Type 0} {x y : A} → Some x ≡ Some y → x ≡ y
some_same e = cc

-- Filing the correction at place i, over cells C: what was looked at, and what is changed.
module _ (C : List ℕ) (t : Table) (i : ℕ) (x : Correction) (here : slice_get t.corrections.items i ≡ Some x) where
  filing-of : file_by (state_of C t) (suc i) (if_open (at (corrections_in t) (suc i))) ≡ file_by (state_of C t) (suc i) (if_open (Some (correction_of x)))
  filing-of = ap (λ o. file_by (state_of C t) (suc i) (if_open o)) (at-map-to correction_of t.corrections.items (suc i) x here)

  pub file-refused : (refusal : Refusal) → Checked C t.right (correction_of x) (Err refusal) → file_by (state_of C t) (suc i) (if_open (at (corrections_in t) (suc i))) ≡ refuse (state_of C t) refusal
  file-refused refusal r = filing-of ∙ r (state_of C t) (suc i) refl refl

  module _ (ok : Checked C t.right (correction_of x) (Ok tt)) (ys : List Correction) (d c' : Correction) (lent : ys ≡ t.corrections.items) (within : i < length t.corrections.items)
      (closed : correction_of c' ≡ correction false (correction_of (get_or ys i d)).reads (correction_of (get_or ys i d)).writes) where
    same : get_or ys i d ≡ x
    same = some_same (sym (row_here correction_of t.corrections ys i d lent within) ∙ here)

    pub filed_fewer : unclosed (with_correction t ys i c') + 1 ≡ unclosed t.corrections.items
    filed_fewer = one_fewer t ys i d lent within c' (ap (λ c. c.is_open) same ∙ ok.0) (ap (λ f. f.is_open) closed)

    -- What happens then.
    pub file-happens : (file_by (state_of C t) (suc i) (if_open (at (corrections_in t) (suc i)))).events ≡ (filed (state_of C t) (suc i) (correction_of (get_or ys i d))).events
    file-happens = ap (λ o. o.events) (filing-of ∙ ok.2 (state_of C t) (suc i) refl refl) ∙ ap (λ c. (filed (state_of C t) (suc i) (correction_of c)).events) (sym same)

    -- The run then, and the answer.
    pub file-accepted : (D : List ℕ) (n : ℕ) (jobs : List Job) (order : List Party) → D ≡ set_all (correction_of (get_or ys i d)).writes C → n ≡ length (correction_of (get_or ys i d)).writes →
        map job_of jobs ≡ map unmark (map job_of t.jobs.items) → order ≡ t.order.items ++ party.Correction (i + 1) ∷ [] →
        (record (state_of C t) {
          cells = D;
          jobs = map job_of jobs;
          corrections = map correction_of (with_correction t ys i c');
          order = order;
          takings = counted t.takings;
          settings = (t.settings + n) % 2 ^ 32;
        } ≡ (file_by (state_of C t) (suc i) (if_open (at (corrections_in t) (suc i)))).next)
        × (Ok tt ≡ (file_by (state_of C t) (suc i) (if_open (at (corrections_in t) (suc i)))).answer)
    file-accepted D n jobs order after count marks joined =
        let s = state_of C t in
        let done = sym (filing-of ∙ ok.2 s (suc i) refl refl) in
        let shut : CorrectionState → CorrectionState = λ f. correction false f.reads f.writes in
        let cells = after ∙ ap (λ c. set_all (correction_of c).writes C) same in
        let corrections =
        row_becomes correction_of t.corrections ys i d lent within c' (shut (correction_of (get_or ys i d))) closed
        ∙ ap (λ c. set (corrections_in t) i (shut (correction_of c))) same in
        let places = joined ∙ ap (λ (m : ℕ). t.order.items ++ party.Correction m ∷ []) (add-one i) in
        let settings = ap (λ (m : ℕ). (t.settings + m) % 2 ^ 32) (count ∙ ap (λ c. length (correction_of c).writes) same) in (
          (λ k. record s {
            cells = cells k;
            jobs = marks k;
            corrections = corrections k;
            right = ok.1 k;
            order = places k;
            takings = counted t.takings;
            settings = settings k;
          })
              ∙ ap (λ o. o.next) done,
          ap (λ o. o.answer) done,
        )
