-- What was read so far, as lines, and what each line adds to it.
use Rattle.std.proofs.Common.{◌≡◌, ℕ, suc, ◌+◌, ◌<◌, ◌≤◌, true, ◌&&◌, leb, List, [], ◌∷◌, ◌++◌, map, length, get_or, None, sym, ap, ◌∙◌, append_assoc, arith}
use Rattle.std.proofs.lemmas.List.{append-nil, map_push}
use Rattle.std.proofs.lemmas.Bool.{eqb-true, ltb-true, leb-true, and_parts}
use Rattle.model.specs.declared.Step.{Step}
use Rattle.script.specs.Lines.{group_of, Item, item}
use Rattle.script.specs.Scripts.{preset_item, step_item, job_items, jobs_items, turns_item}
use Rattle.script.specs.Faults.{Progress, in_order, between, cause_of, tests_of, step_from, taken}
use Rattle.script.specs.declared.Kind.{Kind}
use Rattle.script.specs.declared.Kind.TheVariants.{Size, Cell, Job, Read, Write, Load, Add, Subtract, JumpIfLess, Wait, End, Turns}
use Rattle.script.specs.declared.Group.{Group}
use Rattle.script.specs.declared.Group.TheVariants.{OfSize, OfCell, OfJob, OfStep, OfTurns}
use Rattle.script.specs.declared.Section.{Section}
use Rattle.script.specs.declared.Section.TheVariants.{AtStart, InCells, InJob, AfterJob, InTurns}
use Rattle.script.specs.declared.Test.{Test}
use Rattle.script.specs.declared.Test.TheVariants.{AnyNumber, CellCount, CellBelow, JobNumber, JobUpTo, TurnCount}
use Rattle.script.specs.declared.Cause.{Cause}
use Rattle.script.proofs.Basics.{zero_one, passed, one, two, three, none}
use Rattle.script.proofs.Texts.{Numbered, numbered-length}

-- The job that is being read.
abbrev pub pending : Section → Progress → List Item
pending AtStart p = []
pending InCells p = []
pending InJob p = job_items (suc (length p.jobs)) p.steps
pending AfterJob p = []
pending InTurns p = []

abbrev pub lines_after_size : Section → Progress → List Item
lines_after_size section p = map preset_item p.presets ++ (jobs_items 1 p.jobs ++ (pending section p ++ map turns_item p.turns))

abbrev pub so_far : Section → Progress → List Item
so_far AtStart p = []
so_far InCells p = item Size (p.count ∷ []) ∷ lines_after_size InCells p
so_far InJob p = item Size (p.count ∷ []) ∷ lines_after_size InJob p
so_far AfterJob p = item Size (p.count ∷ []) ∷ lines_after_size AfterJob p
so_far InTurns p = item Size (p.count ∷ []) ∷ lines_after_size InTurns p

-- What cannot have been read yet.
abbrev pub Unread : Section → Progress → Type 0
Unread AtStart p = (p.presets ≡ []) × (p.jobs ≡ []) × (p.turns ≡ [])
Unread InCells p = (p.jobs ≡ []) × (p.turns ≡ [])
Unread InJob p = p.turns ≡ []
Unread AfterJob p = p.turns ≡ []
Unread InTurns p = Unit {0}

-- A line that was read, as one of the script.
abbrev pub Is : Group → Progress → Kind → List ℕ → Type 0
Is OfSize p kind ns = (item kind ns ≡ item Size (get_or ns 0 0 ∷ [])) × (1 ≤ get_or ns 0 0) × (get_or ns 0 0 ≤ 4096)
Is OfCell p kind ns = (item kind ns ≡ preset_item (record { cell = get_or ns 0 0; number = get_or ns 1 0 })) × (get_or ns 0 0 < p.count)
Is OfJob p kind ns = item kind ns ≡ item Job (suc (length p.jobs) ∷ [])
Is OfStep p kind ns = item kind ns ≡ step_item (step_from kind ns)
Is OfTurns p kind ns =
    (item kind ns ≡ turns_item (record { job = get_or ns 0 0; turns = get_or ns 1 0 })) × (1 ≤ get_or ns 0 0) × (get_or ns 0 0 ≤ length p.jobs) × (1 ≤ get_or ns 1 0) × (get_or ns 1 0 ≤ 10000)

between_ok : (least most n : ℕ) (cause : Cause) → between least most cause n ≡ None → (least ≤ n) × (n ≤ most)
between_ok least most n cause e =
    let p = and_parts (leb least n) (leb n most) (passed (leb least n && leb n most) cause e) in (leb-true least n p.0, leb-true n most p.1)

first_test : (test : Test) (tests : List Test) (bytes ns : List ℕ) → Numbered (test ∷ tests) 0 bytes ns → cause_of test (get_or ns 0 0) ≡ None
first_test test tests bytes [] h = absurd h
first_test test tests bytes (n ∷ ns) h = h.2

second_test : (a test : Test) (tests : List Test) (bytes ns : List ℕ) → Numbered (a ∷ test ∷ tests) 0 bytes ns → cause_of test (get_or ns 1 0) ≡ None
second_test a test tests bytes [] h = absurd h
second_test a test tests bytes (n ∷ []) h = absurd h.3
second_test a test tests bytes (n ∷ m ∷ ns) h = h.3.2

pub is_line : (k : Kind) (p : Progress) (bytes ns : List ℕ) → Numbered (tests_of p k) 0 bytes ns → Is (group_of k) p k ns
is_line Size p bytes ns h =
    let b = between_ok 1 4096 (get_or ns 0 0) _ (first_test CellCount [] bytes ns h) in (ap (item Size) (one ns (numbered-length (tests_of p Size) 0 bytes ns h)), b.0, b.1)
is_line Cell p bytes ns h =
    (ap (item Cell) (two ns (numbered-length (tests_of p Cell) 0 bytes ns h)), ltb-true (get_or ns 0 0) p.count (passed _ _ (first_test (CellBelow p.count) (AnyNumber ∷ []) bytes ns h)))
is_line Job p bytes ns h =
    let same = eqb-true (get_or ns 0 0) (suc (length p.jobs)) (passed _ _ (first_test (JobNumber (suc (length p.jobs))) [] bytes ns h)) in
    ap (item Job) (one ns (numbered-length (tests_of p Job) 0 bytes ns h)) ∙ ap (λ (n : ℕ). item Job (n ∷ [])) same
is_line Read p bytes ns h = ap (item Read) (two ns (numbered-length (tests_of p Read) 0 bytes ns h))
is_line Write p bytes ns h = ap (item Write) (two ns (numbered-length (tests_of p Write) 0 bytes ns h))
is_line Load p bytes ns h = ap (item Load) (two ns (numbered-length (tests_of p Load) 0 bytes ns h))
is_line Add p bytes ns h = ap (item Add) (two ns (numbered-length (tests_of p Add) 0 bytes ns h))
is_line Subtract p bytes ns h = ap (item Subtract) (two ns (numbered-length (tests_of p Subtract) 0 bytes ns h))
is_line JumpIfLess p bytes ns h = ap (item JumpIfLess) (three ns (numbered-length (tests_of p JumpIfLess) 0 bytes ns h))
is_line Wait p bytes ns h = ap (item Wait) (none ns (numbered-length (tests_of p Wait) 0 bytes ns h))
is_line End p bytes ns h = ap (item End) (none ns (numbered-length (tests_of p End) 0 bytes ns h))
is_line Turns p bytes ns h =
    let j = between_ok 1 (length p.jobs) (get_or ns 0 0) _ (first_test (JobUpTo (length p.jobs)) (TurnCount ∷ []) bytes ns h) in
    let t = between_ok 1 10000 (get_or ns 1 0) _ (second_test (JobUpTo (length p.jobs)) TurnCount [] bytes ns h) in
    (ap (item Turns) (two ns (numbered-length (tests_of p Turns) 0 bytes ns h)), j.0, j.1, t.0, t.1)

-- One job more.
pub jobs-push : (j : ℕ) (jobs : List (List Step)) (steps : List Step) → jobs_items j (jobs ++ steps ∷ []) ≡ jobs_items j jobs ++ job_items (j + length jobs) steps
jobs-push j [] steps = let e : j ≡ j + 0 = omega arith in append-nil (job_items j steps) ∙ ap (λ (n : ℕ). job_items n steps) e
jobs-push j (first ∷ jobs) steps =
    let e : suc j + length jobs ≡ j + suc (length jobs) = omega arith in
    ap (λ xs. job_items j first ++ xs) (jobs-push (suc j) jobs steps ∙ ap (λ (n : ℕ). jobs_items (suc j) jobs ++ job_items n steps) e)
    ∙ sym (append_assoc (job_items j first) (jobs_items (suc j) jobs) (job_items (j + suc (length jobs)) steps))

-- One step more.
step_last : (first : Item) (presets jobs steps : List Item) (x : Item) → first ∷ (presets ++ (jobs ++ ((steps ++ x ∷ []) ++ []))) ≡ (first ∷ (presets ++ (jobs ++ (steps ++ [])))) ++ x ∷ []
step_last first presets jobs steps x = simp (append-nil, append_assoc)

module _ (line : ℕ) (k : Kind) (ns : List ℕ) (p : Progress) where
  -- A line in order comes after those before it.
  pub grows : (section : Section) (g : Group) → in_order section g ≡ true → Unread section p → Is g p k ns →
      so_far (taken g p line k ns).section (taken g p line k ns) ≡ so_far section p ++ item k ns ∷ []
  grows AtStart OfSize o u i = simp (u.0, u.1, u.2, i.0)
  grows InCells OfCell o u i = simp (u.0, u.1, i.0, map_push, append-nil)
  grows InCells OfJob o u i = simp (u.0, u.1, i, append-nil)
  grows InCells OfTurns o u i = simp (u.0, u.1, i.0, map_push, append-nil)
  grows InJob OfStep o u i = simp (u, i, map_push) (step_last (item Size (p.count ∷ [])) (map preset_item p.presets) (jobs_items 1 p.jobs) (job_items (suc (length p.jobs)) p.steps) (step_item (step_from k ns)))
  grows AfterJob OfJob o u i = simp (u, i, append-nil, append_assoc)
  grows AfterJob OfTurns o u i = simp (u, i.0, map_push, append-nil, append_assoc)
  grows InTurns OfTurns o u i = simp (i.0, map_push, append_assoc)
  grows section g o u i = zero_one (cc)
