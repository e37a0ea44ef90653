-- The text of a script within the bounds is accepted, and read as that script.
use Rattle.std.proofs.Common.{◌≡◌, ℕ, suc, ◌+◌, ◌*◌, ◌<◌, ◌≤◌, Bool, true, false, cond, ◌&&◌, eqb, ltb, leb, List, [], ◌∷◌, ◌++◌, map, length, drop, None, Ok, Err, Result, sym, refl, ap, ◌∙◌, subst, append_assoc, arith}
use Rattle.std.specs.List.{flat_map}
use Rattle.std.proofs.lemmas.List.{append-nil, map-append, length_push}
use Rattle.std.proofs.lemmas.Bool.{lt-ltb, le-ltb, le-leb, eq-eqb}
use Rattle.report.specs.Text.{field}
use Rattle.model.specs.Intake.{admission_fault}
use Rattle.model.specs.declared.Step.{Step}
use Rattle.model.specs.declared.Step.TheVariants as step
use Rattle.script.specs.Lines.{fields_of, group_of, Item, item, item_text, closed}
use Rattle.script.specs.Scripts.{Script, All, Admitted, Fits, Within, items_of, render, preset_item, step_item, job_items, jobs_items, turns_item}
use Rattle.script.specs.Faults.{next, fault_at, RawLine, Closed, lines_of, Progress, progress, nothing_read, in_order, unless, between, tests_of, taken, read_fields, read_kind, read_line, admit_unless, admit_before, step_follows, finished, read_lines, outcome}
use Rattle.script.specs.declared.Kind.{Kind}
use Rattle.script.specs.declared.Kind.TheVariants.{Size, Cell, Job, Read, Write, Load, Add, Subtract, JumpIfLess, Wait, End, Turns}
use Rattle.script.specs.declared.Section.{Section}
use Rattle.script.specs.declared.Section.TheVariants.{AtStart, InCells, InJob, AfterJob, InTurns}
use Rattle.script.specs.declared.Preset.{Preset}
use Rattle.script.specs.declared.Allotment.{Allotment}
use Rattle.script.specs.declared.Test.{Test}
use Rattle.script.specs.declared.Cause.{Cause}
use Rattle.script.specs.declared.Cause.TheVariants.{TooLong, Shape, Letter}
use Rattle.script.specs.declared.ListingFault.{ListingFault}
use Rattle.script.proofs.Basics.{all_left, all_right}
use Rattle.script.proofs.Texts.{kind_of_letter, Passes, read_from, length_fields, no_end_item, line_closed}
use Rattle.script.specs.Law.{ListingLaw}
use Rattle.script.proofs.Sound.{tests_fields, sound-outcome}

abbrev pub raw : Item → RawLine
raw i = Closed (item_text i)

lines_items : (items : List Item) → All Fits items → lines_of (flat_map closed items) ≡ map raw items
lines_items [] fit = refl
lines_items (i ∷ items) fit =
    ap lines_of (append_assoc (item_text i) (10 ∷ []) (flat_map closed items))
    ∙ (line_closed (item_text i) (flat_map closed items) (no_end_item i fit.0) ∙ ap (λ ls. raw i ∷ ls) (lines_items items fit.1))

passes-length : (p : Progress) (k : Kind) (ns : List ℕ) → Passes (tests_of p k) ns → length ns ≡ fields_of k
passes-length p k ns h = go (tests_of p k) ns h ∙ tests_fields p k
  where
    go : (tests : List Test) (ns : List ℕ) → Passes tests ns → length ns ≡ length tests
    go [] [] h = refl
    go [] (n ∷ ns) h = absurd h
    go (test ∷ tests) [] h = absurd h
    go (test ∷ tests) (n ∷ ns) h = ap suc (go tests ns h.1)

-- A line in order whose numbers pass is read.
module _ (p : Progress) (line : ℕ) (k : Kind) (ns : List ℕ) where
  line_read : in_order p.section (group_of k) ≡ true → Passes (tests_of p k) ns → Fits (item k ns) → read_line p line (raw (item k ns)) ≡ Ok (taken (group_of k) p line k ns)
  line_read o h fit =
      let fields = flat_map field ns in
      let wide : eqb (length fields) (11 * fields_of k) ≡ true = eq-eqb (length fields) (11 * fields_of k) (length_fields ns fit ∙ ap (λ (n : ℕ). 11 * n) (passes-length p k ns h)) in
      let zeroth : drop (11 * 0) fields ≡ fields = refl in
      ap (λ kind. read_kind p line kind fields) (kind_of_letter k)
      ∙ (ap (λ t. cond t (cond (eqb (length fields) (11 * fields_of k)) (read_fields p line k fields) (Err (fault_at Shape line 1))) (Err (fault_at Letter line 1))) o
      ∙ (ap (λ t. cond t (read_fields p line k fields) (Err (fault_at Shape line 1))) wide
      ∙ ap (λ r. next r (λ ms. Ok (taken (group_of k) p line k ms))) (read_from (tests_of p k) line 0 fields ns zeroth h fit)))

  -- And reading goes on after it.
  line-then : (rest : List RawLine) → admit_before p (step_follows (raw (item k ns) ∷ rest)) ≡ Ok p → in_order p.section (group_of k) ≡ true → Passes (tests_of p k) ns → Fits (item k ns) →
      read_lines p line (raw (item k ns) ∷ rest) ≡ read_lines (taken (group_of k) p line k ns) (suc line) rest
  line-then rest ready o h fit =
      ap (λ r. next r (λ q. next (read_line q line (raw (item k ns))) (λ t. read_lines t (suc line) rest))) ready
      ∙ ap (λ r. next r (λ t. read_lines t (suc line) rest)) (line_read o h fit)

pass : (b : Bool) (cause : Cause) → b ≡ true → unless b cause ≡ None
pass b cause e = ap (λ t. unless t cause) e

in_between : (least most n : ℕ) (cause : Cause) → least ≤ n → n ≤ most → between least most cause n ≡ None
in_between least most n cause a b =
    pass (leb least n && leb n most) cause (ap (λ t. t && leb n most) (le-leb least n a) ∙ le-leb n most b)

module _ (count : ℕ) where
  cells-read : (presets more : List Preset) (line : ℕ) (rest : List RawLine) → All (λ p. p.cell < count) more → All Fits (map preset_item more) →
      read_lines (progress InCells count presets [] [] 0 []) line (map raw (map preset_item more) ++ rest) ≡ read_lines (progress InCells count (presets ++ more) [] [] 0 []) (line + length more) rest
  cells-read presets [] line rest h fit =
      let z : line ≡ line + 0 = omega arith in
      ap (λ ps. read_lines (progress InCells count ps [] [] 0 []) line rest) (sym (append-nil presets)) ∙ ap (λ n. read_lines (progress InCells count (presets ++ []) [] [] 0 []) n rest) z
  cells-read presets (p ∷ more) line rest h fit =
      let z : suc line + length more ≡ line + suc (length more) = omega arith in
      line-then (progress InCells count presets [] [] 0 []) line Cell (p.cell ∷ p.number ∷ []) (map raw (map preset_item more) ++ rest) refl refl (pass _ _ (lt-ltb p.cell count h.0), (refl, tt)) fit.0
      ∙ (cells-read (presets ++ p ∷ []) more (suc line) rest h.1 fit.1
      ∙ (ap (λ ps. read_lines (progress InCells count ps [] [] 0 []) (suc line + length more) rest) (append_assoc presets (p ∷ []) more)
      ∙ ap (λ n. read_lines (progress InCells count (presets ++ p ∷ more) [] [] 0 []) n rest) z))

  module _ (presets : List Preset) where
    -- Steps of a job.
    module _ (jobs : List (List Step)) (job_line : ℕ) where
      abbrev in_job : List Step → Progress
      in_job steps = progress InJob count presets jobs [] job_line steps

      step-read : (steps : List Step) (x : Step) (line : ℕ) (rest : List RawLine) → Fits (step_item x) → read_lines (in_job steps) line (raw (step_item x) ∷ rest) ≡ read_lines (in_job (steps ++ x ∷ [])) (suc line) rest
      step-read steps (step.Read r cell) line rest fit = line-then (in_job steps) line Read (r ∷ cell ∷ []) rest refl refl (refl, (refl, tt)) fit
      step-read steps (step.Write cell r) line rest fit = line-then (in_job steps) line Write (cell ∷ r ∷ []) rest refl refl (refl, (refl, tt)) fit
      step-read steps (step.Load r number) line rest fit = line-then (in_job steps) line Load (r ∷ number ∷ []) rest refl refl (refl, (refl, tt)) fit
      step-read steps (step.Add r q) line rest fit = line-then (in_job steps) line Add (r ∷ q ∷ []) rest refl refl (refl, (refl, tt)) fit
      step-read steps (step.Subtract r q) line rest fit = line-then (in_job steps) line Subtract (r ∷ q ∷ []) rest refl refl (refl, (refl, tt)) fit
      step-read steps (step.JumpIfLess r q target) line rest fit = line-then (in_job steps) line JumpIfLess (r ∷ q ∷ target ∷ []) rest refl refl (refl, (refl, (refl, tt))) fit
      step-read steps step.Wait line rest fit = line-then (in_job steps) line Wait [] rest refl refl tt fit
      step-read steps step.End line rest fit = line-then (in_job steps) line End [] rest refl refl tt fit

      steps-read : (steps more : List Step) (line : ℕ) (rest : List RawLine) → All Fits (map step_item more) →
          read_lines (in_job steps) line (map raw (map step_item more) ++ rest) ≡ read_lines (in_job (steps ++ more)) (line + length more) rest
      steps-read steps [] line rest fit =
          let z : line ≡ line + 0 = omega arith in
          ap (λ ss. read_lines (in_job ss) line rest) (sym (append-nil steps)) ∙ ap (λ n. read_lines (in_job (steps ++ [])) n rest) z
      steps-read steps (x ∷ more) line rest fit =
          let z : suc line + length more ≡ line + suc (length more) = omega arith in
          step-read steps x line (map raw (map step_item more) ++ rest) fit.0
          ∙ (steps-read (steps ++ x ∷ []) more (suc line) rest fit.1
          ∙ (ap (λ ss. read_lines (in_job ss) (suc line + length more) rest) (append_assoc steps (x ∷ []) more)
          ∙ ap (λ n. read_lines (in_job (steps ++ x ∷ more)) n rest) z))

      -- The job is admitted where no step follows.
      admitted-then : (steps : List Step) (line : ℕ) (rest : List RawLine) → admission_fault (length jobs) count steps ≡ None → step_follows rest ≡ false →
          read_lines (in_job steps) line rest ≡ read_lines (progress AfterJob count presets (jobs ++ steps ∷ []) [] job_line steps) line rest
      admitted-then steps line [] e f = ap (λ o. next (admit_unless o (in_job steps)) (λ q. finished q q.section)) e
      admitted-then steps line (l ∷ rest) e f =
          let onward : Progress → Result Script ListingFault = λ q. next (read_line q line l) (λ t. read_lines t (suc line) rest) in
          ap (λ b. next (admit_before (in_job steps) b) onward) f ∙ ap (λ o. next (admit_unless o (in_job steps)) onward) e

    -- Jobs.
    abbrev Between : Section → Type 0
    Between AtStart = ⊥
    Between InCells = Unit {0}
    Between InJob = ⊥
    Between AfterJob = Unit {0}
    Between InTurns = ⊥

    job-begins : (section : Section) → Between section → (jobs : List (List Step)) (job_line line : ℕ) (steps : List Step) (rest : List RawLine) → Fits (item Job (suc (length jobs) ∷ [])) →
        read_lines (progress section count presets jobs [] job_line steps) line (raw (item Job (suc (length jobs) ∷ [])) ∷ rest) ≡ read_lines (progress InJob count presets jobs [] line []) (suc line) rest
    job-begins AtStart b jobs job_line line steps rest fit = absurd b
    job-begins InCells b jobs job_line line steps rest fit =
        line-then (progress InCells count presets jobs [] job_line steps) line Job (suc (length jobs) ∷ []) rest refl refl (pass _ _ (eq-eqb (suc (length jobs)) (suc (length jobs)) refl), tt) fit
    job-begins InJob b jobs job_line line steps rest fit = absurd b
    job-begins AfterJob b jobs job_line line steps rest fit =
        line-then (progress AfterJob count presets jobs [] job_line steps) line Job (suc (length jobs) ∷ []) rest refl refl (pass _ _ (eq-eqb (suc (length jobs)) (suc (length jobs)) refl), tt) fit
    job-begins InTurns b jobs job_line line steps rest fit = absurd b

    no_step : (j : ℕ) (jobs : List (List Step)) (rest : List RawLine) → step_follows rest ≡ false → step_follows (map raw (jobs_items j jobs) ++ rest) ≡ false
    no_step j [] rest f = f
    no_step j (steps ∷ jobs) rest f = refl

    -- Where the jobs lead.
    record Led (jobs : List (List Step)) (outcome : Result Script ListingFault) (rest : List RawLine) : Type 0 where
      section : Section
      between : Between section
      job_line : ℕ
      steps : List Step
      line : ℕ
      leads : outcome ≡ read_lines (progress section count presets jobs [] job_line steps) line rest

    jobs-read : (more : List (List Step)) (section : Section) → Between section → (jobs : List (List Step)) (job_line line : ℕ) (steps : List Step) (rest : List RawLine) →
        Admitted count (length jobs) more → All Fits (jobs_items (suc (length jobs)) more) → step_follows rest ≡ false →
        Led (jobs ++ more) (read_lines (progress section count presets jobs [] job_line steps) line (map raw (jobs_items (suc (length jobs)) more) ++ rest)) rest
    jobs-read [] section b jobs job_line line steps rest h fit f =
        record {
          section = section;
          between = b;
          job_line = job_line;
          steps = steps;
          line = line;
          leads = ap (λ js. read_lines (progress section count presets js [] job_line steps) line rest) (sym (append-nil jobs));
        }
    jobs-read (first ∷ more) section b jobs job_line line steps rest h fit f =
        let now = jobs ++ first ∷ [] in
        let after = jobs_items (suc (suc (length jobs))) more in
        let here : suc (length jobs) ≡ length now = (let p = length_push jobs first in omega arith) in
        let split : map raw (job_items (suc (length jobs)) first ++ after) ++ rest ≡ raw (item Job (suc (length jobs) ∷ [])) ∷ (map raw (map step_item first) ++ (map raw after ++ rest)) =
        ap (λ ls. ls ++ rest) (map-append raw (job_items (suc (length jobs)) first) after) ∙ append_assoc (map raw (job_items (suc (length jobs)) first)) (map raw after) rest in
        let own = all_left Fits (job_items (suc (length jobs)) first) after fit in
        let begun = job-begins section b jobs job_line line steps (map raw (map step_item first) ++ (map raw after ++ rest)) own.0 in
        let stepped = steps-read jobs line [] first (suc line) (map raw after ++ rest) own.1 in
        let ended = admitted-then jobs line first (suc line + length first) (map raw after ++ rest) h.0 (no_step (suc (suc (length jobs))) more rest f) in
        let ih = jobs-read more AfterJob tt now line (suc line + length first) first rest
        (subst (λ (n : ℕ). Admitted count n more) here h.1)
        (subst (λ (n : ℕ). All Fits (jobs_items (suc n) more)) here (all_right Fits (job_items (suc (length jobs)) first) after fit))
        f in
        let same : map raw after ++ rest ≡ map raw (jobs_items (suc (length now)) more) ++ rest = ap (λ (n : ℕ). map raw (jobs_items (suc n) more) ++ rest) here in
        record {
          section = ih.section;
          between = ih.between;
          job_line = ih.job_line;
          steps = ih.steps;
          line = ih.line;
          leads =
              ap (read_lines (progress section count presets jobs [] job_line steps) line) split
              ∙ (begun ∙ (stepped ∙ (ended
              ∙ (ap (read_lines (progress AfterJob count presets now [] line first) (suc line + length first)) same
              ∙ (ih.leads ∙ ap (λ js. read_lines (progress ih.section count presets js [] ih.job_line ih.steps) ih.line rest) (append_assoc jobs (first ∷ []) more))))));
        }

    -- Turns, to the end.
    module _ (jobs : List (List Step)) (job_line : ℕ) (steps : List Step) where
      abbrev OneAllotted : Allotment → Type 0
      OneAllotted a = (1 ≤ a.job) × (a.job ≤ length jobs) × (1 ≤ a.turns) × (a.turns ≤ 10000)

      may-turn : (a : Allotment) → OneAllotted a → Passes (tests_of (progress InTurns count presets jobs [] job_line steps) Turns) (a.job ∷ a.turns ∷ [])
      may-turn a h = (in_between 1 (length jobs) a.job _ h.0 h.1, (in_between 1 10000 a.turns _ h.2 h.3, tt))

      turns-read : (turns more : List Allotment) (line : ℕ) → All OneAllotted more → All Fits (map turns_item more) →
          read_lines (progress InTurns count presets jobs turns job_line steps) line (map raw (map turns_item more)) ≡ Ok (record { count = count; presets = presets; jobs = jobs; turns = turns ++ more })
      turns-read turns [] line h fit = ap (λ ts. Ok (record { count = count; presets = presets; jobs = jobs; turns = ts })) (sym (append-nil turns))
      turns-read turns (a ∷ more) line h fit =
          line-then (progress InTurns count presets jobs turns job_line steps) line Turns (a.job ∷ a.turns ∷ []) (map raw (map turns_item more)) refl refl (may-turn a h.0) fit.0
          ∙ (turns-read (turns ++ a ∷ []) more (suc line) h.1 fit.1
          ∙ ap (λ ts. Ok (record { count = count; presets = presets; jobs = jobs; turns = ts })) (append_assoc turns (a ∷ []) more))

      turns-begin : (section : Section) → Between section → (more : List Allotment) (line : ℕ) → All OneAllotted more → All Fits (map turns_item more) →
          read_lines (progress section count presets jobs [] job_line steps) line (map raw (map turns_item more)) ≡ Ok (record { count = count; presets = presets; jobs = jobs; turns = more })
      turns-begin AtStart b more line h fit = absurd b
      turns-begin InCells b [] line h fit = refl
      turns-begin InCells b (a ∷ more) line h fit =
          line-then (progress InCells count presets jobs [] job_line steps) line Turns (a.job ∷ a.turns ∷ []) (map raw (map turns_item more)) refl refl (may-turn a h.0) fit.0 ∙ turns-read (a ∷ []) more (suc line) h.1 fit.1
      turns-begin InJob b more line h fit = absurd b
      turns-begin AfterJob b [] line h fit = refl
      turns-begin AfterJob b (a ∷ more) line h fit =
          line-then (progress AfterJob count presets jobs [] job_line steps) line Turns (a.job ∷ a.turns ∷ []) (map raw (map turns_item more)) refl refl (may-turn a h.0) fit.0 ∙ turns-read (a ∷ []) more (suc line) h.1 fit.1
      turns-begin InTurns b more line h fit = absurd b

no_step_of_turns : (turns : List Allotment) → step_follows (map raw (map turns_item turns)) ≡ false
no_step_of_turns [] = refl
no_step_of_turns (a ∷ turns) = refl

script_read : (s : Script) → Within s → read_lines nothing_read 1 (map raw (items_of s)) ≡ Ok s
script_read s w =
    let cells = map preset_item s.presets in
    let jobs = jobs_items 1 s.jobs in
    let turns = map turns_item s.turns in
    let fit = w.numbers in
    let fitting = all_right Fits cells (jobs ++ turns) fit.1 in
    let split : map raw (cells ++ (jobs ++ turns)) ≡ map raw cells ++ (map raw jobs ++ map raw turns) = map-append raw cells (jobs ++ turns) ∙ ap (λ ls. map raw cells ++ ls) (map-append raw jobs turns) in
    let sized = line-then nothing_read 1 Size (s.count ∷ []) (map raw (cells ++ (jobs ++ turns))) refl refl (in_between 1 4096 s.count _ w.some_cell w.few_cells, tt) fit.0 in
    let celled = cells-read s.count [] s.presets 2 (map raw jobs ++ map raw turns) w.presets (all_left Fits cells (jobs ++ turns) fit.1) in
    let led = jobs-read s.count s.presets s.jobs InCells tt [] 0 (2 + length s.presets) [] (map raw turns) w.jobs (all_left Fits jobs turns fitting) (no_step_of_turns s.turns) in
    sized
    ∙ (ap (read_lines (progress InCells s.count [] [] [] 0 []) 2) split
    ∙ (celled ∙ (led.leads ∙ turns-begin s.count s.presets s.jobs led.job_line led.steps led.section led.between s.turns led.line w.turns (all_right Fits jobs turns fitting))))

pub complete_outcome : (bytes : List ℕ) (s : Script) → Within s → bytes ≡ render s → outcome bytes ≡ Ok s
complete_outcome bytes s w e =
    let short : ltb 65536 (length (render s)) ≡ false = le-ltb 65536 (length (render s)) w.short in
    ap outcome e
    ∙ (ap (λ t. cond t (Err (fault_at TooLong 1 1)) (read_lines nothing_read 1 (lines_of (render s)))) short
    ∙ (ap (read_lines nothing_read 1) (lines_items (items_of s) w.numbers) ∙ script_read s w))

pub law : ListingLaw
law bytes = record { accepts = λ s w e. complete_outcome bytes s w e; accepted = λ s e. sound-outcome bytes s e }
