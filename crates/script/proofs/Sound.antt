-- What is accepted is the text of a script within the bounds.
use Rattle.std.proofs.Common.{◌≡◌, ℕ, suc, ◌+◌, ◌*◌, ◌<◌, ◌≤◌, Bool, true, false, cond, eqb, ltb, List, [], ◌∷◌, ◌++◌, map, length, get_or, Some, None, Ok, Err, Option, Result, sym, refl, ap, ◌∙◌, subst, append_assoc, arith}
use Rattle.std.specs.List.{flat_map}
use Rattle.std.proofs.lemmas.List.{append-nil, flat_map_more}
use Rattle.std.proofs.lemmas.Bool.{eqb-true, ltb-false}
use Rattle.model.specs.Intake.{admission_fault}
use Rattle.model.specs.declared.Fault.{Fault}
use Rattle.model.specs.declared.Step.{Step}
use Rattle.script.specs.Lines.{letter_of, kind_of, fields_of, group_of, Item, item, item_text, closed}
use Rattle.script.specs.Scripts.{Script, All, Admitted, Fits, Within, items_of, render, preset_item, job_items, jobs_items, turns_item}
use Rattle.script.specs.Faults.{next, fault_at, RawLine, Closed, Unclosed, lines_of, Progress, progress, nothing_read, script_of, in_order, tests_of, read_numbers, taken, read_fields, read_kind, read_line, admit_unless, admit_job, step_follows, job_ends, admit_before, finished, read_lines, outcome}
use Rattle.script.specs.declared.Kind.{Kind}
use Rattle.script.specs.declared.Kind.TheVariants.{Size, Cell, Job, Read, Write, Load, Add, Subtract, JumpIfLess, Wait, End, Turns}
use Rattle.script.specs.declared.Group.{Group}
use Rattle.script.specs.declared.Group.TheVariants.{OfSize, OfCell, OfJob, OfStep, OfTurns}
use Rattle.script.specs.declared.Section.{Section}
use Rattle.script.specs.declared.Section.TheVariants.{AtStart, InCells, InJob, AfterJob, InTurns}
use Rattle.script.specs.declared.Cause.TheVariants.{TooLong, Shape, Letter}
use Rattle.script.specs.declared.ListingFault.{ListingFault}
use Rattle.script.proofs.Basics.{zero_one, next-ok, ok_same, cond-ok, all_push}
use Rattle.script.proofs.Texts.{letter_of_kind, numbers_ok, numbered_fit, fields_whole, bytes_of, lines_bytes}
use Rattle.script.proofs.Items.{so_far, Unread, Is, is_line, jobs-push, grows}

-- What holds of the script so far.
pub record Cells (p : Progress) : Type 0 where
  pub some : 1 ≤ p.count
  pub few : p.count ≤ 4096
  pub presets : All (λ q. q.cell < p.count) p.presets

abbrev pub Allotted : Progress → Type 0
Allotted p = All (λ a. (1 ≤ a.job) × (a.job ≤ length p.jobs) × (1 ≤ a.turns) × (a.turns ≤ 10000)) p.turns

abbrev pub Facts : Section → Progress → Type 0
Facts AtStart p = Unit {0}
Facts InCells p = Cells p
Facts InJob p = Cells p × Admitted p.count 0 p.jobs
Facts AfterJob p = Cells p × Admitted p.count 0 p.jobs
Facts InTurns p = Cells p × Admitted p.count 0 p.jobs × Allotted p

pub record Sound (p : Progress) (text : List ℕ) : Type 0 where
  pub written : flat_map closed (so_far p.section p) ≡ text
  pub numbers : All Fits (so_far p.section p)
  pub unread : Unread p.section p
  pub facts : Facts p.section p

no_jobs : (count : ℕ) (jobs : List (List Step)) → jobs ≡ [] → Admitted count 0 jobs
no_jobs count jobs e = subst (Admitted count 0) (sym e) tt

none_allotted : (p : Progress) → p.turns ≡ [] → Allotted p
none_allotted p e = subst (All (λ a. (1 ≤ a.job) × (a.job ≤ length p.jobs) × (1 ≤ a.turns) × (a.turns ≤ 10000))) (sym e) tt

no_presets : (p : Progress) (count : ℕ) → p.presets ≡ [] → All (λ q. q.cell < count) p.presets
no_presets p count e = subst (All (λ q. q.cell < count)) (sym e) tt

module _ (line : ℕ) (k : Kind) (ns : List ℕ) (p : Progress) where
  taken-facts : (section : Section) (g : Group) → in_order section g ≡ true → Unread section p → Is g p k ns → Facts section p →
      Facts (taken g p line k ns).section (taken g p line k ns) × Unread (taken g p line k ns).section (taken g p line k ns)
  taken-facts AtStart OfSize o u i f = (record { some = i.1; few = i.2; presets = no_presets p (get_or ns 0 0) u.0 }, (u.1, u.2))
  taken-facts InCells OfCell o u i f = (record { some = f.some; few = f.few; presets = all_push (λ q. q.cell < p.count) p.presets _ f.presets i.1 }, u)
  taken-facts InCells OfJob o u i f = ((record { some = f.some; few = f.few; presets = f.presets }, no_jobs p.count p.jobs u.0), u.1)
  taken-facts InCells OfTurns o u i f =
      ((record { some = f.some; few = f.few; presets = f.presets }, no_jobs p.count p.jobs u.0, all_push _ p.turns _ (none_allotted p u.1) (i.1, i.2, i.3, i.4)), tt)
  taken-facts InJob OfStep o u i f = ((record { some = f.0.some; few = f.0.few; presets = f.0.presets }, f.1), u)
  taken-facts AfterJob OfJob o u i f = ((record { some = f.0.some; few = f.0.few; presets = f.0.presets }, f.1), u)
  taken-facts AfterJob OfTurns o u i f =
      ((record { some = f.0.some; few = f.0.few; presets = f.0.presets }, f.1, all_push _ p.turns _ (none_allotted p u) (i.1, i.2, i.3, i.4)), tt)
  taken-facts InTurns OfTurns o u i f =
      ((record { some = f.0.some; few = f.0.few; presets = f.0.presets }, f.1, all_push _ p.turns _ f.2 (i.1, i.2, i.3, i.4)), tt)
  taken-facts section g o u i f = zero_one (cc)

-- What a line that was read is.
pub record Parsed (p q : Progress) (line : ℕ) (bytes : List ℕ) : Type 0 where
  pub kind : Kind
  pub numbers : List ℕ
  pub written : bytes ≡ item_text (item kind numbers)
  pub fits : Fits (item kind numbers)
  pub ordered : in_order p.section (group_of kind) ≡ true
  pub is : Is (group_of kind) p kind numbers
  pub then : q ≡ taken (group_of kind) p line kind numbers

pub tests_fields : (p : Progress) (k : Kind) → length (tests_of p k) ≡ fields_of k
tests_fields p Size = refl
tests_fields p Cell = refl
tests_fields p Job = refl
tests_fields p Read = refl
tests_fields p Write = refl
tests_fields p Load = refl
tests_fields p Add = refl
tests_fields p Subtract = refl
tests_fields p JumpIfLess = refl
tests_fields p Wait = refl
tests_fields p End = refl
tests_fields p Turns = refl

parse_kind : (p q : Progress) (line letter : ℕ) (o : Option Kind) (fields : List ℕ) → kind_of letter ≡ o → read_kind p line o fields ≡ Ok q → Parsed p q line (letter ∷ fields)
parse_kind p q line letter None fields h e = zero_one (cc)
parse_kind p q line letter (Some k) fields h e =
    let a = cond-ok (in_order p.section (group_of k)) (cond (eqb (length fields) (11 * fields_of k)) (read_fields p line k fields) (Err (fault_at Shape line 1))) (fault_at Letter line 1) q e in
    let b = cond-ok (eqb (length fields) (11 * fields_of k)) (read_fields p line k fields) (fault_at Shape line 1) q a.1 in
    let c = next-ok (read_numbers (tests_of p k) line 0 fields) (λ ns. Ok (taken (group_of k) p line k ns)) q b.1 in
    let ns = c.0 in
    let n = numbers_ok (tests_of p k) line 0 fields ns c.1 in
    let wide : length fields ≡ 11 * length (tests_of p k) = eqb-true (length fields) (11 * fields_of k) b.0 ∙ ap (λ (m : ℕ). 11 * m) (sym (tests_fields p k)) in
    record {
      kind = k;
      numbers = ns;
      written = ap (λ (b : ℕ). b ∷ fields) (letter_of_kind letter k h) ∙ ap (λ bs. letter_of k ∷ bs) (fields_whole (tests_of p k) fields ns n wide);
      fits = numbered_fit (tests_of p k) 0 fields ns n;
      ordered = a.0;
      is = is_line k p fields ns n;
      then = sym (ok_same (taken (group_of k) p line k ns) q c.2);
    }

abbrev pub ParsedLine : Progress → Progress → ℕ → RawLine → Type 0
ParsedLine p q line (Closed bytes) = Parsed p q line bytes
ParsedLine p q line (Unclosed bytes) = ⊥

parse_line : (p q : Progress) (line : ℕ) (raw : RawLine) → read_line p line raw ≡ Ok q → ParsedLine p q line raw
parse_line p q line (Unclosed bytes) e = zero_one (cc)
parse_line p q line (Closed []) e = zero_one (cc)
parse_line p q line (Closed (letter ∷ fields)) e = parse_kind p q line letter (kind_of letter) fields refl e

parsed_sound : (p q : Progress) (line : ℕ) (bytes text : List ℕ) → Sound p text → Parsed p q line bytes → Sound q (text ++ (bytes ++ 10 ∷ []))
parsed_sound p q line bytes text s r =
    let k = r.kind in
    let ns = r.numbers in
    let t = taken (group_of k) p line k ns in
    let g = grows line k ns p p.section (group_of k) r.ordered s.unread r.is in
    let f = taken-facts line k ns p p.section (group_of k) r.ordered s.unread r.is s.facts in
    let sound : Sound t (text ++ (bytes ++ 10 ∷ [])) = record {
      written = ap (flat_map closed) g ∙ (sym (flat_map_more closed [] (so_far p.section p) (item k ns)) ∙ (ap (λ xs. xs ++ closed (item k ns)) s.written ∙ ap (λ bs. text ++ (bs ++ 10 ∷ [])) (sym r.written)));
      numbers = subst (All Fits) (sym g) (all_push Fits (so_far p.section p) (item k ns) s.numbers r.fits);
      unread = f.1;
      facts = f.0;
    } in
    subst (λ x. Sound x (text ++ (bytes ++ 10 ∷ []))) (sym r.then) sound

line_sound : (p q : Progress) (line : ℕ) (raw : RawLine) (text : List ℕ) → Sound p text → ParsedLine p q line raw → Sound q (text ++ bytes_of raw)
line_sound p q line (Closed bytes) text s r = parsed_sound p q line bytes text s r
line_sound p q line (Unclosed bytes) text s r = absurd r

-- Admission.
admitted_push : (count before : ℕ) (jobs : List (List Step)) (steps : List Step) → Admitted count before jobs → admission_fault (before + length jobs) count steps ≡ None → Admitted count before (jobs ++ steps ∷ [])
admitted_push count before [] steps h e = let z : before + 0 ≡ before = omega arith in (ap (λ (n : ℕ). admission_fault n count steps) (sym z) ∙ e, tt)
admitted_push count before (first ∷ jobs) steps h e =
    let z : suc before + length jobs ≡ before + suc (length jobs) = omega arith in
    (h.0, admitted_push count (suc before) jobs steps h.1 (ap (λ (n : ℕ). admission_fault n count steps) z ∙ e))

abbrev pub after_admission : Progress → Progress
after_admission p = progress AfterJob p.count p.presets (p.jobs ++ p.steps ∷ []) p.turns p.job_line p.steps

admit_ok : (o : Option Fault) (p q : Progress) → admit_unless o p ≡ Ok q → (o ≡ None) × (q ≡ after_admission p)
admit_ok None p q e = (refl, sym (ok_same (after_admission p) q e))
admit_ok (Some f) p q e = zero_one (cc)

after-lines : (p : Progress) → so_far AfterJob (after_admission p) ≡ so_far InJob p
after-lines p =
    let n : 1 + length p.jobs ≡ suc (length p.jobs) = omega arith in
    let before : List Item → List Item = λ xs. item Size (p.count ∷ []) ∷ (map preset_item p.presets ++ xs) in
    let push = jobs-push 1 p.jobs p.steps ∙ ap (λ (j : ℕ). jobs_items 1 p.jobs ++ job_items j p.steps) n in
    ap (λ js. before (js ++ map turns_item p.turns)) push
    ∙ ap before (append_assoc (jobs_items 1 p.jobs) (job_items (suc (length p.jobs)) p.steps) (map turns_item p.turns))

-- A job that ends is admitted; then no job is being read.
abbrev pub NoJob : Section → Type 0
NoJob AtStart = Unit {0}
NoJob InCells = Unit {0}
NoJob InJob = ⊥
NoJob AfterJob = Unit {0}
NoJob InTurns = Unit {0}

pub record Ready (p q : Progress) (text : List ℕ) (follows : Bool) : Type 0 where
  pub sound : Sound q text
  pub over : follows ≡ false → NoJob q.section

module _ (p q : Progress) (text : List ℕ) (s : Sound p text) where
  admitted-sound : p.section ≡ InJob → admit_job p ≡ Ok q → Ready p q text false
  admitted-sound h e =
      let a = admit_ok (admission_fault (length p.jobs) p.count p.steps) p q e in
      let lines = after-lines p in
      let w : flat_map closed (so_far InJob p) ≡ text = subst (λ x. flat_map closed (so_far x p) ≡ text) h s.written in
      let n : All Fits (so_far InJob p) = subst (λ x. All Fits (so_far x p)) h s.numbers in
      let u : Unread InJob p = subst (λ x. Unread x p) h s.unread in
      let f : Facts InJob p = subst (λ x. Facts x p) h s.facts in
      let sound : Sound (after_admission p) text = record {
        written = ap (flat_map closed) lines ∙ w;
        numbers = subst (All Fits) (sym lines) n;
        unread = u;
        facts = (record { some = f.0.some; few = f.0.few; presets = f.0.presets }, admitted_push p.count 0 p.jobs p.steps f.1 (let z : 0 + length p.jobs ≡ length p.jobs = omega arith in ap (λ (m : ℕ). admission_fault m p.count p.steps) z ∙ a.0));
      } in
      record { sound = subst (λ x. Sound x text) (sym a.1) sound; over = λ f. subst NoJob (ap (λ (x : Progress). x.section) (sym a.1)) tt }

  unchanged : (follows : Bool) → (follows ≡ false → NoJob p.section) → ◌≡◌ {A = Result Progress ListingFault} (Ok p) (Ok q) → Ready p q text follows
  unchanged follows none e =
      let same = ok_same p q e in
      record { sound = subst (λ x. Sound x text) same s; over = λ f. subst (λ (x : Progress). NoJob x.section) same (none f) }

  ready_at : (section : Section) (follows : Bool) → p.section ≡ section → cond (job_ends section follows) (admit_job p) (Ok p) ≡ Ok q → Ready p q text follows
  ready_at AtStart follows h e = unchanged follows (λ f. subst NoJob (sym h) tt) e
  ready_at InCells follows h e = unchanged follows (λ f. subst NoJob (sym h) tt) e
  ready_at InJob true h e = unchanged true (λ f. zero_one (cc)) e
  ready_at InJob false h e = admitted-sound h e
  ready_at AfterJob follows h e = unchanged follows (λ f. subst NoJob (sym h) tt) e
  ready_at InTurns follows h e = unchanged follows (λ f. subst NoJob (sym h) tt) e

  pub ready : (follows : Bool) → admit_before p follows ≡ Ok q → Ready p q text follows
  ready follows e = ready_at p.section follows refl e

-- The end.
module _ (p : Progress) (s : Script) (text : List ℕ) (short : length text ≤ 65536) where
  whole : (section : Section) → so_far section p ≡ items_of (script_of p) → Sound p text → p.section ≡ section → Cells p → Admitted p.count 0 p.jobs → Allotted p → script_of p ≡ s → Within s × (text ≡ render s)
  whole section same sound h cells jobs turns e =
      let w : flat_map closed (so_far section p) ≡ text = subst (λ x. flat_map closed (so_far x p) ≡ text) h sound.written in
      let written : text ≡ render (script_of p) = sym w ∙ ap (flat_map closed) same in
      let within : Within (script_of p) = record {
        some_cell = cells.some;
        few_cells = cells.few;
        presets = cells.presets;
        jobs = jobs;
        turns = turns;
        numbers = subst (All Fits) same (subst (λ x. All Fits (so_far x p)) h sound.numbers);
        short = subst (λ xs. length xs ≤ 65536) written short;
      } in
      (subst Within e within, written ∙ ap render e)

  finished-sound : (section : Section) → p.section ≡ section → Sound p text → NoJob section → finished p section ≡ Ok s → Within s × (text ≡ render s)
  finished-sound AtStart h sound none e = zero_one (cc)
  finished-sound InCells h sound none e =
      let u : Unread InCells p = subst (λ x. Unread x p) h sound.unread in
      let f : Facts InCells p = subst (λ x. Facts x p) h sound.facts in
      whole InCells refl sound h f (no_jobs p.count p.jobs u.0) (none_allotted p u.1) (ok_same (script_of p) s e)
  finished-sound InJob h sound none e = absurd none
  finished-sound AfterJob h sound none e =
      let u : Unread AfterJob p = subst (λ x. Unread x p) h sound.unread in
      let f : Facts AfterJob p = subst (λ x. Facts x p) h sound.facts in
      whole AfterJob refl sound h f.0 f.1 (none_allotted p u) (ok_same (script_of p) s e)
  finished-sound InTurns h sound none e =
      let f : Facts InTurns p = subst (λ x. Facts x p) h sound.facts in
      whole InTurns refl sound h f.0 f.1 f.2 (ok_same (script_of p) s e)

lines-sound : (lines : List RawLine) (p : Progress) (line : ℕ) (text whole : List ℕ) (s : Script) → Sound p text → text ++ flat_map bytes_of lines ≡ whole → length whole ≤ 65536 → read_lines p line lines ≡ Ok s → Within s × (whole ≡ render s)
lines-sound [] p line text whole s sound w short e =
    let a = next-ok (admit_before p false) (λ q. finished q q.section) s e in
    let q = a.0 in
    let r = ready p q text sound false a.1 in
    let same : text ≡ whole = sym (append-nil text) ∙ w in
    finished-sound q s whole short q.section refl (subst (Sound q) same r.sound) (r.over refl) a.2
lines-sound (raw ∷ lines) p line text whole s sound w short e =
    let a = next-ok (admit_before p (step_follows (raw ∷ lines))) (λ q. next (read_line q line raw) (λ t. read_lines t (suc line) lines)) s e in
    let q = a.0 in
    let r = ready p q text sound (step_follows (raw ∷ lines)) a.1 in
    let b = next-ok (read_line q line raw) (λ t. read_lines t (suc line) lines) s a.2 in
    let t = b.0 in
    lines-sound lines t (suc line) (text ++ bytes_of raw) whole s (line_sound q t line raw text r.sound (parse_line q t line raw b.1)) (append_assoc text (bytes_of raw) (flat_map bytes_of lines) ∙ w) short b.2

nothing_sound : Sound nothing_read []
nothing_sound = record { written = refl; numbers = tt; unread = (refl, refl, refl); facts = tt }

too_long : (bytes : List ℕ) (s : Script) (t : Bool) → ltb 65536 (length bytes) ≡ t → cond t (Err (fault_at TooLong 1 1)) (read_lines nothing_read 1 (lines_of bytes)) ≡ Ok s → (length bytes ≤ 65536) × (read_lines nothing_read 1 (lines_of bytes) ≡ Ok s)
too_long bytes s true h e = zero_one (cc)
too_long bytes s false h e = (ltb-false 65536 (length bytes) h, e)

pub sound-outcome : (bytes : List ℕ) (s : Script) → outcome bytes ≡ Ok s → Within s × (bytes ≡ render s)
sound-outcome bytes s e =
    let a = too_long bytes s (ltb 65536 (length bytes)) refl e in
    lines-sound (lines_of bytes) nothing_read 1 [] bytes s nothing_sound (lines_bytes bytes) a.0 a.1
