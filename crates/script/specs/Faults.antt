-- How a listing is read, and its first fault. Assumes nothing.
use Rattle.std.specs.Prelude.{ℕ, zero, suc, ◌+◌, ◌*◌, Bool, true, false, cond, not, ◌&&◌, List, [], ◌∷◌, ◌++◌, length, take, drop, Some, None, Ok, Err, Option, Result, ◌==◌, nat_le, nat_lt, slice_index}
use Rattle.listing.specs.Columns.{number_of}
use Rattle.model.specs.Intake.{admission_fault}
use Rattle.model.specs.Names.{refusal_number}
use Rattle.report.specs.declared.FaultLine.{FaultLine}
use Rattle.model.specs.declared.Fault.{Fault}
use Rattle.model.specs.declared.Refusal.TheVariants as refusal
use Rattle.model.specs.declared.Step.{Step}
use Rattle.model.specs.declared.Step.TheVariants as step
use Rattle.script.specs.Lines.{kind_of, fields_of, group_of}
use Rattle.script.specs.Scripts.{Script}
use Rattle.script.specs.declared.Kind.{Kind}
use Rattle.script.specs.declared.Kind.TheVariants.{Size, Cell, Job, Read, Write, Load, Add, Subtract, JumpIfLess, Wait, End, Turns}
use Rattle.script.specs.declared.Group.{Group}
use Rattle.script.specs.declared.Group.TheVariants.{OfSize, OfCell, OfJob, OfStep, OfTurns}
use Rattle.script.specs.declared.Section.{Section}
use Rattle.script.specs.declared.Section.TheVariants.{AtStart, InCells, InJob, AfterJob, InTurns}
use Rattle.script.specs.declared.Preset.{Preset}
use Rattle.script.specs.declared.Allotment.{Allotment}
use Rattle.script.specs.declared.Test.{Test}
use Rattle.script.specs.declared.Test.TheVariants.{AnyNumber, CellCount, CellBelow, JobNumber, JobUpTo, TurnCount}
use Rattle.script.specs.declared.Cause.{Cause}
use Rattle.script.specs.declared.Cause.TheVariants.{TooLong, Shape, Letter, NotANumber, NotAllowed, NoSuchCell, NoSuchJob, Admission}
use Rattle.script.specs.declared.ListingFault.{ListingFault}

abbrev pub cause_number : Cause → ℕ
cause_number TooLong = 13
cause_number Shape = 14
cause_number Letter = 15
cause_number NotANumber = 16
cause_number NotAllowed = 17
cause_number NoSuchCell = refusal_number refusal.NoSuchCell
cause_number NoSuchJob = refusal_number refusal.NoSuchJob
cause_number (Admission f) = refusal_number f.refusal

abbrev pub fault_at : Cause → ℕ → ℕ → ListingFault
fault_at cause line column = record { cause = cause; line = line; column = column }

-- The line that tells of a fault.
abbrev pub fault_line : ListingFault → FaultLine
fault_line f = record { number = cause_number f.cause; line = f.line; column = f.column }

-- The column at which field k begins, counted from 1; where no field is to blame, column 1.
abbrev pub column_of : ℕ → ℕ
column_of zero = 1
column_of (suc k) = 2 + 11 * k

module _ {A B : Type 0} where
  -- Goes on with what was read, unless there was a fault.
  abbrev pub next : Result A ListingFault → (A → Result B ListingFault) → Result B ListingFault
  next (Ok x) f = f x
  next (Err fault) f = Err fault

-- The bytes as lines. The last may lack its closing byte 10.
pub data RawLine : Type 0 where
  Closed : List ℕ → RawLine
  Unclosed : List ℕ → RawLine

abbrev pub lengthened : ℕ → List RawLine → List RawLine
lengthened byte [] = Unclosed (byte ∷ []) ∷ []
lengthened byte (Closed bytes ∷ lines) = Closed (byte ∷ bytes) ∷ lines
lengthened byte (Unclosed bytes ∷ lines) = Unclosed (byte ∷ bytes) ∷ lines

abbrev pub lines_of : List ℕ → List RawLine
lines_of [] = []
lines_of (byte ∷ bytes) = cond (byte == 10) (Closed [] ∷ lines_of bytes) (lengthened byte (lines_of bytes))

-- What was read so far. Steps and line of the job that is being read count only in a job.
pub record Progress : Type 0 where
  pub section : Section
  pub count : ℕ
  pub presets : List Preset
  pub jobs : List (List Step)
  pub turns : List Allotment
  pub job_line : ℕ
  pub steps : List Step

abbrev pub progress : Section → ℕ → List Preset → List (List Step) → List Allotment → ℕ → List Step → Progress
progress section count presets jobs turns job_line steps =
    record { section = section; count = count; presets = presets; jobs = jobs; turns = turns; job_line = job_line; steps = steps }

abbrev pub nothing_read : Progress
nothing_read = progress AtStart 0 [] [] [] 0 []

abbrev pub script_of : Progress → Script
script_of p = record { count = p.count; presets = p.presets; jobs = p.jobs; turns = p.turns }

-- Which lines may come next; no others.
abbrev pub in_order : Section → Group → Bool
in_order AtStart OfSize = true
in_order InCells OfCell = true
in_order InCells OfJob = true
in_order InCells OfTurns = true
in_order InJob OfStep = true
in_order AfterJob OfJob = true
in_order AfterJob OfTurns = true
in_order InTurns OfTurns = true
in_order section group = false

abbrev pub unless : Bool → Cause → Option Cause
unless true cause = None
unless false cause = Some cause

abbrev pub between : ℕ → ℕ → Cause → ℕ → Option Cause
between least most cause n = unless (nat_le least n && nat_le n most) cause

-- What is wrong with a number, if anything.
abbrev pub cause_of : Test → ℕ → Option Cause
cause_of AnyNumber n = None
cause_of CellCount n = between 1 4096 NotAllowed n
cause_of (CellBelow count) n = unless (nat_lt n count) NoSuchCell
cause_of (JobNumber number) n = unless (n == number) NotAllowed
cause_of (JobUpTo jobs) n = between 1 jobs NoSuchJob n
cause_of TurnCount n = between 1 10000 NotAllowed n

-- The tests of a line's fields, in their order.
abbrev pub tests_of : Progress → Kind → List Test
tests_of p Size = CellCount ∷ []
tests_of p Cell = CellBelow p.count ∷ AnyNumber ∷ []
tests_of p Job = JobNumber (suc (length p.jobs)) ∷ []
tests_of p Read = AnyNumber ∷ AnyNumber ∷ []
tests_of p Write = AnyNumber ∷ AnyNumber ∷ []
tests_of p Load = AnyNumber ∷ AnyNumber ∷ []
tests_of p Add = AnyNumber ∷ AnyNumber ∷ []
tests_of p Subtract = AnyNumber ∷ AnyNumber ∷ []
tests_of p JumpIfLess = AnyNumber ∷ AnyNumber ∷ AnyNumber ∷ []
tests_of p Wait = []
tests_of p End = []
tests_of p Turns = JobUpTo (length p.jobs) ∷ TurnCount ∷ []

-- Field k of a line, counted from 0, where these are the bytes after the letter.
abbrev pub field_at : ℕ → List ℕ → List ℕ
field_at k bytes = take 11 (drop (11 * k) bytes)

-- The number in field k, if it is one and passes.
abbrev pub tested : Option Cause → ℕ → ℕ → ℕ → Result ℕ ListingFault
tested (Some cause) n line k = Err (fault_at cause line (column_of (suc k)))
tested None n line k = Ok n

abbrev pub read_number : Test → Option ℕ → ℕ → ℕ → Result ℕ ListingFault
read_number test None line k = Err (fault_at NotANumber line (column_of (suc k)))
read_number test (Some n) line k = tested (cause_of test n) n line k

-- The numbers in the fields from field k on, each tested before the next is read.
abbrev pub read_numbers : List Test → ℕ → ℕ → List ℕ → Result (List ℕ) ListingFault
read_numbers [] line k bytes = Ok []
read_numbers (test ∷ tests) line k bytes =
    next (read_number test (number_of (field_at k bytes)) line k) (λ n. next (read_numbers tests line (suc k) bytes) (λ ns. Ok (n ∷ ns)))

-- The step that a step's line of numbers means.
abbrev pub step_from : Kind → List ℕ → Step
step_from Read ns = step.Read (slice_index ns 0) (slice_index ns 1)
step_from Write ns = step.Write (slice_index ns 0) (slice_index ns 1)
step_from Load ns = step.Load (slice_index ns 0) (slice_index ns 1)
step_from Add ns = step.Add (slice_index ns 0) (slice_index ns 1)
step_from Subtract ns = step.Subtract (slice_index ns 0) (slice_index ns 1)
step_from JumpIfLess ns = step.JumpIfLess (slice_index ns 0) (slice_index ns 1) (slice_index ns 2)
step_from End ns = step.End
step_from kind ns = step.Wait

abbrev pub preset : ℕ → ℕ → Preset
preset cell number = record { cell = cell; number = number }

abbrev pub allotment : ℕ → ℕ → Allotment
allotment job turns = record { job = job; turns = turns }

-- What is read then, where the line has this number.
abbrev pub taken : Group → Progress → ℕ → Kind → List ℕ → Progress
taken OfSize p line kind ns = progress InCells (slice_index ns 0) p.presets p.jobs p.turns p.job_line p.steps
taken OfCell p line kind ns = progress InCells p.count (p.presets ++ preset (slice_index ns 0) (slice_index ns 1) ∷ []) p.jobs p.turns p.job_line p.steps
taken OfJob p line kind ns = progress InJob p.count p.presets p.jobs p.turns line []
taken OfStep p line kind ns = progress InJob p.count p.presets p.jobs p.turns p.job_line (p.steps ++ step_from kind ns ∷ [])
taken OfTurns p line kind ns = progress InTurns p.count p.presets p.jobs (p.turns ++ allotment (slice_index ns 0) (slice_index ns 1) ∷ []) p.job_line p.steps

-- A line: first that it is closed and not empty, then its letter, its length, and its fields.
abbrev pub read_fields : Progress → ℕ → Kind → List ℕ → Result Progress ListingFault
read_fields p line kind fields = next (read_numbers (tests_of p kind) line 0 fields) (λ ns. Ok (taken (group_of kind) p line kind ns))

abbrev pub read_kind : Progress → ℕ → Option Kind → List ℕ → Result Progress ListingFault
read_kind p line None fields = Err (fault_at Letter line 1)
read_kind p line (Some kind) fields =
    cond (in_order p.section (group_of kind))
    (cond (length fields == 11 * fields_of kind) (read_fields p line kind fields) (Err (fault_at Shape line 1)))
    (Err (fault_at Letter line 1))

abbrev pub read_line : Progress → ℕ → RawLine → Result Progress ListingFault
read_line p line (Unclosed bytes) = Err (fault_at Shape line 1)
read_line p line (Closed []) = Err (fault_at Shape line 1)
read_line p line (Closed (letter ∷ fields)) = read_kind p line (kind_of letter) fields

-- A job is admitted once no step's letter follows. A fault of step n, from 1, stands n lines below the job's own.
abbrev pub admit_unless : Option Fault → Progress → Result Progress ListingFault
admit_unless (Some f) p = Err (fault_at (Admission f) (p.job_line + f.step) (column_of f.field))
admit_unless None p = Ok (progress AfterJob p.count p.presets (p.jobs ++ p.steps ∷ []) p.turns p.job_line p.steps)

abbrev pub admit_job : Progress → Result Progress ListingFault
admit_job p = admit_unless (admission_fault (length p.jobs) p.count p.steps) p

abbrev pub is_step : Option Kind → Bool
is_step None = false
is_step (Some kind) = in_order InJob (group_of kind)

abbrev pub step_follows : List RawLine → Bool
step_follows [] = false
step_follows (Closed [] ∷ lines) = false
step_follows (Closed (letter ∷ fields) ∷ lines) = is_step (kind_of letter)
step_follows (Unclosed [] ∷ lines) = false
step_follows (Unclosed (letter ∷ fields) ∷ lines) = is_step (kind_of letter)

abbrev pub job_ends : Section → Bool → Bool
job_ends AtStart follows = false
job_ends InCells follows = false
job_ends InJob follows = not follows
job_ends AfterJob follows = false
job_ends InTurns follows = false

abbrev pub admit_before : Progress → Bool → Result Progress ListingFault
admit_before p follows = cond (job_ends p.section follows) (admit_job p) (Ok p)

-- At the end a listing without an M line is at fault in line 1.
abbrev pub finished : Progress → Section → Result Script ListingFault
finished p AtStart = Err (fault_at Letter 1 1)
finished p InCells = Ok (script_of p)
finished p InJob = Ok (script_of p)
finished p AfterJob = Ok (script_of p)
finished p InTurns = Ok (script_of p)

abbrev pub read_lines : Progress → ℕ → List RawLine → Result Script ListingFault
read_lines p line [] = next (admit_before p false) (λ q. finished q q.section)
read_lines p line (raw ∷ lines) =
    next (admit_before p (step_follows (raw ∷ lines))) (λ q. next (read_line q line raw) (λ t. read_lines t (suc line) lines))

-- The script of a listing, or its first fault.
abbrev pub outcome : List ℕ → Result Script ListingFault
outcome bytes = cond (nat_lt 65536 (length bytes)) (Err (fault_at TooLong 1 1)) (read_lines nothing_read 1 (lines_of bytes))
