-- A running run, and the table of rules: which rules a stage has, when each fits, and what it changes. Assumes nothing.
use Rattle.std.specs.Prelude.{ℕ, suc, ◌+◌, ◌%◌, ◌^◌, Bool, true, false, cond, not, ◌&&◌, List, [], ◌∷◌, ◌++◌, Some, None, Option, ◌==◌, slice_set}
use Rattle.std.specs.List.{slice_get}
use Rattle.model.specs.Steps.{no_registers, register, computed, following}
use Rattle.model.specs.Logs.{Log, find, put, remove, lowest, any, cell_of, current, changed, value_in, at, put_at}
use Rattle.model.specs.declared.Step.{Step}
use Rattle.model.specs.declared.Step.TheVariants.{Read, Write, Load, Add, Subtract, JumpIfLess, Wait, End}
use Rattle.model.specs.declared.Stage.{Stage}
use Rattle.model.specs.declared.Stage.TheVariants.{Start, At, Rollback, Validate, Commit, Done}
use Rattle.model.specs.declared.Party.{Party}
use Rattle.model.specs.declared.Party.TheVariants.{Job}
use Rattle.model.specs.declared.Rule.{Rule}
use Rattle.model.specs.declared.Rule.TheVariants.{S1, S2, S3, R1, R2, R3, W1, W2, P, Rt, Rb, E, V1, V2, V3, V4, C1, C2, C3}

pub record JobState : Type 0 where
  pub program : List Step
  pub stage : Stage
  pub registers : List ℕ
  pub reads : Log
  pub writes : Log
  pub marked : Bool
  pub starts : ℕ

pub record CorrectionState : Type 0 where
  pub is_open : Bool
  pub reads : Log
  pub writes : Log

-- A run between two calls. The right is free where nobody holds it.
pub record State : Type 0 where
  pub number : ℕ
  pub cells : List ℕ
  pub jobs : List JobState
  pub corrections : List CorrectionState
  pub right : Option ℕ
  pub order : List Party
  pub takings : ℕ
  pub settings : ℕ

-- What happens in a call.
pub data Event : Type 0 where
  Started : Party → Event
  ReadCell : Party → ℕ → ℕ → Event
  WroteCell : Party → ℕ → ℕ → Event
  TookRight : Party → Event
  SetCell : Party → ℕ → ℕ → Event
  Joined : Party → Event

-- Counters have 32 bits.
abbrev pub counted : ℕ → ℕ
counted n = (n + 1) % 2 ^ 32

-- How many steps stand before the one at which a job stands.
abbrev pub place_of : Stage → ℕ
place_of (At n) = n
place_of stage = 0

-- The step at which a job stands; past its last step it would wait.
abbrev pub step_or : Option Step → Step
step_or None = Wait
step_or (Some step) = step

abbrev pub step_of : JobState → Step
step_of b = step_or (slice_get b.program (place_of b.stage))

-- The rules of a step and of a stage, in the order in which they are tried. A step that touches no cell and does not stop has p alone.
abbrev pub rules_at : Step → List Rule
rules_at (Read r cell) = R1 ∷ R2 ∷ R3 ∷ []
rules_at (Write cell r) = W1 ∷ W2 ∷ []
rules_at Wait = Rt ∷ []
rules_at End = E ∷ []
rules_at step = P ∷ []

abbrev pub rules_of : Stage → Step → List Rule
rules_of Start step = S1 ∷ S2 ∷ S3 ∷ []
rules_of (At n) step = rules_at step
rules_of Rollback step = Rb ∷ []
rules_of Validate step = V1 ∷ V2 ∷ V3 ∷ V4 ∷ []
rules_of Commit step = C1 ∷ C2 ∷ C3 ∷ []
rules_of Done step = []

-- The cell that a step names, and the register; 0 for a step that names none.
abbrev pub step_cell : Step → ℕ
step_cell (Read r cell) = cell
step_cell (Write cell r) = cell
step_cell step = 0

abbrev pub step_register : Step → ℕ
step_register (Read r cell) = r
step_register (Write cell r) = r
step_register (Load r number) = r
step_register (Add r q) = r
step_register (Subtract r q) = r
step_register (JumpIfLess r q step) = r
step_register step = 0

-- Fits at the step's cell if the log has it.
abbrev pub if_logged : ℕ → Option ℕ → Option ℕ
if_logged cell None = None
if_logged cell (Some number) = Some cell

-- Fits, at no cell, if the right is free.
abbrev pub if_free : Option ℕ → Option ℕ
if_free None = Some 0
if_free (Some holder) = None

-- The lowest marked job but this one; n is the number of the list's first.
abbrev pub other_marked : ℕ → ℕ → List JobState → Option ℕ
other_marked j n [] = None
other_marked j n (b ∷ jobs) = cond (b.marked && not (n == j)) (Some n) (other_marked j (suc n) jobs)

-- Whether a rule fits job j, which stands at this step, and at which lowest cell (c1: job); 0 for a rule that has no cell.
abbrev pub fits : State → ℕ → JobState → Step → Rule → Option ℕ
fits s j b step S1 = lowest any b.writes
fits s j b step S2 = lowest any b.reads
fits s j b step S3 = Some 0
fits s j b step R1 = if_logged (step_cell step) (find b.writes (step_cell step))
fits s j b step R2 = if_logged (step_cell step) (find b.reads (step_cell step))
fits s j b step R3 = Some (step_cell step)
fits s j b step W1 = if_logged (step_cell step) (find b.writes (step_cell step))
fits s j b step W2 = Some (step_cell step)
fits s j b step P = Some 0
fits s j b step Rt = lowest (changed s.cells) b.reads
fits s j b step Rb = Some 0
fits s j b step E = if_free s.right
fits s j b step V1 = cond b.marked (lowest (current s.cells) b.reads) None
fits s j b step V2 = cond b.marked (lowest (changed s.cells) b.reads) None
fits s j b step V3 = cond b.marked (if_free s.right) None
fits s j b step V4 = Some 0
fits s j b step C1 = other_marked j 1 s.jobs
fits s j b step C2 = lowest any b.writes
fits s j b step C3 = Some 0

-- The first of these rules that fits, and where.
abbrev pub or_next : Rule → Option ℕ → Option (Rule × ℕ) → Option (Rule × ℕ)
or_next rule None later = later
or_next rule (Some c) later = Some (rule, c)

abbrev pub first_fit : State → ℕ → JobState → Step → List Rule → Option (Rule × ℕ)
first_fit s j b step [] = None
first_fit s j b step (rule ∷ rules) = or_next rule (fits s j b step rule) (first_fit s j b step rules)

-- A job or a run with some of its parts replaced.
abbrev pub in_stage : JobState → Stage → JobState
in_stage b stage = record b { stage = stage }

abbrev pub with_logs : JobState → Log → Log → JobState
with_logs b reads writes = record b { reads = reads; writes = writes }

abbrev pub with_mark : JobState → Bool → JobState
with_mark b marked = record b { marked = marked }

abbrev pub with_registers : JobState → List ℕ → JobState
with_registers b registers = record b { registers = registers }

abbrev pub started : JobState → JobState
started b = record b { stage = At 0; registers = no_registers; starts = counted b.starts }

abbrev pub onward : JobState → Step → JobState
onward b step = in_stage b (At (following step b.registers (place_of b.stage)))

abbrev pub with_jobs : State → List JobState → State
with_jobs s jobs = record s { jobs = jobs }

abbrev pub with_job : State → ℕ → JobState → State
with_job s j b = with_jobs s (put_at s.jobs j b)

-- The job's mark is removed, if there is such a job.
abbrev pub unmark : JobState → JobState
unmark b = with_mark b false

abbrev pub unmark_in : List JobState → ℕ → Option JobState → List JobState
unmark_in jobs j None = jobs
unmark_in jobs j (Some b) = put_at jobs j (unmark b)

-- The number goes into the step's register, and the next step follows.
abbrev pub loaded : JobState → Step → ℕ → JobState
loaded b step number = with_registers (onward b step) (slice_set b.registers (step_register step) number)

-- The number of the step's register goes into the write log, and the next step follows.
abbrev pub logged : JobState → Step → ℕ → JobState
logged b step cell = with_logs (onward b step) b.reads (put b.writes cell (register b.registers (step_register step)))

-- The number that a rule reads or sets at cell c.
abbrev pub number_by : State → JobState → ℕ → Rule → ℕ
number_by s b c R2 = value_in (find b.reads c)
number_by s b c R3 = cell_of s.cells c
number_by s b c rule = value_in (find b.writes c)

-- The run where job j takes the right.
abbrev pub right_taken : State → ℕ → State
right_taken s j = record s { right = Some j; takings = counted s.takings }

-- The run where a cell is set, and the cells are these then.
abbrev pub cell_set : State → List ℕ → State
cell_set s cells = record s { cells = cells; settings = counted s.settings }

-- The run where a party joins the commit order, and the right is free.
abbrev pub joined_last : State → Party → State
joined_last s p = record s { right = None; order = s.order ++ p ∷ [] }

-- What each rule changes, at the cell or job c at which it fits.
abbrev pub effect : State → ℕ → JobState → Step → ℕ → Rule → State
effect s j b step c S1 = with_job s j (with_logs b b.reads (remove b.writes c))
effect s j b step c S2 = with_job s j (with_logs b (remove b.reads c) b.writes)
effect s j b step c S3 = with_job s j (started b)
effect s j b step c R1 = with_job s j (loaded b step (number_by s b c R1))
effect s j b step c R2 = with_job s j (loaded b step (number_by s b c R2))
effect s j b step c R3 = with_job s j (with_logs (loaded b step (number_by s b c R3)) (put b.reads c (number_by s b c R3)) b.writes)
effect s j b step c W1 = with_job s j (logged b step c)
effect s j b step c W2 = with_job s j (logged b step c)
effect s j b step c P = with_job s j (with_registers (onward b step) (computed step b.registers))
effect s j b step c Rt = with_job s j (in_stage b Rollback)
effect s j b step c Rb = with_job s j (in_stage b Start)
effect s j b step c E = with_job s j (with_mark (in_stage b Validate) true)
effect s j b step c V1 = with_job s j (with_logs b (remove b.reads c) b.writes)
effect s j b step c V2 = with_job s j (with_mark (with_logs (in_stage b Rollback) (remove b.reads c) b.writes) false)
effect s j b step c V3 = right_taken (with_job s j (with_mark (in_stage b Commit) false)) j
effect s j b step c V4 = with_job s j (in_stage b Rollback)
effect s j b step c C1 = with_jobs s (unmark_in s.jobs c (at s.jobs c))
effect s j b step c C2 = cell_set (with_job s j (with_logs b b.reads (remove b.writes c))) (slice_set s.cells c (number_by s b c C2))
effect s j b step c C3 = joined_last (with_job s j (in_stage b Done)) (Job j)

-- What happens where a rule is applied; where it is none of these, nothing happens.
abbrev pub happens : State → ℕ → JobState → ℕ → Rule → List Event
happens s j b c S3 = Started (Job j) ∷ []
happens s j b c R1 = ReadCell (Job j) c (number_by s b c R1) ∷ []
happens s j b c R2 = ReadCell (Job j) c (number_by s b c R2) ∷ []
happens s j b c R3 = ReadCell (Job j) c (number_by s b c R3) ∷ []
happens s j b c V3 = TookRight (Job j) ∷ []
happens s j b c C2 = SetCell (Job j) c (number_by s b c C2) ∷ []
happens s j b c C3 = Joined (Job j) ∷ []
happens s j b c rule = []
