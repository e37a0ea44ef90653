-- Admission and its refusals, sealing, closing and the questions. Assumes nothing.
use Rattle.std.specs.Prelude.{ℕ, suc, Bool, true, false, cond, not, ◌||◌, List, [], ◌∷◌, ◌++◌, map, length, Some, None, Ok, Err, Option, Result, ◌==◌, nat_le, nat_lt}
use Rattle.std.specs.Option.{option_or}
use Rattle.model.specs.Steps.{no_registers}
use Rattle.model.specs.Logs.{cell_of, at}
use Rattle.model.specs.Rules.{JobState, State}
use Rattle.model.specs.Calls.{settle}
use Rattle.model.specs.declared.Fault.{Fault}
use Rattle.model.specs.declared.Party.{Party}
use Rattle.model.specs.declared.Refusal.{Refusal}
use Rattle.model.specs.declared.Refusal.TheVariants.{TooManyJobs, StepCount, NoSuchRegister, NoSuchCell, NoLaterStep, LastStep, NoSuchJob}
use Rattle.model.specs.declared.Stage.TheVariants.{Start}
use Rattle.model.specs.declared.Step.{Step}
use Rattle.model.specs.declared.Step.TheVariants.{Read, Write, Load, Add, Subtract, JumpIfLess, Wait, End}

-- An intake: the run's number, the store's cells, and the programs that were admitted, in the order of their numbers.
pub record Intake : Type 0 where
  pub number : ℕ
  pub cells : List ℕ
  pub programs : List (List Step)

abbrev pub fault : Refusal → ℕ → ℕ → Fault
fault refusal step field = record { refusal = refusal; step = step; field = field }

abbrev pub fault_if : Bool → Fault → Option Fault
fault_if bad f = cond bad (Some f) None

-- Step n, from 1: a register that is above 7, a cell that is not below the count, a jump to no later step, each with its field.
abbrev pub bad_register : ℕ → ℕ → ℕ → Option Fault
bad_register n field r = fault_if (nat_lt 7 r) (fault NoSuchRegister n field)

abbrev pub bad_cell : ℕ → ℕ → ℕ → ℕ → Option Fault
bad_cell count n field cell = fault_if (nat_le count cell) (fault NoSuchCell n field)

abbrev pub bad_jump : ℕ → ℕ → ℕ → ℕ → Option Fault
bad_jump steps n field target = fault_if (nat_le target n || nat_lt steps target) (fault NoLaterStep n field)

abbrev pub step_fault : ℕ → ℕ → ℕ → Step → Option Fault
step_fault count steps n (Read r cell) = option_or (bad_register n 1 r) (bad_cell count n 2 cell)
step_fault count steps n (Write cell r) = option_or (bad_register n 2 r) (bad_cell count n 1 cell)
step_fault count steps n (Load r number) = bad_register n 1 r
step_fault count steps n (Add r q) = option_or (bad_register n 1 r) (bad_register n 2 q)
step_fault count steps n (Subtract r q) = option_or (bad_register n 1 r) (bad_register n 2 q)
step_fault count steps n (JumpIfLess r q target) = option_or (bad_register n 1 r) (option_or (bad_register n 2 q) (bad_jump steps n 3 target))
step_fault count steps n Wait = None
step_fault count steps n End = None

-- The first fault of the steps from step n on.
abbrev pub steps_fault : ℕ → ℕ → ℕ → List Step → Option Fault
steps_fault count steps n [] = None
steps_fault count steps n (step ∷ rest) = option_or (step_fault count steps n step) (steps_fault count steps (suc n) rest)

abbrev pub stops : Step → Bool
stops Wait = true
stops End = true
stops step = false

abbrev pub last_stops : List Step → Bool
last_stops [] = false
last_stops (step ∷ []) = stops step
last_stops (step ∷ next ∷ rest) = last_stops (next ∷ rest)

abbrev pub bad_count : List Step → Bool
bad_count steps = length steps == 0 || nat_lt 24 (length steps)

-- Why the steps are not admitted after so many jobs, over so many cells: the first that holds.
abbrev pub admission_fault : ℕ → ℕ → List Step → Option Fault
admission_fault jobs count steps =
    option_or (fault_if (nat_le 16 jobs) (fault TooManyJobs 0 0))
    (option_or (fault_if (bad_count steps) (fault StepCount 0 0))
    (option_or (steps_fault count (length steps) 1 steps)
    (fault_if (not (last_stops steps)) (fault LastStep (length steps) 0))))

-- Admission answers the job's number.
abbrev pub admit_unless : Intake → List Step → Option Fault → Intake × Result ℕ Fault
admit_unless i steps (Some f) = (i, Err f)
admit_unless i steps None = (record i { programs = i.programs ++ steps ∷ [] }, Ok (suc (length i.programs)))

abbrev pub admit : Intake → List Step → Intake × Result ℕ Fault
admit i steps = admit_unless i steps (admission_fault (length i.programs) (length i.cells) steps)

abbrev pub new_job : List Step → JobState
new_job steps = record { program = steps; stage = Start; registers = no_registers; reads = []; writes = []; marked = false; starts = 0 }

abbrev pub sealed : Intake → State
sealed i = record { number = i.number; cells = i.cells; jobs = map new_job i.programs; corrections = []; right = None; order = []; takings = 0; settings = 0 }

-- Closing settles, and gives back a store with these cells.
abbrev pub closed_cells : State → List ℕ
closed_cells s = (settle s).next.cells

-- Questions, which change nothing.
abbrev pub cell_answer : State → ℕ → Result ℕ Refusal
cell_answer s cell = cond (nat_lt cell (length s.cells)) (Ok (cell_of s.cells cell)) (Err NoSuchCell)

abbrev pub entry_answer : State → ℕ → Option Party
entry_answer s place = at s.order place

abbrev pub starts_or : Option JobState → Result ℕ Refusal
starts_or None = Err NoSuchJob
starts_or (Some b) = Ok b.starts

abbrev pub starts_answer : State → ℕ → Result ℕ Refusal
starts_answer s j = starts_or (at s.jobs j)
