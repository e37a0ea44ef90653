-- What a job's turn comes to, as the model's turn has it. Assumes nothing.
use Rattle.std.specs.Prelude.{◌≡◌, ℕ, ◌+◌, ◌-◌, ◌%◌, ◌^◌, List, Some, None, Ok, Option}
use Rattle.model.specs.Logs.{find, remove, lowest, any, value_in}
use Rattle.model.specs.Rules.{JobState, State, with_logs, with_job, right_taken}
use Rattle.model.specs.Steps.{register}
use Rattle.model.specs.declared.Entry.{Entry}
use Rattle.model.specs.declared.Step.{Step}
use Rattle.model.specs.declared.Step.TheVariants.{Load, Add, Subtract}
use Rattle.model.specs.Calls.{turn_of}
use Rattle.model.specs.declared.Rule.{Rule}
use Rattle.model.specs.declared.Rule.TheVariants.{R1, R2, R3, V3}
use Rattle.cell_log.specs.declared.both.Found.{Found}
use Rattle.cell_log.specs.declared.both.Found.TheVariants.{InWrites, InReads, InStore}
use Rattle.model.specs.declared.Stage.TheVariants as stage
use Rattle.job.specs.Shape.{is_done}
use Rattle.job.specs.declared.moves.Move.{Move}
use Rattle.job.specs.declared.moves.Move.TheVariants.{NoRule, Applies, Takes, Commits}

-- The run where job j, now b, takes the right.
abbrev pub taking : State → ℕ → JobState → State
taking s j b = right_taken (with_job s j b) j

-- In a run where job j is b, its turn makes it b'; only the run itself makes a job done.
abbrev pub Comes : State → ℕ → JobState → JobState → Move → Type 0
Comes s j b b' NoRule = (b' ≡ b) × ((turn_of s j (Some b)).next ≡ s) × ((turn_of s j (Some b)).answer ≡ Ok None)
Comes s j b b' (Applies applied) = ((turn_of s j (Some b)).next ≡ with_job s j b') × ((turn_of s j (Some b)).answer ≡ Ok (Some applied)) × (is_done b'.stage ≡ is_done b.stage)
Comes s j b b' Takes = ((turn_of s j (Some b)).next ≡ taking s j b') × ((turn_of s j (Some b)).answer ≡ Ok (Some (record { rule = V3; cell = None }))) × (is_done b'.stage ≡ is_done b.stage)
Comes s j b b' Commits = (b' ≡ b) × (b.stage ≡ stage.Commit)

-- Whatever the number of the job and the rest of the run.
abbrev pub Moves : List ℕ → Option ℕ → JobState → JobState → Move → Type 0
Moves cells right b b' move = (s : State) (j : ℕ) → s.cells ≡ cells → s.right ≡ right → Comes s j b b' move

-- The lowest entry of a job's write log, and the job without it.
abbrev pub WriteOf : JobState → JobState → Option Entry → Type 0
WriteOf b b' None = (lowest any b.writes ≡ None) × (b' ≡ b)
WriteOf b b' (Some e) = (lowest any b.writes ≡ Some e.cell) × (value_in (find b.writes e.cell) ≡ e.number) × (b' ≡ with_logs b b.reads (remove b.writes e.cell))

-- The rule under which a number is read that was found there.
abbrev pub read_rule : Found → Rule
read_rule InWrites = R1
read_rule InReads = R2
read_rule InStore = R3

-- The number that a step makes of the registers, and the register that it goes into; other steps than these make none.
abbrev pub Makes : Step → List ℕ → ℕ → ℕ → Type 0
Makes (Load r v) registers r' number = (r' ≡ r) × (number ≡ v)
Makes (Add r q) registers r' number = (r' ≡ r) × (number ≡ (register registers r + register registers q) % 2 ^ 32)
Makes (Subtract r q) registers r' number = (r' ≡ r) × (number ≡ (register registers r + (2 ^ 32 - register registers q)) % 2 ^ 32)
Makes step registers r' number = ⊥
