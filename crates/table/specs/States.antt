-- What a run's table means over the cells of its store. Assumes nothing.
use Rattle.std.specs.Prelude.{◌≡◌, ℕ, suc, List, map, length, Some, None, Option}
use Rattle.correction.specs.Corrections.{correction_of}
use Rattle.job.specs.Jobs.{job_of}
use Rattle.job.specs.Moves.{Moves, WriteOf}
use Rattle.job.specs.declared.moves.Move.{Move}
use Rattle.model.specs.Logs.{at}
use Rattle.model.specs.Rules.{JobState, CorrectionState, State, in_stage, with_job, cell_set, joined_last}
use Rattle.model.specs.declared.Entry.{Entry}
use Rattle.model.specs.declared.Party.TheVariants.{Job}
use Rattle.model.specs.declared.Stage.TheVariants.{Done}
use Rattle.table.specs.declared.table.Table.{Table}

abbrev pub jobs_in : Table → List JobState
jobs_in t = map job_of t.jobs.items

abbrev pub corrections_in : Table → List CorrectionState
corrections_in t = map correction_of t.corrections.items

abbrev pub state_of : List ℕ → Table → State
state_of cells t =
    record {
      number = t.number;
      cells = cells;
      jobs = jobs_in t;
      corrections = corrections_in t;
      right = t.right;
      order = t.order.items;
      takings = t.takings;
      settings = t.settings;
    }

-- The job at place i makes its own turn, which makes it b', whatever the cells, and no other job changes.
abbrev pub JobTurns : List ℕ → Table → Table → ℕ → Move → Type 0
JobTurns cells t t' i move =
    (b : JobState) × (b' : JobState) × (at (jobs_in t) (suc i) ≡ Some b) × ((C : List ℕ) → state_of C t' ≡ with_job (state_of C t) (suc i) b') × Moves cells t.right b b' move × (length t'.jobs.items ≡ length t.jobs.items)

abbrev pub done : JobState → JobState
done b = in_stage b Done

-- The run where an entry was taken, to be set in cells that are then D.
abbrev pub with_setting : State → List ℕ → ℕ → JobState → State
with_setting s D j b = cell_set (with_job s j b) D

abbrev pub after_taking : State → ℕ → JobState → Option Entry → State
after_taking s j b None = s
after_taking s j b (Some e) = with_setting s s.cells j b

-- The job at place i gives the lowest entry of its write log, if there is one.
abbrev pub WriteTaken : Table → Table → ℕ → Option Entry → Type 0
WriteTaken t t' i r =
    (b : JobState) × (b' : JobState) × (at (jobs_in t) (suc i) ≡ Some b) × WriteOf b b' r × ((C : List ℕ) → state_of C t' ≡ after_taking (state_of C t) (suc i) b' r) × (length t'.jobs.items ≡ length t.jobs.items)

-- The run where job j has committed.
abbrev pub with_joined : State → ℕ → JobState → State
with_joined s j b = joined_last (with_job s j (done b)) (Job j)

abbrev pub Finished : Table → Table → ℕ → Type 0
Finished t t' i = (b : JobState) × (at (jobs_in t) (suc i) ≡ Some b) × ((C : List ℕ) → state_of C t' ≡ with_joined (state_of C t) (suc i) b)
