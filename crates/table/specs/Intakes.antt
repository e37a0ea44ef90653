-- What an intake's roster means over the cells of its store. Assumes nothing.
use Rattle.std.specs.Prelude.{ℕ, List, map}
use Rattle.job.specs.Jobs.{job_of}
use Rattle.job.specs.declared.job.Job.{Job}
use Rattle.model.specs.Intake.{Intake}
use Rattle.model.specs.declared.Step.{Step}
use Rattle.table.specs.declared.roster.Roster.{Roster}

abbrev pub program_of : Job → List Step
program_of b = (job_of b).program

abbrev pub intake_of : List ℕ → Roster → Intake
intake_of cells r = record { number = r.number; cells = cells; programs = map program_of (r.jobs.items) }
