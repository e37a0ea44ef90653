-- What the jobs that committed leave, played one by one, and what a printed report tells of it. Assumes nothing.
use Rattle.std.specs.Prelude.{◌≡◌, ℕ, true, List, [], map, length, Ok, Err, Option, Some, None, Result}
use Rattle.model.specs.Intake.{Intake}
use Rattle.model.specs.Law.{EachOnce}
use Rattle.model.specs.Logs.{at}
use Rattle.model.specs.Replay.{Parts, plays, replayed}
use Rattle.model.specs.Rules.{State}
use Rattle.model.specs.declared.Party.TheVariants.{Job}
use Rattle.model.specs.declared.Step.{Step}
use Rattle.script.specs.Scripts.{Script, All, Words}
use Rattle.script.specs.declared.ListingFault.{ListingFault}
use Rattle.batch.specs.Reports.{report_lines, starts_in}
use Rattle.batch.specs.Runs.{final_state, intake_for}

-- Jobs by their numbers, from 1, and no corrections.
abbrev pub steps_or : Option (List Step) → List Step
steps_or None = []
steps_or (Some steps) = steps

abbrev pub alone : List (List Step) → Parts
alone jobs = record { programs = λ j. steps_or (at jobs j); scripts = λ k. [] }

-- These jobs of the intake, each once, played one by one in this order from its cells: each comes to its end, and they
-- leave these cells. A number that no job of the intake has would have no steps, and so never end.
pub record OneByOne (i : Intake) (order cells : List ℕ) : Type 0 where
  pub once : EachOnce order
  pub end : All (λ p. p.ended ≡ true) (plays (alone i.programs) (map Job order) i.cells)
  pub leave : cells ≡ replayed (alone i.programs) (map Job order) i.cells

-- The cells of the run are what its jobs leave, one by one in the commit order, which no correction joined.
abbrev pub LeftByJobs : Intake → State → Type 0
LeftByJobs i s = (order : List ℕ) × (s.order ≡ map Job order) × OneByOne i order s.cells

-- What a report tells: which jobs committed, in their order, how often each job started, and the number of each cell.
pub record Report : Type 0 where
  pub order : List ℕ
  pub starts : List ℕ
  pub cells : List ℕ

-- Its text: a D line for each job that committed, an N line for each job, and a C line for each cell.
abbrev pub text_of : Report → List ℕ
text_of r = report_lines (map Job r.order) r.starts r.cells

-- A report in numbers of 32 bits, which are all that can be printed.
abbrev pub Printable : Report → Type 0
Printable r = Words r.order × Words r.starts × Words r.cells

-- What a state has to report, where none but jobs have committed.
pub record Reports (s : State) (r : Report) : Type 0 where
  pub order : map Job r.order ≡ s.order
  pub starts : r.starts ≡ starts_in s
  pub cells : r.cells ≡ s.cells

-- A text that tells the report of a script's run and no other. Played one by one in the order that it tells, from the cells of
-- the listing, the jobs of the listing leave the cells that it tells.
pub record Told (s : Script) (text : List ℕ) : Type 0 where
  pub report : Report
  pub of_run : Reports (final_state s) report
  pub printable : Printable report
  pub tells : text ≡ text_of report
  pub only : (other : Report) → Printable other → text ≡ text_of other → other ≡ report
  pub each_job : length report.starts ≡ length s.jobs
  pub each_cell : length report.cells ≡ s.count
  pub serial : OneByOne (intake_for s) report.order report.cells

-- The line of a fault tells no report at all.
abbrev pub ToldOf : Result Script ListingFault → List ℕ → Type 0
ToldOf (Ok s) text = Told s text
ToldOf (Err f) text = (r : Report) → text ≡ text_of r → ⊥
