-- What is printed of a run and of a listing. Assumes nothing.
use Rattle.std.specs.Prelude.{ℕ, suc, Bool, false, ◌||◌, List, [], ◌∷◌, ◌++◌, map, Some, None, Ok, Err, Option, Result, String, string_bytes}
use Rattle.model.specs.Law.{same}
use Rattle.model.specs.Rules.{State}
use Rattle.model.specs.declared.Refusal.{Refusal}
use Rattle.model.specs.declared.Party.{Party}
use Rattle.model.specs.declared.Party.TheVariants as party
use Rattle.report.specs.Text.{line_text, fault_line_text}
use Rattle.report.specs.declared.Line.{Line}
use Rattle.report.specs.declared.Line.TheVariants.{Committed, Job, Cell}
use Rattle.script.specs.Scripts.{Script}
use Rattle.script.specs.Faults.{fault_line}
use Rattle.script.specs.declared.ListingFault.{ListingFault}
use Rattle.batch.specs.Runs.{final_state}

abbrev pub closed_line : Line → List ℕ
closed_line line = line_text line ++ 10 ∷ []

-- The lines of the members of a list, which are numbered from a number on.
abbrev pub numbered : {X : Type 0} → (ℕ → Option X → List ℕ) → ℕ → List X → List ℕ
numbered line n [] = []
numbered line n (x ∷ xs) = line n (Some x) ++ numbered line (suc n) xs

-- D lines: the jobs of the commit order, with their places, from 1. A script has no corrections.
abbrev pub place_text : ℕ → Party → List ℕ
place_text place (party.Job j) = closed_line (Committed place j)
place_text place (party.Correction k) = []

abbrev pub entry_text : ℕ → Option Party → List ℕ
entry_text place None = []
entry_text place (Some p) = place_text place p

abbrev pub order_text : ℕ → List Party → List ℕ
order_text place order = numbered entry_text place order

-- N lines: the jobs, from 1, with their starts.
abbrev pub is_job : ℕ → Option Party → Bool
is_job j None = false
is_job j (Some p) = same (party.Job j) p

abbrev pub has_committed : List Party → ℕ → Bool
has_committed [] j = false
has_committed (p ∷ order) j = is_job j (Some p) || has_committed order j

abbrev pub job_text : List Party → ℕ → Option ℕ → List ℕ
job_text order j None = []
job_text order j (Some starts) = closed_line (Job j starts (has_committed order j))

abbrev pub jobs_text : List Party → ℕ → List ℕ → List ℕ
jobs_text order j starts = numbered (job_text order) j starts

-- C lines: the cells, from 0.
abbrev pub cell_text : ℕ → Option ℕ → List ℕ
cell_text cell None = []
cell_text cell (Some n) = closed_line (Cell cell n)

abbrev pub answer_text : ℕ → Result ℕ Refusal → List ℕ
answer_text cell (Ok n) = cell_text cell (Some n)
answer_text cell (Err refusal) = []

abbrev pub cells_text : ℕ → List ℕ → List ℕ
cells_text cell cells = numbered cell_text cell cells

abbrev pub report_lines : List Party → List ℕ → List ℕ → List ℕ
report_lines order starts cells = order_text 1 order ++ (jobs_text order 1 starts ++ cells_text 0 cells)

-- How often each job started.
abbrev pub starts_in : State → List ℕ
starts_in s = map (λ b. b.starts) s.jobs

abbrev pub report_text : State → List ℕ
report_text s = report_lines s.order (starts_in s) s.cells

-- What is printed of a listing that comes to a script or to a fault.
abbrev pub output_text : Result Script ListingFault → List ℕ
output_text (Ok s) = report_text (final_state s)
output_text (Err f) = fault_line_text (fault_line f) ++ 10 ∷ []

-- The text of a report or of a fault's line.
abbrev pub printed : {A : Type 0} → Result (String A) (String A) → List ℕ
printed (Ok report) = string_bytes report
printed (Err line) = string_bytes line
