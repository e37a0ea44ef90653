-- Scripts, their text, and their bounds. Assumes nothing.
use Rattle.std.specs.Prelude.{◌≡◌, ℕ, suc, ◌^◌, ◌<◌, ◌≤◌, List, [], ◌∷◌, ◌++◌, map, length, None}
use Rattle.std.specs.List.{flat_map}
use Rattle.model.specs.Intake.{admission_fault}
use Rattle.model.specs.declared.Step.{Step}
use Rattle.model.specs.declared.Step.TheVariants as step
use Rattle.script.specs.Lines.{Item, item, closed}
use Rattle.script.specs.declared.Kind.TheVariants.{Size, Cell, Job, Read, Write, Load, Add, Subtract, JumpIfLess, Wait, End, Turns}
use Rattle.script.specs.declared.Preset.{Preset}
use Rattle.script.specs.declared.Allotment.{Allotment}

-- What a listing says: how many cells the store has, what some hold at first, the jobs, and who has how many turns.
pub record Script : Type 0 where
  pub count : ℕ
  pub presets : List Preset
  pub jobs : List (List Step)
  pub turns : List Allotment

-- The lines of a script.
abbrev pub preset_item : Preset → Item
preset_item p = item Cell (p.cell ∷ p.number ∷ [])

abbrev pub step_item : Step → Item
step_item (step.Read r cell) = item Read (r ∷ cell ∷ [])
step_item (step.Write cell r) = item Write (cell ∷ r ∷ [])
step_item (step.Load r number) = item Load (r ∷ number ∷ [])
step_item (step.Add r q) = item Add (r ∷ q ∷ [])
step_item (step.Subtract r q) = item Subtract (r ∷ q ∷ [])
step_item (step.JumpIfLess r q target) = item JumpIfLess (r ∷ q ∷ target ∷ [])
step_item step.Wait = item Wait []
step_item step.End = item End []

abbrev pub job_items : ℕ → List Step → List Item
job_items j steps = item Job (j ∷ []) ∷ map step_item steps

-- Jobs are numbered in their order.
abbrev pub jobs_items : ℕ → List (List Step) → List Item
jobs_items j [] = []
jobs_items j (steps ∷ jobs) = job_items j steps ++ jobs_items (suc j) jobs

abbrev pub turns_item : Allotment → Item
turns_item a = item Turns (a.job ∷ a.turns ∷ [])

abbrev pub items_of : Script → List Item
items_of s = item Size (s.count ∷ []) ∷ (map preset_item s.presets ++ (jobs_items 1 s.jobs ++ map turns_item s.turns))

-- The text of a script.
abbrev pub render : Script → List ℕ
render s = flat_map closed (items_of s)

abbrev pub All : {A : Type 0} → (A → Type 0) → List A → Type 0
All P [] = Unit {0}
All P (x ∷ xs) = P x × All P xs

-- Each job is admitted after those before it.
abbrev pub Admitted : ℕ → ℕ → List (List Step) → Type 0
Admitted count before [] = Unit {0}
Admitted count before (steps ∷ jobs) = (admission_fault before count steps ≡ None) × Admitted count (suc before) jobs

-- Numbers of 32 bits.
abbrev pub Words : List ℕ → Type 0
Words ns = All (λ n. n < 2 ^ 32) ns

abbrev pub Fits : Item → Type 0
Fits i = Words i.numbers

-- A script that a listing can have.
pub record Within (s : Script) : Type 0 where
  pub some_cell : 1 ≤ s.count
  pub few_cells : s.count ≤ 4096
  pub presets : All (λ p. p.cell < s.count) s.presets
  pub jobs : Admitted s.count 0 s.jobs
  pub turns : All (λ a. (1 ≤ a.job) × (a.job ≤ length s.jobs) × (1 ≤ a.turns) × (a.turns ≤ 10000)) s.turns
  pub numbers : All Fits (items_of s)
  pub short : length (render s) ≤ 65536
