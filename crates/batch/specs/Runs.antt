-- The run of a script. Assumes nothing.
use Rattle.std.specs.Prelude.{ℕ, List, [], ◌∷◌, ◌++◌, map, replicate}
use Rattle.model.specs.Calls.{Call, Turn, Settle, after, events_of}
use Rattle.model.specs.Intake.{Intake, admit, sealed}
use Rattle.model.specs.Rules.{State}
use Rattle.model.specs.declared.Step.{Step}
use Rattle.run.specs.declared.intake.Intake as code
use Rattle.script.specs.Scripts.{Script}
use Rattle.script.specs.declared.Allotment.{Allotment}
use Rattle.script.specs.declared.Preset.{Preset}
use Rattle.store.specs.Changes.{replay}
use Rattle.store.specs.declared.change.Change.{Change}
use Rattle.table.specs.Intakes.{intake_of}
use Rattle.table.specs.Settings.{changes_in}

-- The turns, in the order of their lines.
abbrev pub turns_of : List Allotment → List Call
turns_of [] = []
turns_of (a ∷ turns) = replicate a.turns (Turn a.job) ++ turns_of turns

-- The calls of a script's run: its turns, and then settling.
abbrev pub script_calls : Script → List Call
script_calls s = turns_of s.turns ++ Settle ∷ []

-- Presets as changes to a store; where a cell has several, the last counts.
abbrev pub preset_changes : List Preset → List Change
preset_changes presets = map (λ p. record { cell = p.cell; number = p.number }) presets

-- The intake of a script over a store with these cells, the run after all calls, and what is set on the store until then:
-- the presets, and then each cell that the run sets.
abbrev pub intake_over : ℕ → List ℕ → Script → Intake
intake_over number cells s = record { number = number; cells = replay cells (preset_changes s.presets); programs = s.jobs }

abbrev pub run_over : ℕ → List ℕ → Script → State
run_over number cells s = after (sealed (intake_over number cells s)) (script_calls s)

abbrev pub changes_over : ℕ → List ℕ → Script → List Change
changes_over number cells s = preset_changes s.presets ++ changes_in (events_of (sealed (intake_over number cells s)) (script_calls s))

-- A listing is run over cells that hold 0, as run 1.
abbrev pub zeros : Script → List ℕ
zeros s = replicate s.count 0

abbrev pub intake_for : Script → Intake
intake_for s = intake_over 1 (zeros s) s

abbrev pub final_state : Script → State
final_state s = run_over 1 (zeros s) s

-- The jobs are admitted one after the other.
abbrev pub admit_all : Intake → List (List Step) → Intake
admit_all i [] = i
admit_all i (steps ∷ jobs) = admit_all (admit i steps).0 jobs

-- What an intake means, over what its store means.
abbrev pub intake_in : {S : Type 0} → (S → List ℕ) → code.Intake S → Intake
intake_in cells i = intake_of (cells i.store) i.roster
