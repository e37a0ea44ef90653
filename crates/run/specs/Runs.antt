-- What a run and an intake mean, over what their store means. Assumes nothing.
use Rattle.std.specs.Prelude.{ℕ, List}
use Rattle.model.specs.Intake.{sealed}
use Rattle.model.specs.Rules.{State}
use Rattle.table.specs.Intakes.{intake_of}
use Rattle.table.specs.States.{state_of}
use Rattle.run.specs.declared.intake.Intake.{Intake}
use Rattle.run.specs.declared.run.Run.{Run}

abbrev pub state : {S : Type 0} {g : _} → (S → List ℕ) → Run S g → State
state cells run = state_of (cells run.store) run.table

-- The run that sealing an intake begins.
abbrev pub begun : {S : Type 0} → (S → List ℕ) → Intake S → State
begun cells intake = sealed (intake_of (cells intake.store) intake.roster)
