-- What led to a run's state. Assumes nothing.
use Rattle.std.specs.Prelude.{◌≡◌, ℕ, List}
use Rattle.model.specs.Calls.{Call, after}
use Rattle.model.specs.Intake.{Intake, sealed}
use Rattle.model.specs.Law.{Admissible, Lawful, left_by}
use Rattle.model.specs.Rules.{State}

-- An intake that was sealed, and the calls since, that made the state.
pub record Reached (s : State) : Type 0 where
  pub intake : Intake
  pub admissible : Admissible intake
  pub calls : List Call
  pub is : s ≡ after (sealed intake) calls

-- The same, with the law of that run: after these calls, and after any others.
pub record Lawfully (s : State) : Type 0 where
  pub reached : Reached s
  pub law : Lawful (sealed reached.intake)

-- The cells are what the commit order of such a run leaves, once it is settled, played one entry at a time.
pub record LeftBy (s : State) (cells : List ℕ) : Type 0 where
  pub reached : Reached s
  pub left : cells ≡ left_by (sealed reached.intake) reached.calls
