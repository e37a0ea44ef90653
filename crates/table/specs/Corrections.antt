-- What calls with a slip do to a run's table, as the model's calls have it. Assumes nothing.
use Rattle.std.specs.Prelude.{◌≡◌, ℕ, suc, ◌<◌, List, length, None, Ok, Err, Result}
use Rattle.correction.specs.Calls.{CallOn}
use Rattle.model.specs.Calls.{SlipNumbers, held, if_open}
use Rattle.model.specs.Logs.{at}
use Rattle.model.specs.declared.Refusal.{Refusal}
use Rattle.model.specs.declared.Refusal.TheVariants.{NotOpen}
use Rattle.table.specs.States.{state_of}
use Rattle.table.specs.declared.table.Table.{Table}

-- The place of the correction that a slip's numbers stand for, if it is one of this run's.
abbrev pub Finds : Table → SlipNumbers → Result ℕ Refusal → Type 0
Finds t slip (Ok i) =
    (i < length t.corrections.items) × (slip.correction ≡ suc i) × ((C : List ℕ) → held (state_of C t) slip ≡ if_open (at (state_of C t).corrections (suc i)))
Finds t slip (Err refusal) = (refusal ≡ NotOpen) × ((C : List ℕ) → held (state_of C t) slip ≡ None)

-- The call with a slip's numbers, in the run that the table stands for over the cells.
abbrev pub Corrects : {A : Type 0} → CallOn A → List ℕ → List ℕ → Table → Table → SlipNumbers → Result A Refusal → Type 0
Corrects call cells cells' t t' slip r =
    (state_of cells' t' ≡ (call (state_of cells t) slip.correction (held (state_of cells t) slip)).next)
    × (r ≡ (call (state_of cells t) slip.correction (held (state_of cells t) slip)).answer)
