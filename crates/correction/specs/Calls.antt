-- What a call with a slip does to its correction, as the model's call has it. Assumes nothing.
use Rattle.std.specs.Prelude.{◌≡◌, ℕ, true, List, Some, None, Ok, Err, Option, Result}
use Rattle.model.specs.Calls.{Outcome, refuse, with_corrections, if_open, read_by, write_by, file_by, filed, withdraw_by}
use Rattle.model.specs.Logs.{at, put_at}
use Rattle.model.specs.Rules.{CorrectionState, State}
use Rattle.model.specs.declared.Refusal.{Refusal}

-- A call on correction k, if that is open.
abbrev pub CallOn : Type 0 → Type 0
CallOn A = State → ℕ → Option CorrectionState → Outcome (Result A Refusal)

abbrev pub reading : ℕ → CallOn ℕ
reading cell s k f = read_by s k cell f

abbrev pub writing : ℕ → ℕ → CallOn (Unit {0})
writing cell number s k f = write_by s k cell number f

abbrev pub withdrawing : CallOn (Unit {0})
withdrawing s k f = withdraw_by s k f

-- In a run where correction k is f, the call makes it f' and answers so, whatever k and the rest of the run.
abbrev pub Comes : {A : Type 0} → CallOn A → List ℕ → CorrectionState → CorrectionState → Result A Refusal → Type 0
Comes call cells f f' answer =
    (s : State) (k : ℕ) → s.cells ≡ cells → at s.corrections k ≡ Some f →
    ((call s k (if_open (Some f))).next ≡ with_corrections s (put_at s.corrections k f')) × ((call s k (if_open (Some f))).answer ≡ answer)

-- In a run where correction k is f, filing is accepted or refused so.
abbrev pub Checked : List ℕ → Option ℕ → CorrectionState → Result (Unit {0}) Refusal → Type 0
Checked cells right f (Ok accepted) =
    (f.is_open ≡ true) × (right ≡ None) × ((s : State) (k : ℕ) → s.cells ≡ cells → s.right ≡ right → file_by s k (if_open (Some f)) ≡ filed s k f)
Checked cells right f (Err refusal) = (s : State) (k : ℕ) → s.cells ≡ cells → s.right ≡ right → file_by s k (if_open (Some f)) ≡ refuse s refusal

-- A correction so is refused the cell: neither reading nor writing it is allowed.
abbrev pub Barred : List ℕ → CorrectionState → ℕ → Refusal → Type 0
Barred cells f cell refusal =
    (s : State) (k : ℕ) → s.cells ≡ cells →
    (read_by s k cell (if_open (Some f)) ≡ refuse s refusal) × ((number : ℕ) → write_by s k cell number (if_open (Some f)) ≡ refuse s refusal)
