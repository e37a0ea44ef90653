-- What one set makes of a recorder. Assumes nothing.
use Rattle.std.specs.Prelude.{◌≡◌, ℕ, Bool, true, false, List, length, nat_lt}
use Rattle.recorder.specs.Logs.{Logs}
use Rattle.recorder.specs.declared.Recorder.{Recorder}

-- Over a store with these cells, of which one set makes what `sets` says.
module _ {S : Type 0} (cells : S → List ℕ) (sets : S → ℕ → ℕ → S → Type 0) where
  abbrev pub records_if : Bool → Recorder S → ℕ → ℕ → Recorder S → Type 0
  records_if true r cell number r' = sets r.inner cell number r'.inner × Logs r.log (record { cell = cell; number = number }) r'.log
  records_if false r cell number r' = r' ≡ r

  -- Where there is such a cell, it is set in the store within, and stands in the log; else the recorder is the same.
  abbrev pub Records : Recorder S → ℕ → ℕ → Recorder S → Type 0
  Records r cell number r' = records_if (nat_lt cell (length (cells r.inner))) r cell number r'
