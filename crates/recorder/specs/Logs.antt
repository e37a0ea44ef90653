-- Logs of sets. Assumes nothing.
use Rattle.std.specs.Prelude.{◌≡◌, ◌+◌, ◌-◌, ◌^◌, min, Bool, true, false, [], ◌∷◌, ◌++◌, length, nat_lt}
use Rattle.store.specs.declared.change.Change.{Change}
use Rattle.recorder.specs.declared.log.Log.{Log}

-- One set more stands last in the log; one that finds no room is counted, as far as 64 bits go.
abbrev pub logs_if : Bool → Log → Change → Log → Type 0
logs_if true log change log' = (log'.sets.items ≡ log.sets.items ++ change ∷ []) × (log'.missed ≡ log.missed)
logs_if false log change log' = (log'.sets.items ≡ log.sets.items) × (log'.missed ≡ min (log.missed + 1) (2 ^ 64 - 1))

abbrev pub Logs : Log → Change → Log → Type 0
Logs log change log' = logs_if (nat_lt (length log.sets.items) 80) log change log'
