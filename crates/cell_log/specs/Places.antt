-- What a place tells of a log: what is found, put and removed there. Assumes nothing.
use Rattle.std.specs.Prelude.{◌≡◌, ℕ, ◌<◌, ◌≤◌, length, Some, None, Ok, Err, Option, Result, slice_index_or, slice_set}
use Rattle.std.specs.List.{insert, remove as removed}
use Rattle.model.specs.Logs.{Log, entry, find, put, remove}

-- What a log has for a cell, what it becomes with a number put for that cell, and what without its entry.
pub record Has (log : Log) (cell : ℕ) (number : Option ℕ) (changed : ℕ → Log) (rest : Log) : Type 0 where
  pub found : find log cell ≡ number
  pub puts : (n : ℕ) → put log cell n ≡ changed n
  pub removes : remove log cell ≡ rest

-- The entry of the cell stands at i (Ok), or there is none and it would go to i (Err).
abbrev pub Placed : Log → ℕ → Result ℕ ℕ → Type 0
Placed log cell (Ok i) =
    (i < length log) × Has log cell (Some (slice_index_or log i (entry 0 0)).number) (λ n. slice_set log i (entry cell n)) (removed log i)
Placed log cell (Err i) = (i ≤ length log) × Has log cell None (λ n. insert log i (entry cell n)) log
