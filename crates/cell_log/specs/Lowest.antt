-- That no lower cell would do. Assumes nothing.
use Rattle.std.specs.Prelude.{◌≡◌, ℕ, ◌<◌, Bool, false, Some, None, Option}
use Rattle.model.specs.Law.{Member}
use Rattle.model.specs.Logs.{Log}
use Rattle.model.specs.declared.Entry.{Entry}

-- No entry of a lower cell than this passes the test; and none at all where there is no such cell.
abbrev pub NoneBelow : (Entry → Bool) → Log → Option ℕ → Type 0
NoneBelow test log None = (e : Entry) → Member e log → test e ≡ false
NoneBelow test log (Some cell) = (e : Entry) → Member e log → e.cell < cell → test e ≡ false
