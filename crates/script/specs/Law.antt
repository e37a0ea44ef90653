-- The law of listings. Assumes nothing.
use Rattle.std.specs.Prelude.{◌≡◌, ℕ, List, Ok, Result}
use Rattle.script.specs.Scripts.{Script, Within, render}
use Rattle.script.specs.Faults.{outcome}
use Rattle.script.specs.declared.ListingFault.{ListingFault}

-- A listing is accepted exactly if it is the text of a script within the bounds, and then that script is what was read.
pub record Exactly (bytes : List ℕ) (r : Result Script ListingFault) : Type 0 where
  pub accepts : (s : Script) → Within s → bytes ≡ render s → r ≡ Ok s
  pub accepted : (s : Script) → r ≡ Ok s → Within s × (bytes ≡ render s)

abbrev pub ListingLaw : Type 0
ListingLaw = (bytes : List ℕ) → Exactly bytes (outcome bytes)
