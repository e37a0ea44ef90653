-- What taking in a line comes to. Assumes nothing.
use Rattle.std.specs.Prelude.{◌≡◌, ℕ, suc, ◌+◌, ◌≤◌, List, length, Ok, Err, Result}
use Rattle.script.specs.Faults.{read_lines}
use Rattle.script.specs.declared.ListingFault.{ListingFault}
use Rattle.listing_reader.specs.Drafts.{progress_of}
use Rattle.listing_reader.specs.Ends.{lines_from}
use Rattle.listing_reader.specs.declared.draft.Draft.{Draft}
use Rattle.listing_reader.specs.declared.place.Place.{Place}

-- From place p and draft d to place q and draft e: what remains to be read comes to the same, at least two bytes later.
pub record Onward (bytes : List ℕ) (p q : Place) (d e : Draft) : Type 0 where
  pub same : read_lines (progress_of d) p.line (lines_from bytes p) ≡ read_lines (progress_of e) q.line (lines_from bytes q)
  pub next : q.line ≡ suc p.line
  pub onward : p.at + 2 ≤ q.at
  pub within : q.at ≤ length bytes
  pub line : q.line ≡ e.line

-- Or the fault of the line is that of the listing.
abbrev pub LineTaken : List ℕ → Place → Place → Draft → Draft → Result (Unit {0}) ListingFault → Type 0
LineTaken bytes p q d e (Ok done) = Onward bytes p q d e
LineTaken bytes p q d e (Err f) = read_lines (progress_of d) p.line (lines_from bytes p) ≡ Err f
