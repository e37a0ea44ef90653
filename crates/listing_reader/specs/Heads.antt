-- What a line's letter and length tell of it, before its fields are read. Assumes nothing.
use Rattle.std.specs.Prelude.{◌≡◌, ℕ, suc, ◌+◌, ◌*◌, ◌≤◌, List, ◌∷◌, length, drop, Ok, Err, Result}
use Rattle.script.specs.Lines.{fields_of}
use Rattle.script.specs.Faults.{RawLine, Closed, Progress, read_line, read_fields}
use Rattle.script.specs.declared.ListingFault.{ListingFault}
use Rattle.script.specs.declared.Section.{Section}
use Rattle.listing_reader.specs.Ends.{lines_from}
use Rattle.listing_reader.specs.Parts.{kind_in, Placed}
use Rattle.listing_reader.specs.declared.line.Line.{Line}
use Rattle.listing_reader.specs.declared.place.Place.{Place}

-- In that section a line comes to a fault, whatever else was read; or its fields, which stand in the bytes after its letter, remain to be read.
abbrev pub Faulty : RawLine → Section → ℕ → ListingFault → Type 0
Faulty raw section number f = (p : Progress) → p.section ≡ section → read_line p number raw ≡ Err f

pub record Fielded (raw : RawLine) (section : Section) (number : ℕ) (line : Line) : Type 0 where
  pub fields : List ℕ
  pub reads : (p : Progress) → p.section ≡ section → read_line p number raw ≡ read_fields p number (kind_in line) fields
  pub placed : Placed fields line

abbrev pub Headed : List ℕ → Section → ℕ → Result Line ListingFault → Type 0
Headed bytes section number (Ok line) = Fielded (Closed bytes) section number line × (length bytes ≡ suc (11 * fields_of (kind_in line))) × Placed (drop 1 bytes) line
Headed bytes section number (Err f) = Faulty (Closed bytes) section number f

-- The same of the next line of a listing, from place p to place q. Its fields are the parts of the listing after its letter, each
-- of 11 columns.
pub record NextFaulty (bytes : List ℕ) (p : Place) (section : Section) (f : ListingFault) : Type 0 where
  pub raw : RawLine
  pub rest : List RawLine
  pub first : lines_from bytes p ≡ raw ∷ rest
  pub faulty : Faulty raw section p.line f

pub record NextLine (bytes : List ℕ) (p q : Place) (section : Section) (line : Line) : Type 0 where
  pub raw : RawLine
  pub first : lines_from bytes p ≡ raw ∷ lines_from bytes q
  pub fielded : Fielded raw section p.line line
  pub next : q.line ≡ suc p.line
  pub onward : p.at + 2 ≤ q.at
  pub within : q.at ≤ length bytes
  pub placed : Placed (drop (suc p.at) bytes) line

abbrev pub LineRead : List ℕ → Place → Place → Section → Result Line ListingFault → Type 0
LineRead bytes p q section (Ok line) = NextLine bytes p q section line
LineRead bytes p q section (Err f) = NextFaulty bytes p section f
