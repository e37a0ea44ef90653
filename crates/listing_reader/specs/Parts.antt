-- The fields of a line as parts of it. Assumes nothing.
use Rattle.std.specs.Prelude.{◌≡◌, ℕ, ◌*◌, List, length, Some, None, Option}
use Rattle.script.specs.Lines.{fields_of}
use Rattle.script.specs.Faults.{field_at}
use Rattle.script.specs.declared.Kind.{Kind}
use Rattle.script.specs.declared.Kind.TheVariants as kind
use Rattle.listing_reader.specs.declared.line.Line.{Line}
use Rattle.listing_reader.specs.declared.line.Line.TheVariants.{Size, Cell, Job, Read, Write, Load, Add, Subtract, JumpIfLess, Wait, End, Turns}

abbrev pub kind_in : Line → Kind
kind_in (Size f) = kind.Size
kind_in (Cell f g) = kind.Cell
kind_in (Job f) = kind.Job
kind_in (Read f g) = kind.Read
kind_in (Write f g) = kind.Write
kind_in (Load f g) = kind.Load
kind_in (Add f g) = kind.Add
kind_in (Subtract f g) = kind.Subtract
kind_in (JumpIfLess f g h) = kind.JumpIfLess
kind_in Wait = kind.Wait
kind_in End = kind.End
kind_in (Turns f g) = kind.Turns

-- Where the fields of a line stand in the bytes after its letter.
abbrev pub Placed : List ℕ → Line → Type 0
Placed bytes (Size f) = f.now ≡ field_at 0 bytes
Placed bytes (Cell f g) = (f.now ≡ field_at 0 bytes) × (g.now ≡ field_at 1 bytes)
Placed bytes (Job f) = f.now ≡ field_at 0 bytes
Placed bytes (Read f g) = (f.now ≡ field_at 0 bytes) × (g.now ≡ field_at 1 bytes)
Placed bytes (Write f g) = (f.now ≡ field_at 0 bytes) × (g.now ≡ field_at 1 bytes)
Placed bytes (Load f g) = (f.now ≡ field_at 0 bytes) × (g.now ≡ field_at 1 bytes)
Placed bytes (Add f g) = (f.now ≡ field_at 0 bytes) × (g.now ≡ field_at 1 bytes)
Placed bytes (Subtract f g) = (f.now ≡ field_at 0 bytes) × (g.now ≡ field_at 1 bytes)
Placed bytes (JumpIfLess f g h) = (f.now ≡ field_at 0 bytes) × (g.now ≡ field_at 1 bytes) × (h.now ≡ field_at 2 bytes)
Placed bytes Wait = Unit {0}
Placed bytes End = Unit {0}
Placed bytes (Turns f g) = (f.now ≡ field_at 0 bytes) × (g.now ≡ field_at 1 bytes)

-- A line of that kind, if the bytes are as many as its fields take.
abbrev pub Found : Kind → List ℕ → Option Line → Type 0
Found k bytes None = length bytes ≡ 11 * fields_of k → ⊥
Found k bytes (Some line) = (length bytes ≡ 11 * fields_of k) × (kind_in line ≡ k) × Placed bytes line
