-- Where a line ends, and what remains. Assumes nothing.
use Rattle.std.specs.Prelude.{◌≡◌, ℕ, suc, ◌+◌, ◌≤◌, cond, List, [], ◌∷◌, length, take, drop, Some, None, Option, ◌==◌}
use Rattle.std.specs.Borrow.{Bor}
use Rattle.script.specs.Faults.{RawLine, Closed, Unclosed, lines_of}
use Rattle.listing_reader.specs.declared.place.Place.{Place}

abbrev pub further : Option ℕ → Option ℕ
further None = None
further (Some n) = Some (suc n)

-- How many bytes stand before the first byte 10.
abbrev pub end_of : List ℕ → Option ℕ
end_of [] = None
end_of (byte ∷ bytes) = cond (byte == 10) (Some 0) (further (end_of bytes))

-- The lines from a place on.
abbrev pub lines_from : List ℕ → Place → List RawLine
lines_from bytes place = lines_of (drop place.at bytes)

-- The next line, which is the part of the bytes from place p on, and the place after it; or no line is closed.
abbrev pub Split : List ℕ → Place → Place → Option (Bor (List ℕ)) → Type 0
Split bytes p q None = lines_from bytes p ≡ Unclosed (drop p.at bytes) ∷ []
Split bytes p q (Some line) =
    (lines_from bytes p ≡ Closed line.now ∷ lines_from bytes q) × (q.line ≡ suc p.line) × (q.at ≡ suc (p.at + length line.now)) × (q.at ≤ length bytes)
    × (line.now ≡ take (length line.now) (drop p.at bytes))
