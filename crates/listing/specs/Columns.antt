-- A field column by column, as it is read, and the number in it. Assumes nothing.
use Rattle.std.specs.Prelude.{ℕ, ◌+◌, ◌*◌, ◌%◌, ◌^◌, Bool, true, false, cond, ◌&&◌, List, [], ◌∷◌, Some, None, Option, ◌==◌}
use Rattle.report.specs.Text.{field}

-- The column left of a number's last digits, where this is the rest of the number.
abbrev pub left_of : ℕ → ℕ
left_of rest = cond (rest == 0) 32 (48 + rest % 10)

-- One column more: a digit, byte 48 to 57, is its last four bits, and a blank counts as 0.
abbrev pub shifted : ℕ → ℕ → ℕ
shifted value byte = (value * 10 % 2 ^ 32 + byte % 16) % 2 ^ 32

abbrev pub value_from : ℕ → List ℕ → ℕ
value_from value [] = value
value_from value (byte ∷ bytes) = value_from (shifted value byte) bytes

abbrev pub same_bytes : List ℕ → List ℕ → Bool
same_bytes [] [] = true
same_bytes [] (y ∷ ys) = false
same_bytes (x ∷ xs) [] = false
same_bytes (x ∷ xs) (y ∷ ys) = x == y && same_bytes xs ys

-- The number in a field: what its columns come to, if the field is what that number is written as.
abbrev pub number_if : ℕ → Bool → Option ℕ
number_if n true = Some n
number_if n false = None

abbrev pub number_of : List ℕ → Option ℕ
number_of bytes = number_if (value_from 0 bytes) (same_bytes bytes (field (value_from 0 bytes)))
