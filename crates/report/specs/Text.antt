-- The bytes of the lines that a run prints. Assumes nothing.
use Rattle.std.specs.Prelude.{ℕ, ◌-◌, Bool, true, false, List, ◌++◌, length, replicate, codes, decimal}
use Rattle.report.specs.declared.FaultLine.{FaultLine}
use Rattle.report.specs.declared.Line.{Line}
use Rattle.report.specs.declared.Line.TheVariants.{Committed, Job, Cell}

-- The blanks before a number in a field.
abbrev pub blanks : ℕ → List ℕ
blanks n = replicate (11 - length (decimal n)) 32

-- A field: 11 columns with the number right-justified by blanks.
abbrev pub field : ℕ → List ℕ
field n = blanks n ++ decimal n

abbrev pub one_if : Bool → ℕ
one_if true = 1
one_if false = 0

-- A line: a letter and its fields.
abbrev pub line_text : Line → List ℕ
line_text (Committed place job) = codes "D" ++ (field place ++ field job)
line_text (Job job starts committed) = codes "N" ++ (field job ++ (field starts ++ field (one_if committed)))
line_text (Cell cell number) = codes "C" ++ (field cell ++ field number)

-- The line of a fault, likewise.
abbrev pub fault_line_text : FaultLine → List ℕ
fault_line_text fault = codes "!" ++ (field fault.number ++ (field fault.line ++ field fault.column))
