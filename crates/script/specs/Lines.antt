-- Lines: letters, fields, and their text. Assumes nothing.
use Rattle.std.specs.Prelude.{ℕ, cond, List, [], ◌∷◌, ◌++◌, Some, None, Option, ◌==◌}
use Rattle.std.specs.List.{flat_map}
use Rattle.std.specs.Option.{option_map}
use Rattle.report.specs.Text.{field}
use Rattle.script.specs.declared.Kind.{Kind}
use Rattle.script.specs.declared.Kind.TheVariants.{Size, Cell, Job, Read, Write, Load, Add, Subtract, JumpIfLess, Wait, End, Turns}
use Rattle.script.specs.declared.Head.{Head}
use Rattle.script.specs.declared.Group.{Group}
use Rattle.script.specs.declared.Group.TheVariants.{OfSize, OfCell, OfJob, OfStep, OfTurns}

-- The letters, as bytes: M, C, J, R, W, K, A, S, L, T, E, G.
abbrev pub letter_of : Kind → ℕ
letter_of Size = 77
letter_of Cell = 67
letter_of Job = 74
letter_of Read = 82
letter_of Write = 87
letter_of Load = 75
letter_of Add = 65
letter_of Subtract = 83
letter_of JumpIfLess = 76
letter_of Wait = 84
letter_of End = 69
letter_of Turns = 71

abbrev pub kind_of : ℕ → Option Kind
kind_of byte =
    cond (byte == 77) (Some Size)
    (cond (byte == 67) (Some Cell)
    (cond (byte == 74) (Some Job)
    (cond (byte == 82) (Some Read)
    (cond (byte == 87) (Some Write)
    (cond (byte == 75) (Some Load)
    (cond (byte == 65) (Some Add)
    (cond (byte == 83) (Some Subtract)
    (cond (byte == 76) (Some JumpIfLess)
    (cond (byte == 84) (Some Wait)
    (cond (byte == 69) (Some End)
    (cond (byte == 71) (Some Turns)
    None)))))))))))

abbrev pub fields_of : Kind → ℕ
fields_of Size = 1
fields_of Cell = 2
fields_of Job = 1
fields_of Read = 2
fields_of Write = 2
fields_of Load = 2
fields_of Add = 2
fields_of Subtract = 2
fields_of JumpIfLess = 3
fields_of Wait = 0
fields_of End = 0
fields_of Turns = 2

-- What a letter says of its line: the kind, and how many fields it has.
abbrev pub head : Kind → Head
head kind = record { kind = kind; fields = fields_of kind }

abbrev pub head_of : ℕ → Option Head
head_of letter = option_map head (kind_of letter)

abbrev pub group_of : Kind → Group
group_of Size = OfSize
group_of Cell = OfCell
group_of Job = OfJob
group_of Turns = OfTurns
group_of kind = OfStep

-- A line: its kind, and the numbers in its fields.
pub record Item : Type 0 where
  pub kind : Kind
  pub numbers : List ℕ

abbrev pub item : Kind → List ℕ → Item
item kind numbers = record { kind = kind; numbers = numbers }

-- Its text, without and with the closing byte.
abbrev pub item_text : Item → List ℕ
item_text i = letter_of i.kind ∷ flat_map field i.numbers

abbrev pub closed : Item → List ℕ
closed i = item_text i ++ 10 ∷ []
