use Rattle.std.proofs.Common.{◌≡◌, ◌∷◌, true, Some, sym, ap, ◌∙◌, rules}
use Rattle.script.specs.Lines.{kind_of, group_of}
use Rattle.script.specs.Faults.{in_order}
use Rattle.listing_reader.proofs.Heading.{head_told, headed}
use Rattle.listing_reader.proofs.heads.line_from.Goals as goal

pub returns-in-Ok : goal.returns-in-Ok
returns-in-Ok c =
    let h = c.in-Ok.head in
    let letter = c.in_ok-letter.field-0-0.now in
    let kind : kind_of letter ≡ Some h.kind = ap kind_of (sym c.from.ensures) ∙ (head_told c.from.result h c.in-Ok.ensures).0 in
    let ordered : in_order c.args.section (group_of h.kind) ≡ true = ap (in_order c.args.section) (sym c.group.ensures) ∙ (sym c.admits.ensures ∙ c.if-admits.true) in
    let split : c.args.bytes.now ≡ letter ∷ c.in_ok-letter.fields.now = search rules in
    rw (split, c.ok_or-in-Ok.ensures.value, c.of_line-shape.ensures) (headed c.args.section c.args.number letter c.in_ok-letter.fields.now h.kind kind ordered c.line_of.result c.line_of.ensures)
