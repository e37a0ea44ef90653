use Rattle.std.proofs.Common.{◌≡◌, ℕ, suc, List, Ok, Err, sym, ap, ◌∙◌, subst}
use Rattle.std.proofs.lemmas.Result.{err_from_is_err_and}
use Rattle.script.specs.Faults.{admit_before, read_fields}
use Rattle.listing_reader.specs.Drafts.{progress_of}
use Rattle.listing_reader.specs.Ends.{lines_from}
use Rattle.listing_reader.specs.Heads.{NextFaulty, NextLine}
use Rattle.listing_reader.specs.Parts.{kind_in, Placed}
use Rattle.listing_reader.specs.declared.place.Place.{Place}
use Rattle.listing_reader.proofs.Lining.{follows, not_admitted, faulty-line, misread-line, taken-line}
use Rattle.listing_reader.proofs.draft.Draft.take_line.Goals as goal

pub returns-in_err-admit_before-clause-taken : goal.returns-in_err-admit_before-clause-taken
returns-in_err-admit_before-clause-taken c =
    let bytes = c.args.reader.now.bytes.now in
    let p = c.args.reader.now.place in
    let d = progress_of c.args.self.now in
    let step = follows bytes p.at c.peek_letter.result c.is_step-step_follows.result c.requires.more c.peek_letter.ensures.letter c.is_step-step_follows.ensures in
    let e = err_from_is_err_and c.from_residual.result c.from_residual.ensures.1 in
    rw (e.1, e.2) (not_admitted (lines_from bytes p) d p.line c.in_err-admit_before.field-0.0 (ap (admit_before d) (sym step) ∙ c.in_err-admit_before.ensures.read))

pub returns-in_err-content-clause-taken : goal.returns-in_err-content-clause-taken
returns-in_err-content-clause-taken c =
    let bytes = c.args.reader.now.bytes.now in
    let p = c.args.reader.now.place in
    let d = c.args.self.now in
    let m = c.admit_before.new.self in
    let f = c.in_err-content.field-0.0 in
    let step = follows bytes p.at c.peek_letter.result c.is_step-step_follows.result c.requires.more c.peek_letter.ensures.letter c.is_step-step_follows.ensures in
    let admitted = ap (admit_before (progress_of d)) (sym step) ∙ c.in_ok-admit_before.ensures.read in
    let fault : NextFaulty bytes p m.section f =
    subst (λ (x : Place). NextFaulty bytes x m.section f) c.peek_letter.ensures.place (subst (λ (bs : List ℕ). NextFaulty bs c.peek_letter.new.self.place m.section f) c.peek_letter.ensures.bytes c.in_err-content.ensures.read) in
    let e = err_from_is_err_and c.from_residual-in_err-content.result c.from_residual-in_err-content.ensures.1 in
    rw (e.1, e.2) (faulty-line bytes p c.next_line.new.self.place d m admitted f fault)

pub returns-in_err-entry-clause-taken : goal.returns-in_err-entry-clause-taken
returns-in_err-entry-clause-taken c =
    let bytes = c.args.reader.now.bytes.now in
    let p = c.args.reader.now.place in
    let q = c.next_line.new.self.place in
    let d = c.args.self.now in
    let m = c.admit_before.new.self in
    let content = c.in_ok-content.content in
    let step = follows bytes p.at c.peek_letter.result c.is_step-step_follows.result c.requires.more c.peek_letter.ensures.letter c.is_step-step_follows.ensures in
    let admitted = ap (admit_before (progress_of d)) (sym step) ∙ c.in_ok-admit_before.ensures.read in
    let line : m.line ≡ p.line = c.admit_before.ensures.line ∙ sym c.requires.line in
    let next : NextLine bytes p q m.section content =
    subst (λ (x : Place). NextLine bytes x q m.section content) c.peek_letter.ensures.place (subst (λ (bs : List ℕ). NextLine bs c.peek_letter.new.self.place q m.section content) c.peek_letter.ensures.bytes c.in_ok-content.ensures.read) in
    let f = c.in_err-entry.field-0.0 in
    let reads : (fields : List ℕ) → Placed fields content → read_fields (progress_of m) p.line (kind_in content) fields ≡ Err f =
    subst (λ (n : ℕ). (fields : List ℕ) → Placed fields content → read_fields (progress_of m) n (kind_in content) fields ≡ Err f) line c.in_err-entry.ensures in
    let e = err_from_is_err_and c.from_residual-in_err-entry.result c.from_residual-in_err-entry.ensures.1 in
    rw (e.1, e.2) (misread-line bytes p q d m admitted content f next reads)

pub returns-clause-taken : goal.returns-clause-taken
returns-clause-taken c =
    let bytes = c.args.reader.now.bytes.now in
    let p = c.args.reader.now.place in
    let q = c.next_line.new.self.place in
    let d = c.args.self.now in
    let m = c.admit_before.new.self in
    let content = c.in_ok-content.content in
    let step = follows bytes p.at c.peek_letter.result c.is_step-step_follows.result c.requires.more c.peek_letter.ensures.letter c.is_step-step_follows.ensures in
    let admitted = ap (admit_before (progress_of d)) (sym step) ∙ c.in_ok-admit_before.ensures.read in
    let line : m.line ≡ p.line = c.admit_before.ensures.line ∙ sym c.requires.line in
    let next : NextLine bytes p q m.section content =
    subst (λ (x : Place). NextLine bytes x q m.section content) c.peek_letter.ensures.place (subst (λ (bs : List ℕ). NextLine bs c.peek_letter.new.self.place q m.section content) c.peek_letter.ensures.bytes c.in_ok-content.ensures.read) in
    let e = c.add.new.self in
    let reads : (fields : List ℕ) → Placed fields content → read_fields (progress_of m) p.line (kind_in content) fields ≡ Ok (progress_of e) =
    subst (λ (n : ℕ). (fields : List ℕ) → Placed fields content → read_fields (progress_of m) n (kind_in content) fields ≡ Ok (progress_of e)) line
    (λ fields placed. c.in_ok-entry.ensures fields placed ∙ ap Ok (sym c.add.ensures.read)) in
    taken-line bytes p q d m admitted e content next reads (c.add.ensures.next ∙ ap suc line)
