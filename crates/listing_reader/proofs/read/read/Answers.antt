use Rattle.std.proofs.Common.{◌≡◌, ℕ, List, Ok, Err, refl, sym, ◌∙◌, subst}
use Rattle.std.proofs.lemmas.Result.{err_from_is_err_and}
use Rattle.script.specs.Faults.{read_lines}
use Rattle.listing_reader.specs.Drafts.{progress_of}
use Rattle.listing_reader.specs.Programs.{script_with}
use Rattle.listing_reader.specs.Ends.{lines_from}
use Rattle.listing_reader.proofs.Lining.{short-outcome, at-end, lawful}
use Rattle.listing_reader.proofs.read.read.Goals as goal

pub returns-in_err-take_line : goal.returns-in_err-take_line
returns-in_err-take_line c =
    let bytes = c.args.listing.now in
    let d = progress_of c.loop-reader.draft in
    let p = c.loop-reader.reader.place in
    let f = c.in_err-take_line.field-0.0 in
    let fault : read_lines d p.line (lines_from bytes p) ≡ Err f =
    subst (λ (bs : List ℕ). read_lines d p.line (lines_from bs p) ≡ Err f) c.loop-reader.invariant.0 c.in_err-take_line.ensures.taken in
    let answer = short-outcome bytes (Err f) c.if-listing-gt-MOST_BYTES.false (sym fault ∙ c.loop-reader.invariant.1.same) in
    let e = err_from_is_err_and c.from_residual.result c.from_residual.ensures.1 in
    rw (e.1, e.2) (record { outcome = answer; exact = lawful bytes (Err f) answer })

pub returns-in_err-count : goal.returns-in_err-count
returns-in_err-count c =
    let bytes = c.args.listing.now in
    let f = c.in_err-count.field-0.0 in
    let answer = at-end bytes c.loop-reader.draft c.loop-reader.reader.place (Err f) c.if-listing-gt-MOST_BYTES.false c.loop-reader.invariant.1 c.loop-reader-test.false c.in_err-count.ensures in
    let e = err_from_is_err_and c.from_residual-in_err-count.result c.from_residual-in_err-count.ensures.1 in
    rw (e.1, e.2) (record { outcome = answer; exact = lawful bytes (Err f) answer })

pub invariant_of-result : goal.invariant_of-result
invariant_of-result c =
    let bytes = c.args.listing.now in
    let s = script_with c.in_ok-count.field-0.count c.in_ok-count.field-0.lists in
    let answer = at-end bytes c.loop-reader.draft c.loop-reader.reader.place (Ok s) c.if-listing-gt-MOST_BYTES.false c.loop-reader.invariant.1 c.loop-reader-test.false c.in_ok-count.ensures in
    record { within = ((lawful bytes (Ok s) answer).accepted s refl).0 }

pub returns : goal.returns
returns c =
    let bytes = c.args.listing.now in
    let s = script_with c.in_ok-count.field-0.count c.in_ok-count.field-0.lists in
    let answer = at-end bytes c.loop-reader.draft c.loop-reader.reader.place (Ok s) c.if-listing-gt-MOST_BYTES.false c.loop-reader.invariant.1 c.loop-reader-test.false c.in_ok-count.ensures in
    record { outcome = answer; exact = lawful bytes (Ok s) answer }
