-- Taking in a line.
use Rattle.std.proofs.Common.{◌≡◌, ℕ, suc, ◌+◌, ◌<◌, ◌≤◌, Bool, cond, eqb, ltb, List, [], ◌∷◌, length, get_or, drop, Some, None, Ok, Err, Option, Result, sym, refl, ap, ◌∙◌, subst}
use Rattle.std.proofs.lemmas.List.{drop_more, drop_all}
use Rattle.std.proofs.lemmas.Bool.{eqb-true, lt-ltb, le-ltb}
use Rattle.script.specs.Lines.{kind_of}
use Rattle.script.specs.Scripts as scripts
use Rattle.script.specs.Law.{Exactly}
use Rattle.script.proofs.Complete.{law}
use Rattle.script.specs.declared.Cause.TheVariants.{TooLong}
use Rattle.script.specs.Faults.{next, fault_at, RawLine, Closed, Unclosed, lengthened, lines_of, Progress, nothing_read, outcome, read_fields, read_line, is_step, step_follows, admit_before, finished, read_lines}
use Rattle.script.specs.declared.ListingFault.{ListingFault}
use Rattle.script.proofs.Basics.{by_bool}
use Rattle.listing_reader.specs.Drafts.{progress_of, is_step_letter}
use Rattle.listing_reader.specs.Ends.{lines_from}
use Rattle.listing_reader.specs.Heads.{NextFaulty, NextLine}
use Rattle.listing_reader.specs.Parts.{kind_in, Placed}
use Rattle.listing_reader.specs.Taking.{Onward}
use Rattle.listing_reader.specs.declared.draft.Draft.{Draft}
use Rattle.listing_reader.specs.declared.line.Line.{Line}
use Rattle.listing_reader.specs.declared.place.Place.{Place}

-- The letter of the next line is the next byte, unless that ends a line, and then it is none of a step.
first_letter : (b : ℕ) (lines : List RawLine) → step_follows (lengthened b lines) ≡ is_step (kind_of b)
first_letter b [] = refl
first_letter b (Closed bytes ∷ lines) = refl
first_letter b (Unclosed bytes ∷ lines) = refl

next_letter : (b : ℕ) (bytes : List ℕ) → step_follows (lines_of (b ∷ bytes)) ≡ is_step (kind_of b)
next_letter b bytes =
    by_bool (eqb b 10)
    (λ t. ap (λ u. step_follows (cond u (Closed [] ∷ lines_of bytes) (lengthened b (lines_of bytes)))) t ∙ ap (λ (n : ℕ). is_step (kind_of n)) (sym (eqb-true b 10 t)))
    (λ t. ap (λ u. step_follows (cond u (Closed [] ∷ lines_of bytes) (lengthened b (lines_of bytes)))) t ∙ first_letter b (lines_of bytes))

pub follows : (bytes : List ℕ) (at : ℕ) (letter : Option ℕ) (b : Bool) → at < length bytes → letter ≡ cond (ltb at (length bytes)) (Some (get_or bytes at 0)) None → b ≡ is_step_letter letter → b ≡ step_follows (lines_of (drop at bytes))
follows bytes at letter b l e f =
    let here : letter ≡ Some (get_or bytes at 0) = e ∙ ap (λ t. cond t (Some (get_or bytes at 0)) None) (lt-ltb at (length bytes) l) in
    f ∙ (ap is_step_letter here ∙ (sym (next_letter (get_or bytes at 0) (drop (at + 1) bytes)) ∙ ap (λ bs. step_follows (lines_of bs)) (sym (drop_more bytes at 0 l))))

-- A job that is not admitted is the fault.
pub not_admitted : (lines : List RawLine) (p : Progress) (line : ℕ) (f : ListingFault) → admit_before p (step_follows lines) ≡ Err f → read_lines p line lines ≡ Err f
not_admitted [] p line f e = ap (λ r. next r (λ q. finished q q.section)) e
not_admitted (raw ∷ lines) p line f e = ap (λ r. next r (λ q. next (read_line q line raw) (λ t. read_lines t (suc line) lines))) e

-- Otherwise the line is read.
line_next : (lines rest : List RawLine) (raw : RawLine) (p q : Progress) (line : ℕ) → lines ≡ raw ∷ rest → admit_before p (step_follows lines) ≡ Ok q →
    read_lines p line lines ≡ next (read_line q line raw) (λ t. read_lines t (suc line) rest)
line_next lines rest raw p q line e a =
    let b : admit_before p (step_follows (raw ∷ rest)) ≡ Ok q = ap (λ ls. admit_before p (step_follows ls)) (sym e) ∙ a in
    ap (read_lines p line) e ∙ ap (λ r. next r (λ t. next (read_line t line raw) (λ u. read_lines u (suc line) rest))) b

module _ (bytes : List ℕ) (p q : Place) (d m : Draft) (admitted : admit_before (progress_of d) (step_follows (lines_from bytes p)) ≡ Ok (progress_of m)) where
  pub faulty-line : (f : ListingFault) → NextFaulty bytes p m.section f → read_lines (progress_of d) p.line (lines_from bytes p) ≡ Err f
  faulty-line f h =
      line_next (lines_from bytes p) h.rest h.raw (progress_of d) (progress_of m) p.line h.first admitted
      ∙ ap (λ r. next r (λ t. read_lines t (suc p.line) h.rest)) (h.faulty (progress_of m) refl)

  -- A field that is no number, or none that may stand there.
  pub misread-line : (content : Line) (f : ListingFault) → NextLine bytes p q m.section content →
      ((fields : List ℕ) → Placed fields content → read_fields (progress_of m) p.line (kind_in content) fields ≡ Err f) → read_lines (progress_of d) p.line (lines_from bytes p) ≡ Err f
  misread-line content f h reads =
      let g = h.fielded in
      let read : read_line (progress_of m) p.line h.raw ≡ Err f = g.reads (progress_of m) refl ∙ reads g.fields g.placed in
      line_next (lines_from bytes p) (lines_from bytes q) h.raw (progress_of d) (progress_of m) p.line h.first admitted
      ∙ ap (λ r. next r (λ t. read_lines t (suc p.line) (lines_from bytes q))) read

  pub taken-line : (e : Draft) (content : Line) → NextLine bytes p q m.section content →
      ((fields : List ℕ) → Placed fields content → read_fields (progress_of m) p.line (kind_in content) fields ≡ Ok (progress_of e)) → e.line ≡ suc p.line → Onward bytes p q d e
  taken-line e content h reads line =
      let f = h.fielded in
      let read : read_line (progress_of m) p.line h.raw ≡ Ok (progress_of e) = f.reads (progress_of m) refl ∙ reads f.fields f.placed in
      record {
        same =
            line_next (lines_from bytes p) (lines_from bytes q) h.raw (progress_of d) (progress_of m) p.line h.first admitted
            ∙ (ap (λ r. next r (λ t. read_lines t (suc p.line) (lines_from bytes q))) read ∙ ap (λ (n : ℕ). read_lines (progress_of e) n (lines_from bytes q)) (sym h.next));
        next = h.next;
        onward = h.onward;
        within = h.within;
        line = h.next ∙ sym line;
      }

-- Between two lines.
pub record Underway (bytes : List ℕ) (d : Draft) (p : Place) : Type 0 where
  pub same : read_lines (progress_of d) p.line (lines_from bytes p) ≡ read_lines nothing_read 1 (lines_of bytes)
  pub within : p.at ≤ length bytes
  pub spaced : p.line + p.line ≤ p.at + 2
  pub line : p.line ≡ d.line

-- The outcome of a listing that is not too long.
pub short-outcome : (bytes : List ℕ) (r : Result scripts.Script ListingFault) → length bytes ≤ 65536 → r ≡ read_lines nothing_read 1 (lines_of bytes) → r ≡ outcome bytes
short-outcome bytes r l e = e ∙ sym (ap (λ t. cond t (Err (fault_at TooLong 1 1)) (read_lines nothing_read 1 (lines_of bytes))) (le-ltb 65536 (length bytes) l))

-- The outcome once no line is left.
pub at-end : (bytes : List ℕ) (d : Draft) (p : Place) (r : Result scripts.Script ListingFault) → length bytes ≤ 65536 → Underway bytes d p → length bytes ≤ p.at → ((line : ℕ) → r ≡ read_lines (progress_of d) line []) → r ≡ outcome bytes
at-end bytes d p r short u l e =
    let none : lines_from bytes p ≡ [] = ap lines_of (drop_all p.at bytes l) in
    short-outcome bytes r short (e p.line ∙ (ap (read_lines (progress_of d) p.line) (sym none) ∙ u.same))

-- The outcome obeys the law.
pub lawful : (bytes : List ℕ) (r : Result scripts.Script ListingFault) → r ≡ outcome bytes → Exactly bytes r
lawful bytes r e = subst (Exactly bytes) (sym e) (law bytes)
