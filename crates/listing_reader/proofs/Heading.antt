-- A line whose letter is in order comes to its fields, or to a fault of its length.
use Rattle.std.proofs.Common.{◌≡◌, ℕ, suc, ◌+◌, ◌-◌, ◌*◌, ◌<◌, ◌≤◌, true, cond, eqb, List, ◌∷◌, length, take, drop, Some, None, Ok, Err, Option, Result, sym, ap, ◌∙◌, arith}
use Rattle.std.specs.Option.{ok_or, option_map}
use Rattle.std.proofs.lemmas.List.{take-take, drop-drop, drop-take}
use Rattle.std.proofs.lemmas.Bool.{eq-eqb, ne_eqb}
use Rattle.script.specs.Lines.{head, head_of, kind_of, fields_of, group_of}
use Rattle.script.specs.Faults.{fault_at, field_at, Closed, Progress, in_order, read_fields, read_kind, read_line}
use Rattle.script.specs.declared.Cause.TheVariants.{Shape, Letter}
use Rattle.script.specs.declared.Head.{Head}
use Rattle.script.specs.declared.Kind.{Kind}
use Rattle.script.specs.declared.ListingFault.{ListingFault}
use Rattle.script.specs.declared.Section.{Section}
use Rattle.script.proofs.Basics.{zero_one}
use Rattle.listing_reader.specs.Parts.{kind_in, Placed, Found}
use Rattle.listing_reader.specs.Ends.{lines_from}
use Rattle.listing_reader.specs.Heads.{Headed, LineRead}
use Rattle.listing_reader.specs.declared.place.Place.{Place}
use Rattle.listing_reader.specs.declared.line.Line.{Line}
use Rattle.listing_reader.specs.declared.line.Line.TheVariants.{Size, Cell, Job, Read, Write, Load, Add, Subtract, JumpIfLess, Wait, End, Turns}

-- What a letter says, where it is the letter of a line.
told : (o : Option Kind) (h : Head) → Ok h ≡ ok_or (option_map head o) Letter → (o ≡ Some h.kind) × (h.fields ≡ fields_of h.kind)
told None h e = zero_one (cc)
told (Some k) h e =
    let same : h ≡ head k = cc in
    let kind = ap (λ x. x.kind) same in
    (ap Some (sym kind), ap (λ x. x.fields) same ∙ ap fields_of (sym kind))

pub head_told : (letter : ℕ) (h : Head) → Ok h ≡ ok_or (head_of letter) Letter → (kind_of letter ≡ Some h.kind) × (h.fields ≡ fields_of h.kind)
head_told letter h e = told (kind_of letter) h e

module _ (section : Section) (number b : ℕ) (fields : List ℕ) (k : Kind) (kind : kind_of b ≡ Some k) (ordered : in_order section (group_of k) ≡ true) where
  by_length : (p : Progress) → p.section ≡ section → read_line p number (Closed (b ∷ fields)) ≡ cond (eqb (length fields) (11 * fields_of k)) (read_fields p number k fields) (Err (fault_at Shape number 1))
  by_length p e =
      ap (λ o. read_kind p number o fields) kind
      ∙ ap (λ t. cond t (cond (eqb (length fields) (11 * fields_of k)) (read_fields p number k fields) (Err (fault_at Shape number 1))) (Err (fault_at Letter number 1))) (ap (λ s. in_order s (group_of k)) e ∙ ordered)

  pub headed : (found : Option Line) → Found k fields found → Headed (b ∷ fields) section number (ok_or found (fault_at Shape number 1))
  headed None other = λ p e.
      by_length p e ∙ ap (λ t. cond t (read_fields p number k fields) (Err (fault_at Shape number 1))) (ne_eqb (length fields) (11 * fields_of k) other)
  headed (Some line) found = (
    record {
      fields = fields;
      reads = λ p e.
          by_length p e
          ∙ (ap (λ t. cond t (read_fields p number k fields) (Err (fault_at Shape number 1))) (eq-eqb (length fields) (11 * fields_of k) found.0)
          ∙ ap (λ j. read_fields p number j fields) (sym found.1));
      placed = found.2;
    },
    ap suc (found.0 ∙ ap (λ j. 11 * fields_of j) (sym found.1)),
    found.2,
  )

-- A field of a line is a part of the listing.
field_of_part : (bytes : List ℕ) (a n k : ℕ) → suc (11 * k + 11) ≤ n → field_at k (drop 1 (take n (drop a bytes))) ≡ field_at k (drop (suc a) bytes)
field_of_part bytes a n k h =
    let j = 1 + 11 * k in
    let split : n ≡ j + (n - j) = omega arith in
    let same : a + j ≡ suc a + 11 * k = omega arith in
    ap (take 11) (drop-drop (11 * k) 1 (take n (drop a bytes)) ∙ ap (λ (m : ℕ). drop j (take m (drop a bytes))) split ∙ drop-take j (n - j) (drop a bytes))
    ∙ (take-take 11 (n - j) (drop j (drop a bytes)) (omega arith)
    ∙ ap (take 11) (drop-drop j a bytes ∙ (ap (λ (m : ℕ). drop m bytes) same ∙ sym (drop-drop (11 * k) (suc a) bytes))))

placed_also : (xs ys : List ℕ) (line : Line) → ((k : ℕ) → k < fields_of (kind_in line) → field_at k xs ≡ field_at k ys) → Placed xs line → Placed ys line
placed_also xs ys (Size f) h p = p ∙ h 0 (omega arith)
placed_also xs ys (Cell f g) h p = (p.0 ∙ h 0 (omega arith), p.1 ∙ h 1 (omega arith))
placed_also xs ys (Job f) h p = p ∙ h 0 (omega arith)
placed_also xs ys (Read f g) h p = (p.0 ∙ h 0 (omega arith), p.1 ∙ h 1 (omega arith))
placed_also xs ys (Write f g) h p = (p.0 ∙ h 0 (omega arith), p.1 ∙ h 1 (omega arith))
placed_also xs ys (Load f g) h p = (p.0 ∙ h 0 (omega arith), p.1 ∙ h 1 (omega arith))
placed_also xs ys (Add f g) h p = (p.0 ∙ h 0 (omega arith), p.1 ∙ h 1 (omega arith))
placed_also xs ys (Subtract f g) h p = (p.0 ∙ h 0 (omega arith), p.1 ∙ h 1 (omega arith))
placed_also xs ys (JumpIfLess f g i) h p = (p.0 ∙ h 0 (omega arith), p.1 ∙ h 1 (omega arith), p.2 ∙ h 2 (omega arith))
placed_also xs ys Wait h p = tt
placed_also xs ys End h p = tt
placed_also xs ys (Turns f g) h p = (p.0 ∙ h 0 (omega arith), p.1 ∙ h 1 (omega arith))

pub placed_in_listing : (bytes part : List ℕ) (a : ℕ) (line : Line) → part ≡ take (length part) (drop a bytes) → length part ≡ suc (11 * fields_of (kind_in line)) → Placed (drop 1 part) line → Placed (drop (suc a) bytes) line
placed_in_listing bytes part a line e wide placed =
    placed_also (drop 1 part) (drop (suc a) bytes) line
    (λ k l. ap (λ bs. field_at k (drop 1 bs)) e ∙ field_of_part bytes a (length part) k (omega (arith, wide))) placed

-- The next line, from the part of the listing that it is.
pub line_read : (bytes part : List ℕ) (p q : Place) (section : Section) (r : Result Line ListingFault) →
    (lines_from bytes p ≡ Closed part ∷ lines_from bytes q) × (q.line ≡ suc p.line) × (q.at ≡ suc (p.at + length part)) × (q.at ≤ length bytes) × (part ≡ take (length part) (drop p.at bytes)) →
    Headed part section p.line r → LineRead bytes p q section r
line_read bytes part p q section (Ok line) s h =
    record {
      raw = Closed part;
      first = s.0;
      fielded = h.0;
      next = s.1;
      onward = omega (arith, s.2, h.1);
      within = s.3;
      placed = placed_in_listing bytes part p.at line s.4 h.1 h.2;
    }
line_read bytes part p q section (Err f) s h = record { raw = Closed part; rest = lines_from bytes q; first = s.0; faulty = h }
