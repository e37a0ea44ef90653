-- The text of lines: letters, fields, and where lines end.
use Rattle.std.proofs.Common.{◌≡◌, ℕ, zero, suc, ◌+◌, ◌*◌, ◌/◌, ◌%◌, ◌^◌, ◌<◌, false, cond, eqb, List, [], ◌∷◌, ◌++◌, length, take, drop, Some, None, Ok, Option, Result, sym, refl, ap, ◌∙◌, subst, arith}
use Rattle.std.specs.List.{flat_map}
use Rattle.std.proofs.lemmas.List.{length-append, take-append-drop, drop-drop, drop_all, take_at, drop_at}
use Rattle.std.proofs.lemmas.Bool.{eqb-true, ne_eqb}
use Rattle.report.specs.Text.{field}
use Rattle.listing.specs.Columns.{left_of, number_of}
use Rattle.listing.proofs.Written.{columns, field_is, length-field}
use Rattle.listing.proofs.Numbers.{number_of_field, field_of_number}
use Rattle.script.specs.Lines.{letter_of, kind_of, Item, item_text}
use Rattle.script.specs.Scripts.{All, Fits}
use Rattle.script.specs.Faults.{next, cause_of, field_at, tested, read_number, read_numbers, RawLine, Closed, Unclosed, lengthened, lines_of}
use Rattle.script.specs.declared.Test.{Test}
use Rattle.script.specs.declared.Cause.{Cause}
use Rattle.script.specs.declared.ListingFault.{ListingFault}
use Rattle.script.specs.declared.Kind.{Kind}
use Rattle.script.specs.declared.Kind.TheVariants.{Size, Cell, Job, Read, Write, Load, Add, Subtract, JumpIfLess, Wait, End, Turns}
use Rattle.script.proofs.Basics.{zero_one, by_bool, next-ok, ok_same}

-- Letters.
pub kind_of_letter : (k : Kind) → kind_of (letter_of k) ≡ Some k
kind_of_letter Size = refl
kind_of_letter Cell = refl
kind_of_letter Job = refl
kind_of_letter Read = refl
kind_of_letter Write = refl
kind_of_letter Load = refl
kind_of_letter Add = refl
kind_of_letter Subtract = refl
kind_of_letter JumpIfLess = refl
kind_of_letter Wait = refl
kind_of_letter End = refl
kind_of_letter Turns = refl

or_later : (b : ℕ) (k this : Kind) (later : Option Kind) → cond (eqb b (letter_of this)) (Some this) later ≡ Some k → (later ≡ Some k → b ≡ letter_of k) → b ≡ letter_of k
or_later b k this later e f =
    by_bool (eqb b (letter_of this))
    (λ t. let same : this ≡ k = (let h : Some this ≡ Some k = ap (λ u. cond u (Some this) later) (sym t) ∙ e in cc) in eqb-true b (letter_of this) t ∙ ap letter_of same)
    (λ t. f (ap (λ u. cond u (Some this) later) (sym t) ∙ e))

pub letter_of_kind : (b : ℕ) (k : Kind) → kind_of b ≡ Some k → b ≡ letter_of k
letter_of_kind b k e =
    or_later b k Size _ e
    (λ e. or_later b k Cell _ e
    (λ e. or_later b k Job _ e
    (λ e. or_later b k Read _ e
    (λ e. or_later b k Write _ e
    (λ e. or_later b k Load _ e
    (λ e. or_later b k Add _ e
    (λ e. or_later b k Subtract _ e
    (λ e. or_later b k JumpIfLess _ e
    (λ e. or_later b k Wait _ e
    (λ e. or_later b k End _ e
    (λ e. or_later b k Turns _ e
    (λ e. zero_one (cc)))))))))))))

-- The numbers in fields: each is written there, fits and passes its test.
abbrev pub Numbered : List Test → ℕ → List ℕ → List ℕ → Type 0
Numbered [] k bytes [] = Unit {0}
Numbered [] k bytes (n ∷ ns) = ⊥
Numbered (test ∷ tests) k bytes [] = ⊥
Numbered (test ∷ tests) k bytes (n ∷ ns) = (field_at k bytes ≡ field n) × (n < 2 ^ 32) × (cause_of test n ≡ None) × Numbered tests (suc k) bytes ns

tested_ok : (o : Option Cause) (n m line k : ℕ) → tested o n line k ≡ Ok m → (o ≡ None) × (n ≡ m)
tested_ok (Some cause) n m line k e = zero_one (cc)
tested_ok None n m line k e = (refl, ok_same n m e)

number_ok : (test : Test) (o : Option ℕ) (n line k : ℕ) → read_number test o line k ≡ Ok n → (o ≡ Some n) × (cause_of test n ≡ None)
number_ok test None n line k e = zero_one (cc)
number_ok test (Some m) n line k e =
    let q = tested_ok (cause_of test m) m n line k e in (ap Some q.1, ap (cause_of test) (sym q.1) ∙ q.0)

pub numbers_ok : (tests : List Test) (line k : ℕ) (bytes ns : List ℕ) → read_numbers tests line k bytes ≡ Ok ns → Numbered tests k bytes ns
numbers_ok [] line k bytes [] e = tt
numbers_ok [] line k bytes (n ∷ ns) e = zero_one (cc)
numbers_ok (test ∷ tests) line k bytes ns e =
    let a = next-ok (read_number test (number_of (field_at k bytes)) line k) (λ n. next (read_numbers tests line (suc k) bytes) (λ ms. Ok (n ∷ ms))) ns e in
    let n = a.0 in
    let b = next-ok (read_numbers tests line (suc k) bytes) (λ ms. Ok (n ∷ ms)) ns a.2 in
    let q = number_ok test (number_of (field_at k bytes)) n line k a.1 in
    let w = field_of_number (field_at k bytes) n q.0 in
    subst (Numbered (test ∷ tests) k bytes) (ok_same (n ∷ b.0) ns b.2) (w.0, w.1, q.1, numbers_ok tests line (suc k) bytes b.0 b.1)

pub numbered-length : (tests : List Test) (k : ℕ) (bytes ns : List ℕ) → Numbered tests k bytes ns → length ns ≡ length tests
numbered-length [] k bytes [] h = refl
numbered-length [] k bytes (n ∷ ns) h = absurd h
numbered-length (test ∷ tests) k bytes [] h = absurd h
numbered-length (test ∷ tests) k bytes (n ∷ ns) h = ap suc (numbered-length tests (suc k) bytes ns h.3)

pub numbered_fit : (tests : List Test) (k : ℕ) (bytes ns : List ℕ) → Numbered tests k bytes ns → All (λ n. n < 2 ^ 32) ns
numbered_fit [] k bytes [] h = tt
numbered_fit [] k bytes (n ∷ ns) h = absurd h
numbered_fit (test ∷ tests) k bytes [] h = absurd h
numbered_fit (test ∷ tests) k bytes (n ∷ ns) h = (h.1, numbered_fit tests (suc k) bytes ns h.3)

-- The bytes are those fields, one after the other.
rest-fields : (k : ℕ) (bytes : List ℕ) → drop (11 * k) bytes ≡ field_at k bytes ++ drop (11 * suc k) bytes
rest-fields k bytes =
    let e : 11 * k + 11 ≡ 11 * suc k = omega arith in
    sym (take-append-drop 11 (drop (11 * k) bytes)) ∙ ap (λ ys. field_at k bytes ++ ys) (drop-drop 11 (11 * k) bytes ∙ ap (λ (m : ℕ). drop m bytes) e)

fields_from : (tests : List Test) (k : ℕ) (bytes ns : List ℕ) → Numbered tests k bytes ns → length bytes ≡ 11 * k + 11 * length tests → drop (11 * k) bytes ≡ flat_map field ns
fields_from [] k bytes [] h l = drop_all (11 * k) bytes (omega arith)
fields_from [] k bytes (n ∷ ns) h l = absurd h
fields_from (test ∷ tests) k bytes [] h l = absurd h
fields_from (test ∷ tests) k bytes (n ∷ ns) h l =
    let e : length bytes ≡ 11 * suc k + 11 * length tests = omega arith in
    rest-fields k bytes ∙ (ap (λ xs. xs ++ drop (11 * suc k) bytes) h.0 ∙ ap (λ ys. field n ++ ys) (fields_from tests (suc k) bytes ns h.3 e))

pub fields_whole : (tests : List Test) (bytes ns : List ℕ) → Numbered tests 0 bytes ns → length bytes ≡ 11 * length tests → bytes ≡ flat_map field ns
fields_whole tests bytes ns h l = fields_from tests 0 bytes ns h (omega arith)

-- Fields that are written are read.
abbrev pub Passes : List Test → List ℕ → Type 0
Passes [] [] = Unit {0}
Passes [] (n ∷ ns) = ⊥
Passes (test ∷ tests) [] = ⊥
Passes (test ∷ tests) (n ∷ ns) = (cause_of test n ≡ None) × Passes tests ns

pub read_from : (tests : List Test) (line k : ℕ) (bytes ns : List ℕ) → drop (11 * k) bytes ≡ flat_map field ns → Passes tests ns → All (λ n. n < 2 ^ 32) ns → read_numbers tests line k bytes ≡ Ok ns
read_from [] line k bytes [] e h fit = refl
read_from [] line k bytes (n ∷ ns) e h fit = absurd h
read_from (test ∷ tests) line k bytes [] e h fit = absurd h
read_from (test ∷ tests) line k bytes (n ∷ ns) e h fit =
    let wide = length-field n fit.0 in
    let this : field_at k bytes ≡ field n = ap (take 11) e ∙ take_at (field n) (flat_map field ns) 11 wide in
    let sum : 11 * k + 11 ≡ 11 * suc k = omega arith in
    let rest : drop (11 * suc k) bytes ≡ flat_map field ns = ap (λ (m : ℕ). drop m bytes) (sym sum) ∙ (sym (drop-drop 11 (11 * k) bytes) ∙ (ap (drop 11) e ∙ drop_at (field n) (flat_map field ns) 11 wide)) in
    let number : number_of (field_at k bytes) ≡ Some n = ap number_of this ∙ number_of_field n fit.0 in
    let more = read_from tests line (suc k) bytes ns rest h.1 fit.1 in
    let onward : ℕ → Result (List ℕ) ListingFault = λ m. next (read_numbers tests line (suc k) bytes) (λ ms. Ok (m ∷ ms)) in
    ap (λ o. next (read_number test o line k) onward) number
    ∙ (ap (λ o. next (tested o n line k) onward) h.0 ∙ ap (λ r. next r (λ ms. Ok (n ∷ ms))) more)

pub length_fields : (ns : List ℕ) → All (λ n. n < 2 ^ 32) ns → length (flat_map field ns) ≡ 11 * length ns
length_fields [] fit = refl
length_fields (n ∷ ns) fit = omega (arith, length-append (field n) (flat_map field ns), length-field n fit.0, length_fields ns fit.1)

-- Byte 10 stands in no field and is no letter.
abbrev pub NoEnd : List ℕ → Type 0
NoEnd = All (λ b. eqb b 10 ≡ false)

no_end_append : (xs ys : List ℕ) → NoEnd xs → NoEnd ys → NoEnd (xs ++ ys)
no_end_append [] ys h g = g
no_end_append (x ∷ xs) ys h g = (h.0, no_end_append xs ys h.1 g)

no_end_left : (rest : ℕ) → eqb (left_of rest) 10 ≡ false
no_end_left rest =
    by_bool (eqb rest 0)
    (λ t. ap (λ u. eqb (cond u 32 (48 + rest % 10)) 10) t)
    (λ t. ap (λ u. eqb (cond u 32 (48 + rest % 10)) 10) t ∙ ne_eqb (48 + rest % 10) 10 (λ e. omega arith))

no_end_columns : (c rest : ℕ) → NoEnd (columns c rest)
no_end_columns zero rest = tt
no_end_columns (suc c) rest = no_end_append (columns c (rest / 10)) (left_of rest ∷ []) (no_end_columns c (rest / 10)) (no_end_left rest, tt)

no_end_field : (n : ℕ) → n < 2 ^ 32 → NoEnd (field n)
no_end_field n h =
    subst NoEnd (field_is n h) (no_end_append (columns 10 (n / 10)) ((48 + n % 10) ∷ []) (no_end_columns 10 (n / 10)) (ne_eqb (48 + n % 10) 10 (λ e. omega arith), tt))

no_end_fields : (ns : List ℕ) → All (λ n. n < 2 ^ 32) ns → NoEnd (flat_map field ns)
no_end_fields [] fit = tt
no_end_fields (n ∷ ns) fit = no_end_append (field n) (flat_map field ns) (no_end_field n fit.0) (no_end_fields ns fit.1)

no_end_letter : (k : Kind) → eqb (letter_of k) 10 ≡ false
no_end_letter Size = refl
no_end_letter Cell = refl
no_end_letter Job = refl
no_end_letter Read = refl
no_end_letter Write = refl
no_end_letter Load = refl
no_end_letter Add = refl
no_end_letter Subtract = refl
no_end_letter JumpIfLess = refl
no_end_letter Wait = refl
no_end_letter End = refl
no_end_letter Turns = refl

pub no_end_item : (i : Item) → Fits i → NoEnd (item_text i)
no_end_item i fit = (no_end_letter i.kind, no_end_fields i.numbers fit)

-- Lines and their bytes.
pub line_closed : (bytes rest : List ℕ) → NoEnd bytes → lines_of (bytes ++ 10 ∷ rest) ≡ Closed bytes ∷ lines_of rest
line_closed [] rest h = refl
line_closed (b ∷ bytes) rest h =
    ap (λ t. cond t (Closed [] ∷ lines_of (bytes ++ 10 ∷ rest)) (lengthened b (lines_of (bytes ++ 10 ∷ rest)))) h.0
    ∙ ap (lengthened b) (line_closed bytes rest h.1)

abbrev pub bytes_of : RawLine → List ℕ
bytes_of (Closed bytes) = bytes ++ 10 ∷ []
bytes_of (Unclosed bytes) = bytes

lengthened_bytes : (b : ℕ) (lines : List RawLine) → flat_map bytes_of (lengthened b lines) ≡ b ∷ flat_map bytes_of lines
lengthened_bytes b [] = refl
lengthened_bytes b (Closed bytes ∷ lines) = refl
lengthened_bytes b (Unclosed bytes ∷ lines) = refl

pub lines_bytes : (bytes : List ℕ) → flat_map bytes_of (lines_of bytes) ≡ bytes
lines_bytes [] = refl
lines_bytes (b ∷ bytes) =
    by_bool (eqb b 10)
    (λ t. ap (λ u. flat_map bytes_of (cond u (Closed [] ∷ lines_of bytes) (lengthened b (lines_of bytes)))) t ∙ (ap (λ xs. 10 ∷ xs) (lines_bytes bytes) ∙ ap (λ x. x ∷ bytes) (sym (eqb-true b 10 t))))
    (λ t. ap (λ u. flat_map bytes_of (cond u (Closed [] ∷ lines_of bytes) (lengthened b (lines_of bytes)))) t ∙ (lengthened_bytes b (lines_of bytes) ∙ ap (λ xs. b ∷ xs) (lines_bytes bytes)))
