-- A field and its number.
use Rattle.std.proofs.Common.{◌≡◌, ℕ, ◌^◌, ◌<◌, Bool, true, false, ◌&&◌, eqb, List, [], ◌∷◌, Some, None, Option, refl, ap, ◌∙◌, subst, arith, ◌≢◌}
use Rattle.std.proofs.lemmas.Bool.{eqb-true, eq-eqb, and_parts}
use Rattle.report.specs.Text.{field}
use Rattle.listing.specs.Columns.{shifted, value_from, same_bytes, number_if, number_of}
use Rattle.listing.proofs.Written.{value_field}

zero_one : {P : Type 0} → ◌≡◌ {A = ℕ} 0 1 → P
zero_one e = absurd (omega arith)

pub same_self : (xs : List ℕ) → same_bytes xs xs ≡ true
same_self [] = refl
same_self (x ∷ xs) = ap (λ t. t && same_bytes xs xs) (eq-eqb x x refl) ∙ same_self xs

pub same_bytes_lem : (xs ys : List ℕ) → same_bytes xs ys ≡ true → xs ≡ ys
same_bytes_lem [] [] e = refl
same_bytes_lem [] (y ∷ ys) e = zero_one (cc)
same_bytes_lem (x ∷ xs) [] e = zero_one (cc)
same_bytes_lem (x ∷ xs) (y ∷ ys) e =
    let p = and_parts (eqb x y) (same_bytes xs ys) e in
    let h : x ≡ y = eqb-true x y p.0 in
    let t = same_bytes_lem xs ys p.1 in
    ap (λ z. z ∷ xs) h ∙ ap (λ zs. y ∷ zs) t

-- What is written is read.
pub number_of_field : (n : ℕ) → n < 2 ^ 32 → number_of (field n) ≡ Some n
number_of_field n h =
    let v = value_field n h in
    ap (λ m. number_if m (same_bytes (field n) (field m))) v ∙ ap (number_if n) (same_self (field n))

value_fits : (v : ℕ) (bs : List ℕ) → v < 2 ^ 32 → value_from v bs < 2 ^ 32
value_fits v [] h = h
value_fits v (b ∷ bs) h = value_fits (shifted v b) bs (omega arith)

number_if_lem : (n m : ℕ) (t : Bool) → number_if n t ≡ Some m → (t ≡ true) × (n ≡ m)
number_if_lem n m true e = (refl, cc)
number_if_lem n m false e = zero_one (cc)

-- What is read is written so.
pub field_of_number : (bs : List ℕ) (n : ℕ) → number_of bs ≡ Some n → (bs ≡ field n) × (n < 2 ^ 32)
field_of_number bs n e =
    let p = number_if_lem (value_from 0 bs) n (same_bytes bs (field (value_from 0 bs))) e in
    (same_bytes_lem bs (field (value_from 0 bs)) p.0 ∙ ap field p.1, subst (λ m. m < 2 ^ 32) p.1 (value_fits 0 bs (omega arith)))

-- What number a field has by what is written there.
pub number_written : (bs : List ℕ) (n : ℕ) → n < 2 ^ 32 → bs ≡ field n → number_of bs ≡ Some n
number_written bs n h w = ap number_of w ∙ number_of_field n h

pub number_unwritten : (bs : List ℕ) → ((n : ℕ) → n < 2 ^ 32 → bs ≢ field n) → number_of bs ≡ None
number_unwritten bs none = unread (number_of bs) refl
  where
    unread : (o : Option ℕ) → number_of bs ≡ o → number_of bs ≡ None
    unread None e = e
    unread (Some n) e = let p = field_of_number bs n e in absurd (none n p.1 p.0)
