-- What a written number is, column by column.
use Rattle.std.proofs.Common.{◌≡◌, ℕ, zero, suc, ◌+◌, ◌-◌, ◌*◌, ◌/◌, ◌%◌, ◌^◌, ◌<◌, ◌≤◌, cond, List, [], ◌∷◌, ◌++◌, length, get_or, take, reverse, replicate, decimal, sym, refl, ap, ◌∙◌, inl, inr, append_assoc, pow-suc, arith}
use Rattle.std.specs.List.{fold}
use Rattle.std.proofs.lemmas.Fmt.{decimal_digit, decimal_step, decimal_by_steps}
use Rattle.std.proofs.lemmas.List.{get_or-reverse, get_or-take, length-reverse, length-take-le, length_push, take_all}
use Rattle.std.proofs.lemmas.Bool.{ne_eqb, cases_lt}
use Rattle.report.specs.Text.{field}
use Rattle.listing.specs.Columns.{left_of, shifted, value_from}

-- The value of what is written.
value_push : (v b : ℕ) (bs : List ℕ) → value_from v (bs ++ b ∷ []) ≡ shifted (value_from v bs) b
value_push v b [] = refl
value_push v b (x ∷ bs) = value_push (shifted v x) b bs

low_bits : (d : ℕ) → d < 10 → (48 + d) % 16 ≡ d
low_bits d h = omega arith

no_wrap : (x y : ℕ) → x + y < 2 ^ 32 → (x % 2 ^ 32 + y) % 2 ^ 32 ≡ x + y
no_wrap x y h = omega arith

shifted_digit : (m : ℕ) → m < 2 ^ 32 → shifted (m / 10) (48 + m % 10) ≡ m
shifted_digit m h =
    let d : m % 10 < 10 = omega arith in
    let whole : m / 10 * 10 + m % 10 ≡ m = omega arith in
    ap (λ (y : ℕ). (m / 10 * 10 % 2 ^ 32 + y) % 2 ^ 32) (low_bits (m % 10) d) ∙ (no_wrap (m / 10 * 10) (m % 10) (omega arith) ∙ whole)

value_decimal : (n : ℕ) → n < 2 ^ 64 → n < 2 ^ 32 → value_from 0 (decimal n) ≡ n
value_decimal =
    decimal_by_steps (λ m ds. m < 2 ^ 32 → value_from 0 ds ≡ m) (λ m l h. omega arith)
    (λ m ds l h fits. value_push 0 (48 + m % 10) ds ∙ (ap (λ (v : ℕ). shifted v (48 + m % 10)) (h (omega arith)) ∙ shifted_digit m fits))

value_blanks : (k : ℕ) (ds : List ℕ) → value_from 0 (replicate k 32 ++ ds) ≡ value_from 0 ds
value_blanks zero ds = refl
value_blanks (suc k) ds = value_blanks k ds

pub value_field : (n : ℕ) → n < 2 ^ 32 → value_from 0 (field n) ≡ n
value_field n h = value_blanks (11 - length (decimal n)) (decimal n) ∙ value_decimal n (omega arith) h

pub value-fold : (v : ℕ) (bs : List ℕ) → value_from v bs ≡ fold shifted v bs
value-fold v [] = refl
value-fold v (b ∷ bs) = value-fold (shifted v b) bs

-- The columns before the last one.
abbrev pub columns : ℕ → ℕ → List ℕ
columns zero rest = []
columns (suc c) rest = columns c (rest / 10) ++ left_of rest ∷ []

more_blanks : (c : ℕ) → replicate {A = ℕ} c 32 ++ 32 ∷ [] ≡ replicate (suc c) 32
more_blanks zero = refl
more_blanks (suc c) = ap (λ xs. 32 ∷ xs) (more_blanks c)

blank_columns : (c : ℕ) → columns c 0 ≡ replicate c 32
blank_columns zero = refl
blank_columns (suc c) = ap (λ xs. xs ++ 32 ∷ []) (blank_columns c) ∙ more_blanks c

-- The columns before the last one, which are blanks and digits, and the last one.
abbrev pub Columned : ℕ → ℕ → Type 0
Columned c n = columns c (n / 10) ++ (48 + n % 10) ∷ [] ≡ replicate (suc c - length (decimal n)) 32 ++ decimal n

one_digit : (c n : ℕ) → n < 10 → Columned c n
one_digit c n l =
    let rest : n / 10 ≡ 0 = omega arith in
    let last : n % 10 ≡ n = omega arith in
    let wide : suc c - length ((48 + n) ∷ []) ≡ c = omega arith in
    ap (λ (m : ℕ). columns c m ++ (48 + n % 10) ∷ []) rest
    ∙ (ap (λ (m : ℕ). columns c 0 ++ (48 + m) ∷ []) last
    ∙ (ap (λ xs. xs ++ (48 + n) ∷ []) (blank_columns c)
    ∙ (ap (λ (k : ℕ). replicate k 32 ++ (48 + n) ∷ []) (sym wide)
    ∙ ap (λ ds. replicate (suc c - length ds) 32 ++ ds) (sym (decimal_digit n l)))))

digit_left : (m : ℕ) → 0 < m → left_of m ≡ 48 + m % 10
digit_left m h = ap (λ t. cond t 32 (48 + m % 10)) (ne_eqb m 0 (λ e. omega arith))

more_digits : (c n : ℕ) → 10 ≤ n → n < 2 ^ 64 → Columned c (n / 10) → Columned (suc c) n
more_digits c n l fits before =
    let left = digit_left (n / 10) (omega arith) in
    let step = decimal_step n l fits in
    let wide : suc c - length (decimal (n / 10)) ≡ suc (suc c) - length (decimal n) = omega (arith, ap length step, length_push (decimal (n / 10)) (48 + n % 10)) in
    ap (λ (b : ℕ). (columns c (n / 10 / 10) ++ b ∷ []) ++ (48 + n % 10) ∷ []) left
    ∙ (ap (λ xs. xs ++ (48 + n % 10) ∷ []) before
    ∙ (append_assoc (replicate (suc c - length (decimal (n / 10))) 32) (decimal (n / 10)) ((48 + n % 10) ∷ [])
    ∙ (ap (λ ds. replicate (suc c - length (decimal (n / 10))) 32 ++ ds) (sym step) ∙ ap (λ (k : ℕ). replicate k 32 ++ decimal n) wide)))

columned : (c n : ℕ) → n < 10 ^ suc c → n < 2 ^ 64 → Columned c n
columned zero n h fits = one_digit 0 n (omega (arith, pow-suc 10 0))
columned (suc c) n h fits =
    elim (cases_lt n 10) [
      | inl l ↦ one_digit (suc c) n l
      | inr l ↦ more_digits c n l fits (columned c (n / 10) (let p = pow-suc 10 (suc c) in omega arith) (omega arith))
    ]

pub field_is : (n : ℕ) → n < 2 ^ 32 → columns 10 (n / 10) ++ (48 + n % 10) ∷ [] ≡ field n
field_is n h = columned 10 n (omega arith) (omega arith)

length-columns : (c rest : ℕ) → length (columns c rest) ≡ c
length-columns zero rest = refl
length-columns (suc c) rest = omega (arith, length_push (columns c (rest / 10)) (left_of rest), length-columns c (rest / 10))

pub length-field : (n : ℕ) → n < 2 ^ 32 → length (field n) ≡ 11
length-field n h = omega (arith, ap length (field_is n h), length_push (columns 10 (n / 10)) (48 + n % 10), length-columns 10 (n / 10))

zero_one : {P : Type 0} → ◌≡◌ {A = ℕ} 0 1 → P
zero_one e = absurd (omega arith)

-- Two lists by their last members.
pub last_same : (xs ys : List ℕ) (x y : ℕ) → xs ++ x ∷ [] ≡ ys ++ y ∷ [] → (xs ≡ ys) × (x ≡ y)
last_same [] [] x y e = (refl, cc)
last_same [] (z ∷ []) x y e = zero_one (cc)
last_same [] (z ∷ w ∷ ys) x y e = zero_one (cc)
last_same (z ∷ []) [] x y e = zero_one (cc)
last_same (z ∷ w ∷ xs) [] x y e = zero_one (cc)
last_same (z ∷ xs) (w ∷ ys) x y e =
    let h : z ≡ w = cc in
    let t : xs ++ x ∷ [] ≡ ys ++ y ∷ [] = cc in
    let r = last_same xs ys x y t in
    (ap (λ a. a ∷ xs) h ∙ ap (λ zs. w ∷ zs) r.0, r.1)

pub take-push : (xs : List ℕ) (k d : ℕ) → k < length xs → take (suc k) xs ≡ take k xs ++ get_or xs k d ∷ []
take-push [] k d h = absurd (omega arith)
take-push (x ∷ xs) zero d h = refl
take-push (x ∷ xs) (suc k) d h = ap (λ ys. x ∷ ys) (take-push xs k d (omega arith))

-- The columns before the last one, from the right.
pub column_at : (bytes : List ℕ) (k d : ℕ) → length bytes ≡ 11 → k < length (reverse (take 10 bytes)) → (k < 10) × (get_or (reverse (take 10 bytes)) k d ≡ get_or bytes (9 - k) d)
column_at bytes k d wide l =
    let ten : length (take 10 bytes) ≡ 10 = length-take-le 10 bytes (omega arith) in
    let below : k < length (take 10 bytes) = omega (arith, length-reverse (take 10 bytes)) in
    let place : length (take 10 bytes) - 1 - k ≡ 9 - k = omega arith in (
      omega arith,
      get_or-reverse (take 10 bytes) k d below ∙ ap (λ (i : ℕ). get_or (take 10 bytes) i d) place ∙ get_or-take 10 bytes (9 - k) d (omega arith),
    )

-- So far the field is what n is written as; it remains that its first c columns are those of the rest.
pub record Leaves (bytes : List ℕ) (n c rest : ℕ) : Type 0 where
  pub enough : take c bytes ≡ columns c rest → bytes ≡ field n
  pub needed : bytes ≡ field n → take c bytes ≡ columns c rest

module _ (bytes : List ℕ) (n : ℕ) where
  -- The last column is as it must be, or the field is not what n is written as.
  module _ (d : ℕ) (wide : length bytes ≡ 11) (fits : n < 2 ^ 32) where
    parts : bytes ≡ take 10 bytes ++ get_or bytes 10 d ∷ []
    parts = sym (take_all 11 bytes (omega arith)) ∙ take-push bytes 10 d (omega arith)

    last_of : bytes ≡ field n → (take 10 bytes ≡ columns 10 (n / 10)) × (get_or bytes 10 d ≡ 48 + n % 10)
    last_of e = last_same (take 10 bytes) (columns 10 (n / 10)) _ _ (sym parts ∙ (e ∙ sym (field_is n fits)))

    pub other_last : (get_or bytes 10 d ≡ 48 + n % 10 → ⊥) → bytes ≡ field n → ⊥
    other_last ne e = ne (last_of e).1

    pub first : get_or bytes 10 d ≡ 48 + n % 10 → Leaves bytes n 10 (n / 10)
    first same =
        record {
          enough = λ e. parts ∙ (ap (λ xs. xs ++ get_or bytes 10 d ∷ []) e ∙ (ap (λ (b : ℕ). columns 10 (n / 10) ++ b ∷ []) same ∙ field_is n fits));
          needed = λ e. (last_of e).0;
        }

  -- Likewise for one column more to the left.
  module _ (c rest d : ℕ) (below : c < length bytes) (so_far : Leaves bytes n (suc c) rest) where
    column-of : bytes ≡ field n → (take c bytes ≡ columns c (rest / 10)) × (get_or bytes c d ≡ left_of rest)
    column-of e = last_same (take c bytes) (columns c (rest / 10)) _ _ (sym (take-push bytes c d below) ∙ so_far.needed e)

    pub other-column : (get_or bytes c d ≡ left_of rest → ⊥) → bytes ≡ field n → ⊥
    other-column ne e = ne (column-of e).1

    pub next : get_or bytes c d ≡ left_of rest → Leaves bytes n c (rest / 10)
    next same =
        record {
          enough = λ e. so_far.enough (take-push bytes c d below ∙ (ap (λ xs. xs ++ get_or bytes c d ∷ []) e ∙ ap (λ (b : ℕ). columns c (rest / 10) ++ b ∷ []) same));
          needed = λ e. (column-of e).0;
        }
