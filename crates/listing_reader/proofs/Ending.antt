-- Where lines end.
use Rattle.std.proofs.Common.{◌≡◌, ℕ, suc, ◌+◌, ◌-◌, ◌<◌, ◌≤◌, Bool, true, false, cond, eqb, List, [], ◌∷◌, length, take, drop, Some, None, Option, sym, refl, ap, ◌∙◌, subst, arith}
use Rattle.std.specs.Option.{option_map}
use Rattle.std.specs.List.{position, position_from}
use Rattle.std.proofs.lemmas.Iterator.Adapters.{position_from-zero}
use Rattle.std.proofs.lemmas.List.{take_rest, length-take, length-drop, drop-drop}
use Rattle.script.specs.Faults.{Closed, Unclosed, lengthened, lines_of}
use Rattle.script.proofs.Basics.{zero_one, by_bool}
use Rattle.listing_reader.specs.Ends.{further, end_of}

-- So many bytes further on.
abbrev past : ℕ → Option ℕ → Option ℕ
past n o = option_map (λ k. n + k) o

past_none : (o : Option ℕ) → past 0 o ≡ o
past_none None = refl
past_none (Some k) = let e : 0 + k ≡ k = omega arith in ap Some e

past_further : (i : ℕ) (o : Option ℕ) → past (i + 1) o ≡ past i (further o)
past_further i None = refl
past_further i (Some k) = let e : i + 1 + k ≡ i + suc k = omega arith in ap Some e

-- The library's search comes to the same.
search-from : (bytes : List ℕ) (i : ℕ) → position_from (λ b. eqb b 10) i bytes ≡ past i (end_of bytes)
search-from [] i = refl
search-from (b ∷ bytes) i =
    by_bool (eqb b 10)
    (λ t. let z : i ≡ i + 0 = omega arith in rw t (ap Some z))
    (λ t. rw t (search-from bytes (i + 1) ∙ past_further i (end_of bytes)))

pub end-position : (bytes : List ℕ) → position (λ b. eqb b 10) bytes ≡ end_of bytes
end-position bytes = position_from-zero (λ b. eqb b 10) bytes ∙ (search-from bytes 0 ∙ past_none (end_of bytes))

-- The first line and the rest, or one line without an end.
further_some : (o : Option ℕ) (i : ℕ) → further o ≡ Some i → (k : ℕ) × (o ≡ Some k) × (i ≡ suc k)
further_some None i e = zero_one (cc)
further_some (Some k) i e = (k, refl, cc)

further_none : (o : Option ℕ) → further o ≡ None → o ≡ None
further_none None e = refl
further_none (Some k) e = zero_one (cc)

abbrev FirstLine : List ℕ → ℕ → Type 0
FirstLine bytes i = (lines_of bytes ≡ Closed (take i bytes) ∷ lines_of (drop (suc i) bytes)) × (i < length bytes)

first-after : (b : ℕ) (bytes : List ℕ) (i : ℕ) → ((k : ℕ) → end_of bytes ≡ Some k → FirstLine bytes k) → end_of (b ∷ bytes) ≡ Some i → (t : Bool) → eqb b 10 ≡ t → FirstLine (b ∷ bytes) i
first-after b bytes i ih e true h =
    let s : Some 0 ≡ Some i = ap (λ t. cond t (Some 0) (further (end_of bytes))) (sym h) ∙ e in
    let z : 0 ≡ i = cc in
    let split : lines_of (b ∷ bytes) ≡ Closed [] ∷ lines_of bytes = ap (λ t. cond t (Closed [] ∷ lines_of bytes) (lengthened b (lines_of bytes))) h in
    (subst (λ (n : ℕ). lines_of (b ∷ bytes) ≡ Closed (take n (b ∷ bytes)) ∷ lines_of (drop (suc n) (b ∷ bytes))) z split, omega arith)
first-after b bytes i ih e false h =
    let s : further (end_of bytes) ≡ Some i = ap (λ t. cond t (Some 0) (further (end_of bytes))) (sym h) ∙ e in
    let k = further_some (end_of bytes) i s in
    let rest = ih k.0 k.1 in
    let split : lines_of (b ∷ bytes) ≡ lengthened b (lines_of bytes) = ap (λ t. cond t (Closed [] ∷ lines_of bytes) (lengthened b (lines_of bytes))) h in
    (subst (λ (n : ℕ). lines_of (b ∷ bytes) ≡ Closed (take n (b ∷ bytes)) ∷ lines_of (drop (suc n) (b ∷ bytes))) (sym k.2) (split ∙ ap (lengthened b) rest.0), omega (arith, rest.1, k.2))

pub first_line : (bytes : List ℕ) (i : ℕ) → end_of bytes ≡ Some i → FirstLine bytes i
first_line [] i e = zero_one (cc)
first_line (b ∷ bytes) i e = first-after b bytes i (λ k h. first_line bytes k h) e (eqb b 10) refl

no_end_at : (b : ℕ) (bytes : List ℕ) → end_of (b ∷ bytes) ≡ None → (t : Bool) → eqb b 10 ≡ t → (eqb b 10 ≡ false) × (end_of bytes ≡ None)
no_end_at b bytes e true h = let s : ◌≡◌ {A = Option ℕ} (Some 0) None = ap (λ t. cond t (Some 0) (further (end_of bytes))) (sym h) ∙ e in zero_one (cc)
no_end_at b bytes e false h = (h, further_none (end_of bytes) (ap (λ t. cond t (Some 0) (further (end_of bytes))) (sym h) ∙ e))

pub only_line : (bytes : List ℕ) → end_of bytes ≡ None → 0 < length bytes → lines_of bytes ≡ Unclosed bytes ∷ []
only_line [] e l = absurd (omega arith)
only_line (b ∷ []) e l = let h = no_end_at b [] e (eqb b 10) refl in ap (λ t. cond t (Closed [] ∷ []) (Unclosed (b ∷ []) ∷ [])) h.0
only_line (b ∷ c ∷ bytes) e l =
    let h = no_end_at b (c ∷ bytes) e (eqb b 10) refl in
    ap (λ t. cond t (Closed [] ∷ lines_of (c ∷ bytes)) (lengthened b (lines_of (c ∷ bytes)))) h.0 ∙ ap (lengthened b) (only_line (c ∷ bytes) h.1 (omega arith))

-- The same for the bytes from a place on, as a part of the listing.
module _ (bytes : List ℕ) (at : ℕ) where
  pub part-unclosed : at < length bytes → None ≡ end_of (take (length bytes - at) (drop at bytes)) → lines_of (drop at bytes) ≡ Unclosed (drop at bytes) ∷ []
  part-unclosed l e = only_line (drop at bytes) (sym (e ∙ ap end_of (take_rest bytes at))) (omega (arith, length-drop at bytes))

  pub part-line : (len : ℕ) → Some len ≡ end_of (take (length bytes - at) (drop at bytes)) →
      (lines_of (drop at bytes) ≡ Closed (take (at + len - at) (drop at bytes)) ∷ lines_of (drop (at + len + 1) bytes))
      × (at + len + 1 ≡ suc (at + length (take (at + len - at) (drop at bytes)))) × (at + len + 1 ≤ length bytes)
      × (take (at + len - at) (drop at bytes) ≡ take (length (take (at + len - at) (drop at bytes))) (drop at bytes))
  part-line len e =
      let f = first_line (drop at bytes) len (sym (e ∙ ap end_of (take_rest bytes at))) in
      let n : len ≡ at + len - at = omega arith in
      let m : at + suc len ≡ at + len + 1 = omega arith in
      let l = length-take (at + len - at) (drop at bytes) in (
        f.0 ∙ (ap (λ (k : ℕ). Closed (take k (drop at bytes)) ∷ lines_of (drop (suc len) (drop at bytes))) n ∙ ap (λ bs. Closed (take (at + len - at) (drop at bytes)) ∷ lines_of bs) (drop-drop (suc len) at bytes ∙ ap (λ (k : ℕ). drop k bytes) m)),
        omega (arith, f.1, length-drop at bytes),
        omega (arith, f.1, length-drop at bytes),
        (let k : at + len - at ≡ length (take (at + len - at) (drop at bytes)) = omega (arith, f.1, length-drop at bytes) in ap (λ (i : ℕ). take i (drop at bytes)) k),
      )
