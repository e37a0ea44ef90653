-- What a range of numbers with its end gives.
use Rattle.std.proofs.Common.{◌≡◌, ℕ, suc, ◌+◌, ◌-◌, false, List, ◌∷◌, length, Some, None, sym, ap, ◌∙◌, subst, arith}
use Rattle.std.specs.List.{range_with_len}
use Rattle.std.specs.Range.{range_inclusive_start, range_inclusive_end, range_inclusive_exhausted, range_inclusive_left, range_inclusive_len, range_inclusive_steps}
use Rattle.std.specs.declared.ops.RangeInclusive.{RangeInclusive}
use Rattle.std.proofs.lemmas.Iterator.{YieldsList}
use Rattle.std.proofs.lemmas.Iterator.Consumers.{YieldsList-from_shown}
use Rattle.model.proofs.Basics.{by_bool}

abbrev gap : ℕ → ℕ → ℕ
gap a b = b - a

abbrev follows : ℕ → ℕ → Type 0
follows a b = b ≡ a + 1

abbrev left : RangeInclusive ℕ → ℕ
left s = range_inclusive_left gap s

abbrev shown : RangeInclusive ℕ → List ℕ
shown s = range_with_len (range_inclusive_start s) (left s)

none_left : (s t : RangeInclusive ℕ) → range_inclusive_steps gap follows s None t → length (shown s) ≡ 0
none_left s t h = ap (λ (n : ℕ). length (range_with_len (range_inclusive_start s) n)) h.1.0

next_shown : (s : RangeInclusive ℕ) (x : ℕ) (t : RangeInclusive ℕ) → range_inclusive_steps gap follows s (Some x) t → shown s ≡ x ∷ shown t
next_shown s x t h =
    let a = range_inclusive_start s in
    let n : left s ≡ suc (left t) = omega (arith, h.1.1) in
    let others : range_with_len (a + 1) (left t) ≡ shown t =
    by_bool (range_inclusive_exhausted t)
    (λ e.
    let z : left t ≡ 0 = ap (λ b. range_inclusive_len gap (range_inclusive_start t) (range_inclusive_end t) b) e in
    ap (range_with_len (a + 1)) z ∙ sym (ap (range_with_len (range_inclusive_start t)) z))
    (λ e. ap (λ (b : ℕ). range_with_len b (left t)) (sym (h.1.2 e))) in
    ap (range_with_len a) n ∙ (ap (λ xs. a ∷ xs) others ∙ ap (λ (y : ℕ). y ∷ shown t) (sym h.1.0))

pub all_shown : (s : RangeInclusive ℕ) (n : ℕ) → range_inclusive_start s ≡ 1 → range_inclusive_end s ≡ n → range_inclusive_exhausted s ≡ false → YieldsList (range_inclusive_steps gap follows) (λ x. x) s (range_with_len 1 n)
all_shown s n from to fresh =
    let l : left s ≡ n = (let z = ap (λ b. range_inclusive_len gap (range_inclusive_start s) (range_inclusive_end s) b) fresh in omega (arith, z, from, to)) in
    subst (YieldsList (range_inclusive_steps gap follows) (λ x. x) s) (ap (λ (a : ℕ). range_with_len a (left s)) from ∙ ap (range_with_len 1) l)
    (YieldsList-from_shown (range_inclusive_steps gap follows) (λ x. x) shown none_left next_shown s)
