-- A number under a width of 11 is a field.
use Rattle.std.proofs.Common.{◌≡◌, ℕ, zero, suc, ◌^◌, ◌-◌, false, List, [], ◌∷◌, length, replicate, decimal, refl, ap, arith, append-nil}
use Rattle.std.specs.List.{repeat}
use Rattle.std.specs.Fmt.{char_count, format_spec, padded_integral}
use Rattle.report.specs.Text.{field}

blank_text : (n : ℕ) → repeat {A = ℕ} n (32 ∷ []) ≡ replicate n 32
blank_text zero = refl
blank_text (suc n) = ap (λ (rest : List ℕ). 32 ∷ rest) (blank_text n)

pub padded_field : (n : ℕ) → padded_integral (format_spec 32 3 0 11 (2 ^ 64 - 1)) false [] (decimal n) ≡ field n
unfolding padded_integral char_count lib.Utf8.encode
padded_field n =
    let pad = 11 - length (decimal n) in
    let before : pad - 0 - 0 ≡ pad = omega arith in
    let after : pad - pad ≡ 0 = omega arith in
    rw (before, after, blank_text pad) (simp append-nil)
