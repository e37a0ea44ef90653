-- Results that are Ok, tests that hold, and lists of known length.
use Rattle.std.proofs.Common.{◌≡◌, ℕ, Bool, true, false, cond, List, [], ◌∷◌, ◌++◌, length, get_or, None, Ok, Err, Result, refl, arith}
pub use Rattle.model.proofs.Basics.{zero_one, by_bool}
use Rattle.script.specs.Scripts.{All}
use Rattle.script.specs.Faults.{next, unless}
use Rattle.script.specs.declared.Cause.{Cause}
use Rattle.script.specs.declared.ListingFault.{ListingFault}

module _ {A B : Type 0} where
  pub next-ok : (r : Result A ListingFault) (f : A → Result B ListingFault) (y : B) → next r f ≡ Ok y → (x : A) × (r ≡ Ok x) × (f x ≡ Ok y)
  next-ok (Ok x) f y e = (x, refl, e)
  next-ok (Err fault) f y e = zero_one (cc)

module _ {A : Type 0} where
  pub ok_same : (x y : A) → ◌≡◌ {A = Result A ListingFault} (Ok x) (Ok y) → x ≡ y
  ok_same x y e = cc

  pub cond-ok : (b : Bool) (r : Result A ListingFault) (fault : ListingFault) (y : A) → cond b r (Err fault) ≡ Ok y → (b ≡ true) × (r ≡ Ok y)
  cond-ok true r fault y e = (refl, e)
  cond-ok false r fault y e = zero_one (cc)

  pub all_push : (P : A → Type 0) (xs : List A) (x : A) → All P xs → P x → All P (xs ++ x ∷ [])
  all_push P [] x h hx = (hx, tt)
  all_push P (y ∷ xs) x h hx = (h.0, all_push P xs x h.1 hx)

  pub all_left : (P : A → Type 0) (xs ys : List A) → All P (xs ++ ys) → All P xs
  all_left P [] ys h = tt
  all_left P (x ∷ xs) ys h = (h.0, all_left P xs ys h.1)

  pub all_right : (P : A → Type 0) (xs ys : List A) → All P (xs ++ ys) → All P ys
  all_right P [] ys h = h
  all_right P (x ∷ xs) ys h = all_right P xs ys h.1

-- A test that finds nothing.
pub passed : (b : Bool) (cause : Cause) → unless b cause ≡ None → b ≡ true
passed true cause e = refl
passed false cause e = zero_one (cc)

-- Lists of one, two and three numbers.
pub one : (ns : List ℕ) → length ns ≡ 1 → ns ≡ get_or ns 0 0 ∷ []
one [] l = absurd (omega arith)
one (a ∷ []) l = refl
one (a ∷ b ∷ ns) l = absurd (omega arith)

pub two : (ns : List ℕ) → length ns ≡ 2 → ns ≡ get_or ns 0 0 ∷ get_or ns 1 0 ∷ []
two [] l = absurd (omega arith)
two (a ∷ []) l = absurd (omega arith)
two (a ∷ b ∷ []) l = refl
two (a ∷ b ∷ c ∷ ns) l = absurd (omega arith)

pub three : (ns : List ℕ) → length ns ≡ 3 → ns ≡ get_or ns 0 0 ∷ get_or ns 1 0 ∷ get_or ns 2 0 ∷ []
three [] l = absurd (omega arith)
three (a ∷ []) l = absurd (omega arith)
three (a ∷ b ∷ []) l = absurd (omega arith)
three (a ∷ b ∷ c ∷ []) l = refl
three (a ∷ b ∷ c ∷ d ∷ ns) l = absurd (omega arith)

pub none : (ns : List ℕ) → length ns ≡ 0 → ns ≡ []
none [] l = refl
none (a ∷ ns) l = absurd (omega arith)
