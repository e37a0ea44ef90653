-- Where the fault of an admission can stand.
use Rattle.std.proofs.Common.{◌≡◌, ℕ, suc, ◌+◌, ◌<◌, ◌≤◌, Bool, true, false, not, eqb, ltb, leb, ◌⊎◌, List, [], ◌∷◌, length, Some, None, Option, sym, refl, ap, subst, inl, inr, arith, MatchOption}
use Rattle.std.specs.Option.{option_or}
use Rattle.std.proofs.lemmas.Bool.{leb-false, ltb-false, or_parts}
use Rattle.model.specs.Intake.{fault, fault_if, bad_register, bad_cell, bad_jump, step_fault, steps_fault, last_stops, bad_count, admission_fault}
use Rattle.model.specs.declared.Fault.{Fault}
use Rattle.model.specs.declared.Refusal.TheVariants.{TooManyJobs, StepCount, LastStep}
use Rattle.model.specs.declared.Step.{Step}
use Rattle.model.specs.declared.Step.TheVariants.{Read, Write, Load, Add, Subtract, JumpIfLess, Wait, End}
use Rattle.model.proofs.Admission.{neither, not_bad}
use Rattle.script.proofs.Basics.{zero_one}

either : {A : Type 0} (x y : Option A) (f : A) → option_or x y ≡ Some f → (x ≡ Some f) ⊎ ((x ≡ None) × (y ≡ Some f))
either None y f e = inr (refl, e)
either (Some x) y f e = inl e

-- In a field of step n.
abbrev At : ℕ → Fault → Type 0
At n f = (f.step ≡ n) × (f.field ≤ 3)

if_at : (n : ℕ) (bad : Bool) (g f : Fault) → At n g → fault_if bad g ≡ Some f → At n f
if_at n true g f h e = let same : g ≡ f = cc in subst (At n) same h
if_at n false g f h e = zero_one (cc)

at_either : (n : ℕ) (x y : Option Fault) (f : Fault) → (x ≡ Some f → At n f) → (y ≡ Some f → At n f) → option_or x y ≡ Some f → At n f
at_either n x y f hx hy e = elim (either x y f e) [ inl h ↦ hx h | inr h ↦ hy h.1 ]

step-at : (count steps n : ℕ) (s : Step) (f : Fault) → step_fault count steps n s ≡ Some f → At n f
step-at count steps n (Read r cell) f e = at_either n (bad_register n 1 r) (bad_cell count n 2 cell) f (if_at n _ _ f (refl, omega arith)) (if_at n _ _ f (refl, omega arith)) e
step-at count steps n (Write cell r) f e = at_either n (bad_register n 2 r) (bad_cell count n 1 cell) f (if_at n _ _ f (refl, omega arith)) (if_at n _ _ f (refl, omega arith)) e
step-at count steps n (Load r number) f e = if_at n _ _ f (refl, omega arith) e
step-at count steps n (Add r q) f e = at_either n (bad_register n 1 r) (bad_register n 2 q) f (if_at n _ _ f (refl, omega arith)) (if_at n _ _ f (refl, omega arith)) e
step-at count steps n (Subtract r q) f e = at_either n (bad_register n 1 r) (bad_register n 2 q) f (if_at n _ _ f (refl, omega arith)) (if_at n _ _ f (refl, omega arith)) e
step-at count steps n (JumpIfLess r q target) f e =
    at_either n (bad_register n 1 r) _ f (if_at n _ _ f (refl, omega arith)) (at_either n (bad_register n 2 q) (bad_jump steps n 3 target) f (if_at n _ _ f (refl, omega arith)) (if_at n _ _ f (refl, omega arith))) e
step-at count steps n Wait f e = zero_one (cc)
step-at count steps n End f e = zero_one (cc)

steps-at : (count len n : ℕ) (steps : List Step) (f : Fault) → steps_fault count len n steps ≡ Some f → (f.step < n + length steps) × (f.field ≤ 3)
steps-at count len n [] f e = zero_one (cc)
steps-at count len n (s ∷ steps) f e =
    elim (either (step_fault count len n s) (steps_fault count len (suc n) steps) f e) [
      | inl h ↦ (let p = step-at count len n s f h in (omega (arith, p.0), p.1))
      | inr h ↦ (let p = steps-at count len (suc n) steps f h.1 in (omega (arith, p.0), p.1))
    ]

abbrev pub Bounds : ℕ → Option Fault → Type 0
Bounds jobs o = MatchOption o (jobs < 16) (λ f. (f.step ≤ 24) × (f.field ≤ 3))

few-steps : (steps : List Step) → fault_if (bad_count steps) (fault StepCount 0 0) ≡ None → length steps ≤ 24
few-steps steps e = ltb-false 24 (length steps) (or_parts (eqb (length steps) 0) (ltb 24 (length steps)) (not_bad (bad_count steps) (fault StepCount 0 0) e)).1

same_place : (bad : Bool) (g f : Fault) → fault_if bad g ≡ Some f → g ≡ f
same_place true g f e = cc
same_place false g f e = zero_one (cc)

module _ (jobs count : ℕ) (steps : List Step) where
  some-bounds : (f : Fault) → admission_fault jobs count steps ≡ Some f → (f.step ≤ 24) × (f.field ≤ 3)
  some-bounds f e =
      elim (either (fault_if (leb 16 jobs) (fault TooManyJobs 0 0)) _ f e) [
        | inl h ↦ (let s = same_place (leb 16 jobs) (fault TooManyJobs 0 0) f h in (omega (arith, ap (λ (x : Fault). x.step) s), omega (arith, ap (λ (x : Fault). x.field) s)))
        | inr h ↦ elim (either (fault_if (bad_count steps) (fault StepCount 0 0)) _ f h.1) [
          | inl k ↦ (let s = same_place (bad_count steps) (fault StepCount 0 0) f k in (omega (arith, ap (λ (x : Fault). x.step) s), omega (arith, ap (λ (x : Fault). x.field) s)))
          | inr k ↦ (let few = few-steps steps k.0 in
              elim (either (steps_fault count (length steps) 1 steps) _ f k.1) [
                | inl m ↦ (let p = steps-at count (length steps) 1 steps f m in (omega (arith, p.0), p.1))
                | inr m ↦ (let s = same_place (not (last_stops steps)) (fault LastStep (length steps) 0) f m.1 in (omega (arith, ap (λ (x : Fault). x.step) s), omega (arith, ap (λ (x : Fault). x.field) s)))
              ])
        ]
      ]

  none-bounds : admission_fault jobs count steps ≡ None → jobs < 16
  none-bounds e = leb-false 16 jobs (not_bad (leb 16 jobs) (fault TooManyJobs 0 0) (neither (fault_if (leb 16 jobs) (fault TooManyJobs 0 0)) _ e).0)

  bounds_of : (o : Option Fault) → admission_fault jobs count steps ≡ o → Bounds jobs o
  bounds_of None e = none-bounds e
  bounds_of (Some f) e = some-bounds f e

  pub bounds : (o : Option Fault) → o ≡ admission_fault jobs count steps → Bounds jobs o
  bounds o e = bounds_of o (sym e)
