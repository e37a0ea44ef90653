-- Runs without corrections stay so until one is opened.
use Rattle.std.proofs.Common.{◌≡◌, ℕ, zero, suc, Bool, true, false, cond, eqb, List, [], ◌∷◌, Some, None, Option, refl, ap, ◌∙◌}
use Rattle.model.specs.Calls.{Call, Open, SlipNumbers, settle, if_open, held, call}
use Rattle.model.specs.Law.{opens_one, NoneUntilOpened}
use Rattle.model.specs.Logs.{at}
use Rattle.model.specs.Rules.{JobState, CorrectionState, State, effect}
use Rattle.model.specs.declared.Rule.{Rule}
use Rattle.model.specs.declared.Rule.TheVariants.{S1}
use Rattle.model.specs.declared.Step.{Step}
use Rattle.model.proofs.Basics.{zero_one}
use Rattle.model.proofs.Lifting.{settle-by-rule, call-any}

-- No rule changes a correction, so neither does a turn, nor a settling.
pub rule-corrects : (s : State) (j : ℕ) (b : JobState) (st : Step) (c : ℕ) (r : Rule) → (effect s j b st c r).corrections ≡ s.corrections
rule-corrects s j b st c S1 = refl
rule-corrects s j b st c r = refl

pub settling-corrects : (s : State) → (settle s).next.corrections ≡ s.corrections
settling-corrects = settle-by-rule (λ s t es. t.corrections ≡ s.corrections) (λ s. refl) (λ s t u xs ys p q. q ∙ p) rule-corrects

-- No slip stands for an open correction where there is none.
none-held : (s : State) (slip : SlipNumbers) → s.corrections ≡ [] → held s slip ≡ None
none-held s slip e = ap (λ fs. cond (eqb slip.run s.number) (if_open (at fs slip.correction)) None) e ∙ either (eqb slip.run s.number) (nobody slip.correction)
  where
    nobody : (k : ℕ) → at {A = CorrectionState} [] k ≡ None
    nobody zero = refl
    nobody (suc i) = refl

    either : {o : Option CorrectionState} (b : Bool) → o ≡ None → cond b (if_open o) None ≡ None
    either true q = ap if_open q
    either false q = refl

call-corrects : (s : State) → s.corrections ≡ [] → (c : Call) → opens_one (c ∷ []) ≡ false → (call s c).next.corrections ≡ []
call-corrects s e =
    call-any s (λ c o. opens_one (c ∷ []) ≡ false → o.next.corrections ≡ []) (λ c a i q. e) (λ j b g st c r f q. rule-corrects s j b st c r ∙ e) (λ q. settling-corrects s ∙ e) (λ q. zero_one (cc))
    (λ slip cell f number log h q. nobody slip f h) (λ slip cell number f h q. nobody slip f h) (λ slip f h q. nobody slip f h) (λ slip f h q. nobody slip f h)
  where
    nobody : {P : Type 0} (slip : SlipNumbers) (f : CorrectionState) → held s slip ≡ Some f → P
    nobody slip f h = let none = none-held s slip e in zero_one (cc)

one-by-one : (c : Call) (calls : List Call) → opens_one (c ∷ calls) ≡ false → (opens_one (c ∷ []) ≡ false) × (opens_one calls ≡ false)
one-by-one Open calls q = zero_one (cc)
one-by-one c calls q = (refl, q)

pub none-until-opened : NoneUntilOpened
none-until-opened s [] e o = e
none-until-opened s (c ∷ calls) e o = let both = one-by-one c calls o in none-until-opened (call s c).next calls (call-corrects s e c both.0) both.1
