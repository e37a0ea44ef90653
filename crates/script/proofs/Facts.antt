-- That a script is within the bounds is a fact: it holds in at most one way.
use Rattle.std.proofs.Common.{ℕ, suc, ◌<◌, ◌≤◌, List, [], ◌∷◌, refl}
use Rattle.std.proofs.Props.{props}
use Rattle.model.specs.declared.Step.{Step}
use Rattle.script.specs.Lines.{Item}
use Rattle.script.specs.Scripts.{Script, All, Admitted, Fits, Within}
use Rattle.script.specs.declared.Preset.{Preset}
use Rattle.script.specs.declared.Allotment.{Allotment}

all_fact : {A : Type 0} (P : A → Type 0) → ((x : A) → IsProp (P x)) → (xs : List A) → IsProp (All P xs)
all_fact P h [] = λ a b. refl
all_fact P h (x ∷ xs) = λ a b. λ i. (h x a.0 b.0 i, all_fact P h xs a.1 b.1 i)

presets_fact : (count : ℕ) (presets : List Preset) → IsProp (All (λ p. p.cell < count) presets)
presets_fact count presets = all_fact (λ p. p.cell < count) (λ p. hlevel props) presets

admitted_fact : (count before : ℕ) (jobs : List (List Step)) → IsProp (Admitted count before jobs)
admitted_fact count before [] = λ a b. refl
admitted_fact count before (steps ∷ jobs) = hlevel (props, admitted_fact count (suc before) jobs)

turns_fact : (jobs : ℕ) (turns : List Allotment) → IsProp (All (λ a. (1 ≤ a.job) × (a.job ≤ jobs) × (1 ≤ a.turns) × (a.turns ≤ 10000)) turns)
turns_fact jobs turns = all_fact (λ a. (1 ≤ a.job) × (a.job ≤ jobs) × (1 ≤ a.turns) × (a.turns ≤ 10000)) (λ a. hlevel props) turns

fits_fact : (items : List Item) → IsProp (All Fits items)
fits_fact items = all_fact Fits (λ i. all_fact (λ n. n < 4294967296) (λ n. hlevel props) i.numbers) items

pub within_fact : (s : Script) → IsProp (Within s)
within_fact s = hlevel (props, presets_fact, admitted_fact, turns_fact, fits_fact)
