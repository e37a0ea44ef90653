-- The run of a script from its intake to the end, and how its store comes through.
use Rattle.std.proofs.Common.{◌≡◌, ℕ, List, [], ◌∷◌, ◌++◌, sym, ap, ◌∙◌, subst}
use Rattle.std.proofs.lemmas.List.{append-nil}
use Rattle.model.specs.Calls.{Settle, settle, after, events_of}
use Rattle.model.specs.Intake.{Intake, sealed}
use Rattle.model.specs.Rules.{State}
use Rattle.script.specs.Scripts.{Script}
use Rattle.store.specs.Sets.{SetsEach}
use Rattle.store.specs.declared.change.Change.{Change}
use Rattle.table.specs.Settings.{Through, changes_in}
use Rattle.batch.specs.Runs.{turns_of, script_calls, preset_changes, intake_over, run_over, changes_over}
use Rattle.batch.proofs.Playing.{after-append, through_onward}

sets_both : {S : Type 0} (sets : S → ℕ → ℕ → S → Type 0) (cs ds : List Change) (a b t : S) → SetsEach sets a cs b → SetsEach sets b ds t → SetsEach sets a (cs ++ ds) t
sets_both sets [] ds a b t x y = subst (λ z. SetsEach sets z ds t) x y
sets_both sets (c ∷ cs) ds a b t x y = (x.0, x.1, sets_both sets cs ds x.0 b t x.2 y)

module _ (s : Script) (number : ℕ) (cells : List ℕ) (i : Intake) (s₁ s₂ : State) (admitted : i ≡ intake_over number cells s) (played : s₁ ≡ after (sealed i) (turns_of s.turns)) where
  pub ran : s₂ ≡ (settle s₁).next → s₂ ≡ run_over number cells s
  ran settled =
      settled
      ∙ (ap (λ (t : State). (settle t).next) played ∙ (sym (after-append (sealed i) (turns_of s.turns) (Settle ∷ [])) ∙ ap (λ (x : Intake). after (sealed x) (script_calls s)) admitted))

  pub ran_through : {S : Type 0} (sets : S → ℕ → ℕ → S → Type 0) (a b₀ b₁ b₂ : S) → SetsEach sets a (preset_changes s.presets) b₀ → Through sets (events_of (sealed i) (turns_of s.turns)) b₀ b₁ →
      Through sets (settle s₁).events b₁ b₂ → SetsEach sets a (changes_over number cells s) b₂
  ran_through sets a b₀ b₁ b₂ x y z =
      let last = subst (λ es. Through sets es b₁ b₂) (sym (append-nil (settle s₁).events)) z in
      let through = through_onward (sealed i) s₁ (turns_of s.turns) (Settle ∷ []) played sets b₀ b₁ b₂ y last in
      sets_both sets (preset_changes s.presets) _ a b₀ b₂ x (subst (λ (j : Intake). SetsEach sets b₀ (changes_in (events_of (sealed j) (script_calls s))) b₂) admitted through)
