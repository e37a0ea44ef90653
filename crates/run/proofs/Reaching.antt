-- What led to a run's state, one call further.
use Rattle.std.proofs.Common.{◌≡◌, ℕ, List, [], ◌∷◌, ◌++◌, sym, ap, ◌∙◌}
use Rattle.std.proofs.Math.Logic.{∥∥₁_map}
use Rattle.model.specs.Calls.{Call, call}
use Rattle.model.specs.Intake.{Intake, sealed, closed_cells}
use Rattle.model.specs.Law.{Admissible}
use Rattle.model.specs.Rules.{State}
use Rattle.model.proofs.Closing.{after_push, closing}
use Rattle.model.proofs.Whole.{law}
use Rattle.run.specs.Reached.{Reached, Lawfully, LeftBy}

pub by_seal : (s : State) (i : Intake) → Admissible i → s ≡ sealed i → ∥ Reached s ∥₁
by_seal s i a e = ∣ record { intake = i; admissible = a; calls = []; is = e } ∣₁

pub by_call : (s s' : State) (c : Call) → s' ≡ (call s c).next → ∥ Reached s ∥₁ → ∥ Reached s' ∥₁
by_call s s' c e t =
    ∥∥₁_map t
    (λ (r : Reached s). record {
      intake = r.intake;
      admissible = r.admissible;
      calls = r.calls ++ c ∷ [];
      is = e ∙ (ap (λ (z : State). (call z c).next) r.is ∙ sym (after_push (sealed r.intake) r.calls c));
    })

pub by_law : (s : State) → ∥ Reached s ∥₁ → ∥ Lawfully s ∥₁
by_law s t = ∥∥₁_map t (λ (r : Reached s). record { reached = r; law = law r.intake r.admissible })

pub by_close : (s : State) (cells : List ℕ) → cells ≡ closed_cells s → ∥ Reached s ∥₁ → ∥ LeftBy s cells ∥₁
by_close s cells e t = ∥∥₁_map t (λ (r : Reached s). record { reached = r; left = e ∙ (ap closed_cells r.is ∙ closing (sealed r.intake) (law r.intake r.admissible) r.calls) })
