-- Settling, turn by turn.
use Rattle.std.proofs.Common.{◌≡◌, ℕ, zero, suc, ◌+◌, ◌-◌, ◌<◌, ◌≤◌, length, Some, None, refl, sym, ap, ◌∙◌, subst, arith}
use Rattle.model.specs.Calls.{turn, settle, settle_next, settle_in}
use Rattle.model.specs.Rules.{State}
use Rattle.table.specs.Settings.{Through, changes_in}
use Rattle.table.proofs.Settings.{same_store, through_both, untouched}

pub settle_more : (s : State) (n k h : ℕ) → k < n → s.right ≡ Some h → settle_in (n - k) s ≡ settle_next (Some h) s (λ t. settle_in (n - (k + 1)) t)
settle_more s n k h l e =
    let q : n - k ≡ suc (n - (k + 1)) = omega arith in
    ap (λ (m : ℕ). settle_in m s) q ∙ ap (λ o. settle_next o s (λ t. settle_in (n - (k + 1)) t)) e

pub settle_end : (s : State) (n k : ℕ) → n ≤ k → settle_in (n - k) s ≡ settle_next None s (λ t. settle_in 0 t)
settle_end s n k l = let q : n - k ≡ 0 = omega arith in ap (λ (m : ℕ). settle_in m s) q

pub settle_free : (s : State) (m : ℕ) → s.right ≡ None → settle_in m s ≡ settle_next None s (λ t. settle_in 0 t)
settle_free s zero e = refl
settle_free s (suc m) e = ap (λ o. settle_next o s (λ t. settle_in m t)) e

-- How a store comes through it.
module _ {S : Type 0} (sets : S → ℕ → ℕ → S → Type 0) (a : S) where
  pub one_turn : (s s' : State) (n k h : ℕ) (b t : S) → k < n → s.right ≡ Some h → s' ≡ (turn s h).next → Through sets (turn s h).events a b →
      Through sets (settle_in (n - (k + 1)) s').events b t → Through sets (settle_in (n - k) s).events a t
  one_turn s s' n k h b t l e q x y =
      let rest = subst (λ z. Through sets (settle_in (n - (k + 1)) z).events b t) q y in
      subst (λ es. Through sets es a t) (sym (ap (λ o. o.events) (settle_more s n k h l e))) (through_both sets (turn s h).events (settle_in (n - (k + 1)) (turn s h).next).events a b t x rest)

  no_turn : (s : State) (m : ℕ) → settle_in m s ≡ settle_next None s (λ t. settle_in 0 t) → Through sets (settle_in m s).events a a
  no_turn s m e = untouched sets a _ (ap (λ o. changes_in o.events) e)

-- The run s and the store a' are where settling ends that began with s₀ and a, once no turn of it is left.
pub settled : {S : Type 0} (sets : S → ℕ → ℕ → S → Type 0) (a a' : S) (s s₀ : State) (m jobs : ℕ) → jobs ≡ length s₀.jobs → settle_in m s ≡ settle_next None s (λ t. settle_in 0 t) →
    (settle_in m s).next ≡ (settle_in (jobs + 25) s₀).next → ((t : S) → Through sets (settle_in m s).events a' t → Through sets (settle_in (jobs + 25) s₀).events a t) →
    (s ≡ (settle s₀).next) × Through sets (settle s₀).events a a' × (s₀.right ≡ None → a' ≡ a)
settled sets a a' s s₀ m jobs q e x y =
    let next : (settle_in m s).next ≡ (settle s₀).next = subst (λ (k : ℕ). (settle_in m s).next ≡ (settle_in (k + 25) s₀).next) q x in
    let through : Through sets (settle s₀).events a a' = subst (λ (k : ℕ). Through sets (settle_in (k + 25) s₀).events a a') q (y a' (no_turn sets a' s m e)) in
    (sym (ap (λ o. o.next) e) ∙ next, through, λ f. same_store sets a _ (ap (λ o. changes_in o.events) (settle_free s₀ (length s₀.jobs + 25) f)) a' through)
