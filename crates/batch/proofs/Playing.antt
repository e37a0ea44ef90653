-- Turns in a row: the run after them, and how its store comes through.
use Rattle.std.proofs.Common.{◌≡◌, ℕ, zero, suc, ◌+◌, ◌-◌, ◌<◌, true, List, [], ◌∷◌, ◌++◌, length, get_or, drop, replicate, sym, refl, ap, ◌∙◌, subst, arith}
use Rattle.std.proofs.lemmas.List.{append_assoc, at_drop_more}
use Rattle.model.specs.Calls.{Call, Turn, OfTurn, turn, call, after, events_of}
use Rattle.model.specs.Law.{is_idle}
use Rattle.model.specs.Rules.{State}
use Rattle.model.proofs.Answering.{idle}
use Rattle.script.specs.declared.Allotment.{Allotment}
use Rattle.table.specs.Settings.{Through}
use Rattle.table.proofs.Settings.{through_both}
use Rattle.batch.specs.Runs.{turns_of}

pub after-append : (s : State) (xs ys : List Call) → after s (xs ++ ys) ≡ after (after s xs) ys
after-append s [] ys = refl
after-append s (x ∷ xs) ys = after-append (call s x).next xs ys

events-append : (s : State) (xs ys : List Call) → events_of s (xs ++ ys) ≡ events_of s xs ++ events_of (after s xs) ys
events-append s [] ys = refl
events-append s (x ∷ xs) ys = ap (λ es. (call s x).events ++ es) (events-append (call s x).next xs ys) ∙ sym (append_assoc (call s x).events _ _)

-- Calls that come to s' from s over a store a that is b then, and others after them.
module _ (s s' : State) (first rest : List Call) (next : s' ≡ after s first) where
  pub onward : after s' rest ≡ after s (first ++ rest)
  onward = ap (λ z. after z rest) next ∙ sym (after-append s first rest)

  pub through_onward : {S : Type 0} (sets : S → ℕ → ℕ → S → Type 0) (a b t : S) → Through sets (events_of s first) a b → Through sets (events_of s' rest) b t → Through sets (events_of s (first ++ rest)) a t
  through_onward sets a b t x y =
      subst (λ es. Through sets es a t) (sym (events-append s first rest)) (through_both sets (events_of s first) _ a b t x (subst (λ z. Through sets (events_of z rest) b t) next y))

-- One of so many turns, and then the others.
module _ (j n k : ℕ) (l : k < n) (s s' : State) (next : s' ≡ (turn s j).next) where
  split : replicate (n - k) (Turn j) ≡ Turn j ∷ replicate (n - (k + 1)) (Turn j)
  split = let q : n - k ≡ suc (n - (k + 1)) = omega arith in ap (λ (m : ℕ). replicate m (Turn j)) q

  pub turn-more : after s' (replicate (n - (k + 1)) (Turn j)) ≡ after s (replicate (n - k) (Turn j))
  turn-more = ap (λ z. after z (replicate (n - (k + 1)) (Turn j))) next ∙ sym (ap (after s) split)

  pub through_turn : {S : Type 0} (sets : S → ℕ → ℕ → S → Type 0) (a b t : S) → Through sets (turn s j).events a b → Through sets (events_of s' (replicate (n - (k + 1)) (Turn j))) b t →
      Through sets (events_of s (replicate (n - k) (Turn j))) a t
  through_turn sets a b t x y =
      subst (λ cs. Through sets (events_of s cs) a t) (sym split)
      (through_both sets (turn s j).events _ a b t x (subst (λ z. Through sets (events_of z (replicate (n - (k + 1)) (Turn j))) b t) next y))

-- After a turn that applies no rule, any number of turns of that job changes nothing.
module _ (s : State) (j : ℕ) (none : is_idle (OfTurn (turn s j).answer) ≡ true) where
  stays : (turn s j).next ≡ s
  stays = (idle s (Turn j) none).0

  rest_same : (n : ℕ) → after s (replicate n (Turn j)) ≡ s
  rest_same zero = refl
  rest_same (suc n) = ap (λ z. after z (replicate n (Turn j))) stays ∙ rest_same n

  no_events : (n : ℕ) → events_of s (replicate n (Turn j)) ≡ []
  no_events zero = refl
  no_events (suc n) =
      ap (λ es. es ++ events_of (turn s j).next (replicate n (Turn j))) (idle s (Turn j) none).1 ∙ (ap (λ z. events_of z (replicate n (Turn j))) stays ∙ no_events n)

  pub rests : (n : ℕ) → (turn s j).next ≡ after s (replicate n (Turn j))
  rests n = stays ∙ sym (rest_same n)

  pub rests_through : (n : ℕ) → {S : Type 0} (sets : S → ℕ → ℕ → S → Type 0) (a b : S) → b ≡ a → Through sets (events_of s (replicate n (Turn j))) a b
  rests_through n sets a b e = subst (λ es. Through sets es a b) (sym (no_events n)) e

-- The turns of one line, and then those of the others.
pub next-turns : (turns : List Allotment) (k : ℕ) (d : Allotment) → k < length turns → turns_of (drop k turns) ≡ replicate (get_or turns k d).turns (Turn (get_or turns k d).job) ++ turns_of (drop (k + 1) turns)
next-turns turns k d l = at_drop_more turns_of turns k d l
