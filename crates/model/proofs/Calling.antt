-- Every call, and every list of calls, keeps what holds of a run.
use Rattle.std.proofs.Common.{ℕ, ◌+◌, Bool, List, [], ◌∷◌, ◌++◌, length, refl, subst, arith}
use Rattle.model.specs.Logs.{foldl}
use Rattle.model.specs.Rules.{State, Event}
use Rattle.model.specs.Calls.{Call, Turn, Settle, Open, Read, Write, File, Withdraw, held, call, after, events_of}
use Rattle.model.specs.Law.{is_taking, is_setting}
use Rattle.model.specs.declared.Step.{Step}
use Rattle.model.proofs.Acts.{turn_keeps}
use Rattle.model.proofs.Basics.{count-append}
use Rattle.model.proofs.Corrections.{open-keeps, read_keeps, write_keeps, file-keeps, withdraw-keeps}
use Rattle.model.proofs.Invariant.{Inv, Fair, Kept, unchanged}
use Rattle.model.proofs.Lifting.{settle-any, calls-any}
use Rattle.model.proofs.Views.{View, advance, advance-append, stir}

fair-append : (j : ℕ) (acc : Bool) (xs ys : List Event) → Fair j acc xs → Fair j (foldl (stir j) acc xs) ys → Fair j acc (xs ++ ys)
fair-append j acc [] ys p q = q
fair-append j acc (x ∷ xs) ys p q = (p.0, fair-append j (stir j acc x) xs ys p.1 q)

module _ (programs : ℕ → List Step) (C₀ : List ℕ) where
  abbrev Keeps : State → State → List Event → Type 0
  Keeps s t es = (v : View) → Inv programs C₀ s v → Kept programs C₀ v s t es

  keeps-none : (s : State) → Keeps s s []
  keeps-none s v I = unchanged programs C₀ s v I

  keeps-both : (s t u : State) (xs ys : List Event) → Keeps s t xs → Keeps t u ys → Keeps s u (xs ++ ys)
  keeps-both s t u xs ys first second v I =
      let p = first v I in
      let q = second (advance v xs) p.inv in
      record {
        inv = subst (Inv programs C₀ u) (advance-append v xs ys) q.inv;
        fair = λ j. fair-append j (v.stirred j) xs ys (p.fair j) (q.fair j);
        spends = omega (arith, p.spends, q.spends, count-append is_taking xs ys, count-append is_setting xs ys);
      }

  pub call-keeps : (s : State) (c : Call) → Keeps s (call s c).next (call s c).events
  call-keeps s (Turn j) v I = turn_keeps programs C₀ s v I j
  call-keeps s Settle v I = settle-any Keeps keeps-none keeps-both (λ s j v I. turn_keeps programs C₀ s v I j) (length s.jobs + 25) s v I
  call-keeps s Open v I = open-keeps programs C₀ s v I
  call-keeps s (Read slip c) v I = read_keeps programs C₀ s v I slip c (held s slip) refl
  call-keeps s (Write slip c w) v I = write_keeps programs C₀ s v I slip c w (held s slip) refl
  call-keeps s (File slip) v I = file-keeps programs C₀ s v I slip (held s slip) refl
  call-keeps s (Withdraw slip) v I = withdraw-keeps programs C₀ s v I slip (held s slip) refl

  pub calls-keep : (calls : List Call) (s : State) → Keeps s (after s calls) (events_of s calls)
  calls-keep = calls-any Keeps keeps-none keeps-both call-keeps
