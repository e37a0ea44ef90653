-- The commit order is the parties that joined it, each once.
use Rattle.std.proofs.Common.{◌≡◌, ℕ, ◌+◌, List, [], ◌∷◌, ◌++◌, length, Some, sym, refl, ap, ◌∙◌, subst, inl, inr, true, false, Ok}
use Rattle.std.proofs.lemmas.List.{append-nil, append_assoc}
use Rattle.model.specs.Calls.{Call, Turn, File, Answer, OfTurn, OfAcceptance, SlipNumbers, settings_of, turn, call, held, after, events_of}
use Rattle.model.specs.Law.{Member, joined, EachOnce, CommitOrder, is_idle, is_settling, joining, joiners, JoinsLast}
use Rattle.model.specs.Logs.{Log, at}
use Rattle.model.specs.Rules.{JobState, CorrectionState, State, Event, Joined, effect, happens}
use Rattle.model.specs.declared.Party.{Party}
use Rattle.model.specs.declared.Party.TheVariants.{Job, Correction}
use Rattle.model.specs.declared.Rule.{Rule}
use Rattle.model.specs.declared.Rule.TheVariants.{C3}
use Rattle.model.specs.declared.Stage.TheVariants.{Commit, Done}
use Rattle.model.specs.declared.Step.{Step}
use Rattle.model.proofs.Acts.{turn_keeps}
use Rattle.model.proofs.Basics.{member-push, zero_one}
use Rattle.model.proofs.Calling.{call-keeps}
use Rattle.model.proofs.Cases.{Facts}
use Rattle.model.proofs.Corrections.{held_open}
use Rattle.model.proofs.Invariant.{Inv}
use Rattle.model.proofs.Views.{View, advance, advance-append}
use Rattle.model.proofs.Lifting.{turn-any, settle-any, settle-by-rule, call-any, calls-any}

joined-append : (xs ys : List Event) → joined (xs ++ ys) ≡ joined xs ++ joined ys
joined-append [] ys = refl
joined-append (Joined p ∷ xs) ys = ap (λ (ps : List Party). p ∷ ps) (joined-append xs ys)
joined-append (e ∷ xs) ys = joined-append xs ys

-- The order grows by who joins.
abbrev Grows : State → State → List Event → Type 0
Grows s t es = t.order ≡ s.order ++ joined es

same_order : (s : State) → s.order ≡ s.order ++ []
same_order s = sym (append-nil s.order)

grows_both : (s t u : State) (xs ys : List Event) → Grows s t xs → Grows t u ys → Grows s u (xs ++ ys)
grows_both s t u xs ys p q =
    q ∙ (ap (λ (ps : List Party). ps ++ joined ys) p ∙ (append_assoc s.order (joined xs) (joined ys) ∙ ap (λ (ps : List Party). s.order ++ ps) (sym (joined-append xs ys))))

rule-grows : (s : State) (j : ℕ) (b : JobState) (st : Step) (c : ℕ) (r : Rule) → Grows s (effect s j b st c r) (happens s j b c r)
rule-grows s j b st c C3 = refl
rule-grows s j b st c r = same_order s

joined-filing : (p : Party) (log : Log) → joined (settings_of p log ++ Joined p ∷ []) ≡ p ∷ []
joined-filing p [] = refl
joined-filing p (e ∷ log) = joined-filing p log

call-grows : (s : State) (c : Call) → Grows s (call s c).next (call s c).events
call-grows s =
    call-any s (λ c o. Grows s o.next o.events) (λ c a e. same_order s) (λ j b e st c r f. rule-grows s j b st c r)
    (settle-by-rule Grows same_order grows_both rule-grows s)
    (same_order s) (λ slip cell f number log h. same_order s) (λ slip cell number f h. same_order s)
    (λ slip f h. ap (λ (ps : List Party). s.order ++ ps) (sym (joined-filing (Correction slip.correction) f.writes)))
    (λ slip f h. same_order s)

order-grows : (calls : List Call) (s : State) → Grows s (after s calls) (events_of s calls)
order-grows = calls-any Grows same_order grows_both call-grows

-- Who joins by a call joins last.
rule-joins : (s : State) (j : ℕ) (b : JobState) (st : Step) (c : ℕ) (r : Rule) → (effect s j b st c r).order ≡ s.order ++ joining r j
rule-joins s j b st c C3 = refl
rule-joins s j b st c r = same_order s

idle-joins : (c : Call) (a : Answer) → is_idle a ≡ true → joiners c a ≡ []
idle-joins (File slip) (OfAcceptance (Ok done)) e = zero_one (cc)
idle-joins (Turn j) (OfTurn (Ok (Some applied))) e = zero_one (cc)
idle-joins c a e = refl

pub joins-last : (s : State) → JoinsLast s
joins-last s =
    call-any s (λ c o. is_settling c ≡ false → o.next.order ≡ s.order ++ joiners c o.answer) (λ c a e q. same_order s ∙ ap (λ (ps : List Party). s.order ++ ps) (sym (idle-joins c a e)))
    (λ j b e st c r f q. rule-joins s j b st c r) (λ q. zero_one (cc)) (λ q. same_order s) (λ slip cell f number log h q. same_order s) (λ slip cell number f h q. same_order s) (λ slip f h q. refl) (λ slip f h q. same_order s)

once-push : (ps : List Party) (p : Party) → EachOnce ps → (Member p ps → ⊥) → EachOnce (ps ++ p ∷ [])
once-push [] p o n = ((λ m. m), tt)
once-push (q ∷ ps) p o n = ((λ m. elim (member-push q p ps m) [ inl k ↦ o.0 k | inr e ↦ n (inl (sym e)) ]), once-push ps p o.1 (λ m. n (inr m)))

-- Who joins stands nowhere in the order yet, since whoever stands there is closed.
module _ (programs : ℕ → List Step) (C₀ : List ℕ) where
  abbrev StaysOnce : State → State → List Event → Type 0
  StaysOnce s t es = (v : View) → Inv programs C₀ s v → EachOnce s.order → Inv programs C₀ t (advance v es) × EachOnce t.order

  once-none : (s : State) → StaysOnce s s []
  once-none s v I o = (I, o)

  once-both : (s t u : State) (xs ys : List Event) → StaysOnce s t xs → StaysOnce t u ys → StaysOnce s u (xs ++ ys)
  once-both s t u xs ys p q v I o =
      let x = p v I o in
      let y = q (advance v xs) x.0 x.1 in
      (subst (Inv programs C₀ u) (advance-append v xs ys) y.0, y.1)

  module _ (s : State) (v : View) (I : Inv programs C₀ s v) (o : EachOnce s.order) where
    job-new : (j : ℕ) (b : JobState) → at s.jobs j ≡ Some b → b.stage ≡ Commit → Member (Job j) s.order → ⊥
    job-new j b e st m =
        let x = I.closed (Job j) m in
        let q : Some x.0 ≡ Some b = sym x.1 ∙ e in
        let r : x.0 ≡ b = cc in
        let bad : Commit ≡ Done = sym st ∙ (ap (λ z. z.stage) (sym r) ∙ x.2) in
        zero_one (cc)

    correction-new : (slip : SlipNumbers) (f : CorrectionState) → held s slip ≡ Some f → Member (Correction slip.correction) s.order → ⊥
    correction-new slip f h m =
        let open-one = held_open s slip f h in
        let x = I.closed (Correction slip.correction) m in
        let q : Some x.0 ≡ Some f = sym x.1 ∙ open-one.0 in
        let r : x.0 ≡ f = cc in
        let bad : true ≡ false = sym (ap (λ z. z.is_open) r ∙ open-one.1) ∙ x.2 in
        zero_one (cc)

    rule-once : (j : ℕ) (b : JobState) → at s.jobs j ≡ Some b → (st : Step) (c : ℕ) (r : Rule) → Facts s j b st c r → EachOnce (effect s j b st c r).order
    rule-once j b e st c C3 f = once-push s.order (Job j) o (job-new j b e f.0)
    rule-once j b e st c r f = o

  turn-once : (s : State) (j : ℕ) → StaysOnce s (turn s j).next (turn s j).events
  turn-once s j v I o = ((turn_keeps programs C₀ s v I j).inv, turn-any s j (λ z. EachOnce z.next.order) o o (rule-once s v I o j))

  call-once : (s : State) (c : Call) → StaysOnce s (call s c).next (call s c).events
  call-once s c v I o = (
    (call-keeps programs C₀ s c v I).inv,
    call-any s (λ c z. EachOnce z.next.order) (λ c a e. o) (rule-once s v I o)
        (settle-any StaysOnce once-none once-both turn-once (length s.jobs + 25) s v I o).1
        o (λ slip cell f number log h. o) (λ slip cell number f h. o)
        (λ slip f h. once-push s.order (Correction slip.correction) o (correction-new s v I o slip f h))
        (λ slip f h. o) c,
  )

  pub commit-order : (s : State) (v : View) → Inv programs C₀ s v → s.order ≡ [] → (calls : List Call) → CommitOrder (after s calls) (events_of s calls)
  commit-order s v I e calls = record {
    as_joined = order-grows calls s ∙ ap (λ (ps : List Party). ps ++ joined (events_of s calls)) e;
    once = (calls-any StaysOnce once-none once-both call-once calls s v I (subst EachOnce (sym e) tt)).1;
  }
