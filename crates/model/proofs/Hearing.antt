-- What a correction read and requested is what its accepted readings and writings say.
use Rattle.std.proofs.Common.{◌≡◌, ℕ, zero, suc, ◌<◌, ◌≤◌, Bool, true, false, cond, eqb, List, [], ◌∷◌, ◌++◌, length, Some, Ok, sym, refl, ap, ◌∙◌, subst, arith, length-append, eqb-true, ne_eqb}
use Rattle.std.proofs.lemmas.List.{append-nil, append_assoc}
use Rattle.model.specs.Calls.{Call, Turn, Settle, Open, Read, Write, File, Withdraw, Answer, OfTurn, OfOpening, OfReading, OfAcceptance, Outcome, SlipNumbers, answering, correction, read_gives, write_gives, filed, withdraw_by, settle, held, call, events_of, answers_of, opened}
use Rattle.model.specs.Law.{is_idle, over, answered, accepted, readings_after, requests_after, ReadAsAnswered}
use Rattle.model.specs.Logs.{put, at, put_at, foldl}
use Rattle.model.specs.Replay.{Request, Reads, Writes}
use Rattle.model.specs.Rules.{JobState, CorrectionState, State, Event, Started, ReadCell, WroteCell, happens}
use Rattle.model.specs.declared.Party.TheVariants.{Correction}
use Rattle.model.specs.declared.Rule.{Rule}
use Rattle.model.specs.declared.Rule.TheVariants.{S1}
use Rattle.model.proofs.Basics.{by_bool, zero_one, foldl-append, length-put}
use Rattle.model.proofs.Cases.{ruled}
use Rattle.model.proofs.Corrections.{held_open}
use Rattle.model.proofs.Lifting.{settle-by-rule, call-any}
use Rattle.model.proofs.Uncorrected.{rule-corrects, settling-corrects}
use Rattle.model.proofs.Views.{filing_readings, filing_requested}

-- What is there has a number of at most so many.
at-within : {A : Type 0} (xs : List A) (k : ℕ) (x : A) → at xs k ≡ Some x → k ≤ length xs
at-within xs zero x e = zero_one (cc)
at-within [] (suc i) x e = zero_one (cc)
at-within (y ∷ xs) (suc zero) x e = omega arith
at-within (y ∷ xs) (suc (suc i)) x e = omega (arith, at-within xs (suc i) x e)

-- What is heard of correction k: its opening clears it, jobs and filings leave it, and a reading or writing adds what the
-- answer says.
record Hearing (k : ℕ) (A : Type 0) : Type 0 where
  after : List A → Event → List A
  own : Call → Answer → List A
  opening : (n : ℕ) (acc : List A) → after acc (Started (Correction n)) ≡ cond (eqb k n) [] acc
  reading : (slip : SlipNumbers) (cell number : ℕ) (acc : List A) → after acc (ReadCell (Correction slip.correction) cell number) ≡ acc ++ own (Read slip cell) (OfReading (Ok number))
  writing : (slip : SlipNumbers) (cell number : ℕ) (acc : List A) → after acc (WroteCell (Correction slip.correction) cell number) ≡ acc ++ own (Write slip cell number) (OfAcceptance (Ok tt))
  read-other : (slip : SlipNumbers) (cell number : ℕ) → eqb k slip.correction ≡ false → own (Read slip cell) (OfReading (Ok number)) ≡ []
  write-other : (slip : SlipNumbers) (cell number : ℕ) → eqb k slip.correction ≡ false → own (Write slip cell number) (OfAcceptance (Ok tt)) ≡ []
  idle : (c : Call) (a : Answer) → is_idle a ≡ true → own c a ≡ []
  turning : (j : ℕ) (a : Answer) → own (Turn j) a ≡ []
  settling : (a : Answer) → own Settle a ≡ []
  opened : (a : Answer) → own Open a ≡ []
  filing : (slip : SlipNumbers) (a : Answer) → own (File slip) a ≡ []
  withdrawing : (slip : SlipNumbers) (a : Answer) → own (Withdraw slip) a ≡ []
  rules : (s : State) (j : ℕ) (b : JobState) (c : ℕ) (r : Rule) (acc : List A) → foldl after acc (happens s j b c r) ≡ acc
  files : (s : State) (slip : SlipNumbers) (f : CorrectionState) (acc : List A) → foldl after acc (filed s slip.correction f).events ≡ acc

module _ (k : ℕ) (A : Type 0) (h : Hearing k A) where
  abbrev heard : List A → List Event → List A
  heard acc es = foldl h.after acc es

  -- A thing is heard once the correction is open; before, nothing was.
  abbrev Hears : State → Call → Outcome Answer → Type 0
  Hears s c o = (acc : List A) → (length s.corrections < k → acc ≡ []) → (heard acc o.events ≡ acc ++ h.own c o.answer) × (length o.next.corrections < k → heard acc o.events ≡ [])

  module _ (s : State) where
    -- Where nothing is heard.
    silent : (c : Call) (o : Outcome Answer) → ((acc : List A) → heard acc o.events ≡ acc) → h.own c o.answer ≡ [] → length o.next.corrections ≡ length s.corrections → Hears s c o
    silent c o e n l acc u = (e acc ∙ (sym (append-nil acc) ∙ ap (λ (xs : List A). acc ++ xs) (sym n)), λ g. e acc ∙ u (subst (λ (m : ℕ). m < k) l g))

    same_length : (slip : SlipNumbers) (f : CorrectionState) → length (put_at s.corrections slip.correction f) ≡ length s.corrections
    same_length slip f = length-put s.corrections slip.correction f

    -- A correction that is there has another number than one that is not.
    other : (slip : SlipNumbers) (f : CorrectionState) → held s slip ≡ Some f → length s.corrections < k → eqb k slip.correction ≡ false
    other slip f g l = ne_eqb k slip.correction (λ q. let within = at-within s.corrections slip.correction f (held_open s slip f g).0 in absurd (omega arith))

    -- One thing is heard, where it is of this correction.
    adds : (c : Call) (o : Outcome Answer) (slip : SlipNumbers) (f : CorrectionState) → held s slip ≡ Some f → ((acc : List A) → heard acc o.events ≡ acc ++ h.own c o.answer) →
        (eqb k slip.correction ≡ false → h.own c o.answer ≡ []) → length o.next.corrections ≡ length s.corrections → Hears s c o
    adds c o slip f g e n l acc u = (
      e acc,
      λ m.
          let gone : length s.corrections < k = subst (λ (x : ℕ). x < k) l m in
          e acc ∙ (ap (λ (xs : List A). acc ++ xs) (n (other slip f g gone)) ∙ (append-nil acc ∙ u gone)),
    )

    opens : Hears s Open (answering OfOpening (opened s))
    opens acc u =
        let n : ℕ = suc (length s.corrections) in
        let l = length-append s.corrections (correction true [] [] ∷ []) in
        let none = h.opened (OfOpening (opened s).answer) in
        by_bool (eqb k n)
        (λ t.
        let q : k ≡ n = eqb-true k n t in
        let clear : heard acc (opened s).events ≡ [] = h.opening n acc ∙ ap (λ b. cond b [] acc) t in
        (clear ∙ (sym (u (omega arith)) ∙ (sym (append-nil acc) ∙ ap (λ (xs : List A). acc ++ xs) (sym none))), λ g. clear))
        (λ t.
        let same : heard acc (opened s).events ≡ acc = h.opening n acc ∙ ap (λ b. cond b [] acc) t in
        (same ∙ (sym (append-nil acc) ∙ ap (λ (xs : List A). acc ++ xs) (sym none)), λ g. same ∙ u (omega arith)))

  -- In a settling nothing is heard.
  settle-silent : (s : State) (acc : List A) → heard acc (settle s).events ≡ acc
  settle-silent =
      settle-by-rule (λ s t es. (acc : List A) → heard acc es ≡ acc) (λ s acc. refl)
      (λ s t u xs ys p q acc. foldl-append h.after acc xs ys ∙ (ap (λ a. heard a ys) (p acc) ∙ q acc)) (λ s j b st c r. h.rules s j b c r)

  call-hears : (s : State) (c : Call) → Hears s c (call s c)
  call-hears s =
      call-any s (Hears s) (λ c a e. silent s c (record { next = s; answer = a; events = [] }) (λ acc. refl) (h.idle c a e) refl)
      (λ j b e st c r f. silent s (Turn j) (answering OfTurn (ruled s j b st c r)) (h.rules s j b c r) (h.turning j _) (ap (λ (fs : List CorrectionState). length fs) (rule-corrects s j b st c r)))
      (silent s Settle (call s Settle) (settle-silent s) (h.settling _) (ap (λ (fs : List CorrectionState). length fs) (settling-corrects s)))
      (opens s)
      (λ slip cell f number log g. adds s (Read slip cell) (answering OfReading (read_gives s slip.correction f cell number log)) slip f g (h.reading slip cell number) (h.read-other slip cell number) (same_length s slip (correction true log f.writes)))
      (λ slip cell number f g. adds s (Write slip cell number) (answering OfAcceptance (write_gives s slip.correction f cell number)) slip f g (h.writing slip cell number) (h.write-other slip cell number) (same_length s slip (correction true f.reads (put f.writes cell number))))
      (λ slip f g. silent s (File slip) (answering OfAcceptance (filed s slip.correction f)) (h.files s slip f) (h.filing slip _) (same_length s slip (correction false f.reads f.writes)))
      (λ slip f g. silent s (Withdraw slip) (answering OfAcceptance (withdraw_by s slip.correction (Some f))) (λ acc. refl) (h.withdrawing slip _) (same_length s slip (correction false f.reads f.writes)))

  all-heard : (calls : List Call) (s : State) (acc : List A) → (length s.corrections < k → acc ≡ []) → heard acc (events_of s calls) ≡ acc ++ over h.own calls (answers_of s calls)
  all-heard [] s acc u = sym (append-nil acc)
  all-heard (c ∷ calls) s acc u =
      let one = call-hears s c acc u in
      let t : State = (call s c).next in
      let later : List A = over h.own calls (answers_of t calls) in
      foldl-append h.after acc (call s c).events (events_of t calls)
      ∙ (all-heard calls t (heard acc (call s c).events) one.1
      ∙ (ap (λ (xs : List A). xs ++ later) one.0 ∙ append_assoc acc (h.own c (call s c).answer) later))

-- The numbers, and the requests.
added : {A : Type 0} (acc xs : List A) (b : Bool) → cond b (acc ++ xs) acc ≡ acc ++ cond b xs []
added acc xs true = refl
added acc xs false = sym (append-nil acc)

dropped : {A : Type 0} (xs : List A) (b : Bool) → b ≡ false → cond b xs [] ≡ []
dropped xs b e = ap (λ t. cond t xs []) e

numbers : (k : ℕ) → Hearing k ℕ
numbers k = record {
  after = readings_after (Correction k);
  own = answered k;
  opening = λ n acc. refl;
  reading = λ slip cell number acc. added acc (number ∷ []) (eqb k slip.correction);
  writing = λ slip cell number acc. sym (append-nil acc);
  read-other = λ slip cell number e. dropped (number ∷ []) (eqb k slip.correction) e;
  write-other = λ slip cell number e. refl;
  idle = silent-idle;
  turning = λ j a. refl;
  settling = λ a. refl;
  opened = λ a. refl;
  filing = λ slip a. refl;
  withdrawing = λ slip a. refl;
  rules = silent-rule;
  files = λ s slip f acc. filing_readings slip.correction (Correction k) acc f.writes;
}
  where
    silent-idle : (c : Call) (a : Answer) → is_idle a ≡ true → answered k c a ≡ []
    silent-idle (Read slip cell) (OfReading (Ok n)) e = zero_one (cc)
    silent-idle c a e = refl

    silent-rule : (s : State) (j : ℕ) (b : JobState) (c : ℕ) (r : Rule) (acc : List ℕ) → foldl (readings_after (Correction k)) acc (happens s j b c r) ≡ acc
    silent-rule s j b c S1 acc = refl
    silent-rule s j b c r acc = refl

requests : (k : ℕ) → Hearing k Request
requests k = record {
  after = requests_after k;
  own = accepted k;
  opening = λ n acc. refl;
  reading = λ slip cell number acc. added acc (Reads cell ∷ []) (eqb k slip.correction);
  writing = λ slip cell number acc. added acc (Writes cell number ∷ []) (eqb k slip.correction);
  read-other = λ slip cell number e. dropped (Reads cell ∷ []) (eqb k slip.correction) e;
  write-other = λ slip cell number e. dropped (Writes cell number ∷ []) (eqb k slip.correction) e;
  idle = silent-idle;
  turning = λ j a. refl;
  settling = λ a. refl;
  opened = λ a. refl;
  filing = λ slip a. refl;
  withdrawing = λ slip a. refl;
  rules = silent-rule;
  files = λ s slip f acc. filing_requested slip.correction k acc f.writes;
}
  where
    silent-idle : (c : Call) (a : Answer) → is_idle a ≡ true → accepted k c a ≡ []
    silent-idle (Read slip cell) (OfReading (Ok n)) e = zero_one (cc)
    silent-idle (Write slip cell number) (OfAcceptance (Ok done)) e = zero_one (cc)
    silent-idle c a e = refl

    silent-rule : (s : State) (j : ℕ) (b : JobState) (c : ℕ) (r : Rule) (acc : List Request) → foldl (requests_after k) acc (happens s j b c r) ≡ acc
    silent-rule s j b c S1 acc = refl
    silent-rule s j b c r acc = refl

pub read-as-answered : (s : State) (calls : List Call) → ReadAsAnswered s calls
unfolding numbers requests
read-as-answered s calls k = (all-heard k ℕ (numbers k) calls s [] (λ l. refl), all-heard k Request (requests k) calls s [] (λ l. refl))
