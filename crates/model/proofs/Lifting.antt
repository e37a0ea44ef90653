-- From every rule to every turn, from turns to settlings, and from calls to lists of calls.
use Rattle.std.proofs.Common.{◌≡◌, ℕ, zero, suc, ◌+◌, true, List, [], ◌∷◌, ◌++◌, length, Some, None, Ok, Option, Result, refl}
use Rattle.model.specs.Calls.{Call, Turn, Settle, Open, Read, Write, File, Withdraw, Answer, OfTurn, OfOpening, OfReading, OfAcceptance, Outcome, Turned, SlipNumbers, refuse, turn, turn_of, settle_next, settle_in, settle, answering, held, opened, read_gives, read_logged, read_by, write_gives, write_logged, write_by, filed, file_checked, file_by, withdraw_by, call, after, events_of}
use Rattle.model.specs.Law.{is_idle}
use Rattle.model.specs.Logs.{Log, find, lowest, changed, at}
use Rattle.model.specs.Rules.{JobState, CorrectionState, State, Event, effect, happens}
use Rattle.model.specs.declared.Refusal.{Refusal}
use Rattle.model.specs.declared.Refusal.TheVariants.{NoSuchJob}
use Rattle.model.specs.declared.Rule.{Rule}
use Rattle.model.specs.declared.Step.{Step}
use Rattle.model.proofs.Basics.{by_cond}
use Rattle.model.proofs.Cases.{Facts, ruled, turn-cases}

-- What holds of a refusal, of a turn by no rule and of every rule holds of every turn.
module _ (s : State) (j : ℕ) (Q : Outcome Turned → Type 0) (refused : Q (refuse s NoSuchJob)) (idle : Q (record { next = s; answer = Ok None; events = [] })) (rule : (b : JobState) → at s.jobs j ≡ Some b → (st : Step) (c : ℕ) (r : Rule) → Facts s j b st c r → Q (ruled s j b st c r)) where
  pub turn-any : Q (turn s j)
  turn-any = of_job (at s.jobs j) refl
    where
      of_job : (o : Option JobState) → at s.jobs j ≡ o → Q (turn_of s j o)
      of_job None e = refused
      of_job (Some b) e = turn-cases s j b Q (λ r. idle) (rule b e)

-- What holds of every call that says it did nothing, and of each that is carried out, holds of every call.
module _ (s : State) (Q : Call → Outcome Answer → Type 0)
    (idle : (c : Call) (a : Answer) → is_idle a ≡ true → Q c (record { next = s; answer = a; events = [] }))
    (rule : (j : ℕ) (b : JobState) → at s.jobs j ≡ Some b → (st : Step) (c : ℕ) (r : Rule) → Facts s j b st c r → Q (Turn j) (answering OfTurn (ruled s j b st c r)))
    (settles : Q Settle (call s Settle))
    (opens : Q Open (answering OfOpening (opened s)))
    (reads : (slip : SlipNumbers) (cell : ℕ) (f : CorrectionState) (number : ℕ) (log : Log) → held s slip ≡ Some f → Q (Read slip cell) (answering OfReading (read_gives s slip.correction f cell number log)))
    (writes : (slip : SlipNumbers) (cell number : ℕ) (f : CorrectionState) → held s slip ≡ Some f → Q (Write slip cell number) (answering OfAcceptance (write_gives s slip.correction f cell number)))
    (files : (slip : SlipNumbers) (f : CorrectionState) → held s slip ≡ Some f → Q (File slip) (answering OfAcceptance (filed s slip.correction f)))
    (withdraws : (slip : SlipNumbers) (f : CorrectionState) → held s slip ≡ Some f → Q (Withdraw slip) (answering OfAcceptance (withdraw_by s slip.correction (Some f))))
  where
    abbrev Reading : SlipNumbers → ℕ → Outcome (Result ℕ Refusal) → Type 0
    Reading slip cell o = Q (Read slip cell) (answering OfReading o)

    abbrev Writing : SlipNumbers → ℕ → ℕ → Outcome (Result (Unit {0}) Refusal) → Type 0
    Writing slip cell number o = Q (Write slip cell number) (answering OfAcceptance o)

    read-logged : (slip : SlipNumbers) (cell : ℕ) (f : CorrectionState) → held s slip ≡ Some f → (w r : Option ℕ) → Reading slip cell (read_logged s slip.correction f cell w r)
    read-logged slip cell f h (Some n) r = reads slip cell f n f.reads h
    read-logged slip cell f h None (Some n) = reads slip cell f n f.reads h
    read-logged slip cell f h None None = by_cond (Reading slip cell) _ _ _ (λ t. reads slip cell f _ _ h) (λ t. idle _ _ refl)

    read-held : (slip : SlipNumbers) (cell : ℕ) (o : Option CorrectionState) → held s slip ≡ o → Reading slip cell (read_by s slip.correction cell o)
    read-held slip cell None h = idle _ _ refl
    read-held slip cell (Some f) h = by_cond (Reading slip cell) _ _ _ (λ t. read-logged slip cell f h (find f.writes cell) (find f.reads cell)) (λ t. idle _ _ refl)

    write-logged : (slip : SlipNumbers) (cell number : ℕ) (f : CorrectionState) → held s slip ≡ Some f → (w : Option ℕ) → Writing slip cell number (write_logged s slip.correction f cell number w)
    write-logged slip cell number f h (Some n) = writes slip cell number f h
    write-logged slip cell number f h None = by_cond (Writing slip cell number) _ _ _ (λ t. writes slip cell number f h) (λ t. idle _ _ refl)

    write-held : (slip : SlipNumbers) (cell number : ℕ) (o : Option CorrectionState) → held s slip ≡ o → Writing slip cell number (write_by s slip.correction cell number o)
    write-held slip cell number None h = idle _ _ refl
    write-held slip cell number (Some f) h = by_cond (Writing slip cell number) _ _ _ (λ t. write-logged slip cell number f h (find f.writes cell)) (λ t. idle _ _ refl)

    file-checked : (slip : SlipNumbers) (f : CorrectionState) → held s slip ≡ Some f → (r d : Option ℕ) → Q (File slip) (answering OfAcceptance (file_checked s slip.correction f r d))
    file-checked slip f h (Some holder) d = idle _ _ refl
    file-checked slip f h None (Some cell) = idle _ _ refl
    file-checked slip f h None None = files slip f h

    file-held : (slip : SlipNumbers) (o : Option CorrectionState) → held s slip ≡ o → Q (File slip) (answering OfAcceptance (file_by s slip.correction o))
    file-held slip None h = idle _ _ refl
    file-held slip (Some f) h = file-checked slip f h s.right (lowest (changed s.cells) f.reads)

    withdraw-held : (slip : SlipNumbers) (o : Option CorrectionState) → held s slip ≡ o → Q (Withdraw slip) (answering OfAcceptance (withdraw_by s slip.correction o))
    withdraw-held slip None h = idle _ _ refl
    withdraw-held slip (Some f) h = withdraws slip f h

    pub call-any : (c : Call) → Q c (call s c)
    call-any (Turn j) = turn-any s j (λ o. Q (Turn j) (answering OfTurn o)) (idle _ _ refl) (idle _ _ refl) (rule j)
    call-any Settle = settles
    call-any Open = by_cond (λ (o : Outcome (Result SlipNumbers Refusal)). Q Open (answering OfOpening o)) _ _ _ (λ t. opens) (λ t. idle _ _ refl)
    call-any (Read slip cell) = read-held slip cell (held s slip) refl
    call-any (Write slip cell number) = write-held slip cell number (held s slip) refl
    call-any (File slip) = file-held slip (held s slip) refl
    call-any (Withdraw slip) = withdraw-held slip (held s slip) refl

-- A relation of the run before, the run after and what happened, which chains.
module _ (K : State → State → List Event → Type 0) (none : (s : State) → K s s []) (chain : (s t u : State) (xs ys : List Event) → K s t xs → K t u ys → K s u (xs ++ ys)) where
  pub settle-any : ((s : State) (j : ℕ) → K s (turn s j).next (turn s j).events) → (n : ℕ) (s : State) → K s (settle_in n s).next (settle_in n s).events
  settle-any step zero s = none s
  settle-any step (suc n) s = by_right s.right (λ t. settle-any step n t)
    where
      by_right : (o : Option ℕ) → ((t : State) → K t (settle_in n t).next (settle_in n t).events) → K s (settle_next o s (λ t. settle_in n t)).next (settle_next o s (λ t. settle_in n t)).events
      by_right None rest = none s
      by_right (Some h) rest = chain s (turn s h).next _ (turn s h).events _ (step s h) (rest (turn s h).next)

  -- What every rule does, every turn does, and a settling.
  module _ (rule : (s : State) (j : ℕ) (b : JobState) (st : Step) (c : ℕ) (r : Rule) → K s (effect s j b st c r) (happens s j b c r)) where
    turn-by-rule : (s : State) (j : ℕ) → K s (turn s j).next (turn s j).events
    turn-by-rule s j = turn-any s j (λ o. K s o.next o.events) (none s) (none s) (λ b e st c r f. rule s j b st c r)

    pub settle-by-rule : (s : State) → K s (settle s).next (settle s).events
    settle-by-rule s = settle-any turn-by-rule (length s.jobs + 25) s

  pub calls-any : ((s : State) (c : Call) → K s (call s c).next (call s c).events) → (calls : List Call) (s : State) → K s (after s calls) (events_of s calls)
  calls-any step [] s = none s
  calls-any step (c ∷ calls) s = chain s (call s c).next _ (call s c).events _ (step s c) (calls-any step calls (call s c).next)
