-- What answers, events and states tell of each other, whatever the run.
use Rattle.std.proofs.Common.{◌≡◌, ℕ, ◌<◌, ◌≤◌, Bool, true, false, cond, ◌⊎◌, List, [], ◌∷◌, length, set, Some, None, Ok, Err, Option, Result, nat_lt, sym, refl, ap, ◌∙◌, subst, inl, inr, ltb-false}
use Rattle.std.proofs.lemmas.Bool.{lt-ltb}
use Rattle.model.specs.Calls.{Answer, Read, Write, OfReading, OfAcceptance, Outcome, SlipNumbers, Turned, answering, apply, turn, turn_of, held, read_by, read_logged, write_by, write_logged, call}
use Rattle.model.specs.Law.{Member, is_idle, standing, IdleChangesNothing, JobsRead, ReadInto, stand_in, with_logs_of, ReadsAsJob, WritesAsJob, CorrectionsGoAsJobs}
use Rattle.model.specs.Logs.{find, put, cell_of, value_in, at}
use Rattle.model.specs.Rules.{JobState, CorrectionState, State, Event, ReadCell, WroteCell, step_cell, step_register, if_logged, or_next, with_logs, loaded, logged, effect, happens}
use Rattle.model.specs.Steps.{no_registers, register}
use Rattle.model.specs.declared.Party.{Party}
use Rattle.model.specs.declared.Party.TheVariants.{Job, Correction}
use Rattle.model.specs.declared.Refusal.{Refusal}
use Rattle.model.specs.declared.Refusal.TheVariants.{LogFull}
use Rattle.model.specs.declared.Rule.{Rule}
use Rattle.model.specs.declared.Rule.TheVariants.{R1, R2, R3, W1, W2}
use Rattle.model.specs.declared.Step.{Step}
use Rattle.model.specs.declared.Step.TheVariants as steps
use Rattle.model.proofs.Basics.{by_bool, by_cond, zero_one, at-put-same}
use Rattle.model.proofs.Cases.{AtStep, IsRead, Facts, turn-cases}
use Rattle.model.proofs.Lifting.{call-any}

-- A call that says that it did nothing changes nothing.
pub idle : (s : State) → IdleChangesNothing s
idle s =
    call-any s (λ c o. is_idle o.answer ≡ true → (o.next ≡ s) × (o.events ≡ [])) (λ c a e q. (refl, refl)) (λ j b e st c r f q. zero_one (cc)) (λ q. zero_one (cc)) (λ q. zero_one (cc))
    (λ slip cell f number log h q. zero_one (cc)) (λ slip cell number f h q. zero_one (cc)) (λ slip f h q. zero_one (cc)) (λ slip f h q. zero_one (cc))

-- Which events are no readings.
abbrev is_other : Event → Bool
is_other (ReadCell p cell number) = false
is_other e = true

abbrev all_other : List Event → Bool
all_other [] = true
all_other (e ∷ es) = cond (is_other e) (all_other es) false

none-read : (p : Party) (cell number : ℕ) (es : List Event) → all_other es ≡ true → Member (ReadCell p cell number) es → ⊥
none-read p cell number [] o m = m
none-read p cell number (e ∷ es) o (inl q) = let bad : all_other (ReadCell p cell number ∷ es) ≡ true = subst (λ x. all_other (x ∷ es) ≡ true) (sym q) o in zero_one (cc)
none-read p cell number (e ∷ es) o (inr m) = by_bool (is_other e) (λ t. none-read p cell number es (subst (λ x. cond x (all_other es) false ≡ true) t o) m) (λ t. let bad : false ≡ true = subst (λ x. cond x (all_other es) false ≡ true) t o in zero_one (cc))

-- What a job reads goes into its register.
module _ (s : State) (j : ℕ) (b : JobState) (here : at s.jobs j ≡ Some b) where
  abbrev ReadHere : State → Party → ℕ → ℕ → Type 0
  ReadHere t p cell number = (p ≡ Job j) × ((b' : JobState) × (at t.jobs j ≡ Some b') × ReadInto b b' cell number)

  into : (t : State) (b' : JobState) (st : Step) (c v : ℕ) (p : Party) (cell number : ℕ) → AtStep b st → IsRead st → c ≡ step_cell st → at t.jobs j ≡ Some b' → b'.registers ≡ set b.registers (step_register st) v →
      Member (ReadCell p cell number) (ReadCell (Job j) c v ∷ []) → ReadHere t p cell number
  into t b' st c v p cell number a r q g k (inr m) = absurd m
  into t b' st c v p cell number a r q g k (inl m) =
      let own : p ≡ Job j = cc in
      let same : cell ≡ c = cc in
      let value : number ≡ v = cc in
      let named : cell ≡ r.1 = same ∙ (q ∙ ap step_cell r.2) in (
        own,
        (
          b',
          g,
          record {
            register = r.0;
            at_step = a.1 ∙ (r.2 ∙ ap (steps.Read r.0) (sym named));
            loaded = k ∙ (ap (λ (x : ℕ). set b.registers x v) (ap step_register r.2) ∙ ap (set b.registers r.0) (sym value));
          },
        ),
      )

  by-rule : (st : Step) (c : ℕ) (r : Rule) → Facts s j b st c r → (p : Party) (cell number : ℕ) → Member (ReadCell p cell number) (happens s j b c r) → ReadHere (effect s j b st c r) p cell number
  by-rule st c R1 f p cell number m =
      let v : ℕ = value_in (find b.writes c) in
      into (effect s j b st c R1) (loaded b st v) st c v p cell number f.0 f.1 f.2 (at-put-same s.jobs j b (loaded b st v) here) refl m
  by-rule st c R2 f p cell number m =
      let v : ℕ = value_in (find b.reads c) in
      into (effect s j b st c R2) (loaded b st v) st c v p cell number f.0 f.1 f.2 (at-put-same s.jobs j b (loaded b st v) here) refl m
  by-rule st c R3 f p cell number m =
      let v : ℕ = cell_of s.cells c in
      let b' : JobState = with_logs (loaded b st v) (put b.reads c v) b.writes in
      into (effect s j b st c R3) b' st c v p cell number f.0 f.1 f.2 (at-put-same s.jobs j b b' here) refl m
  by-rule st c r f p cell number m = absurd (none-read p cell number (happens s j b c r) refl m)

  turn-reads : (p : Party) (cell number : ℕ) → Member (ReadCell p cell number) (turn s j).events → ReadHere (turn s j).next p cell number
  turn-reads =
      subst (λ o. (p : Party) (cell number : ℕ) → Member (ReadCell p cell number) (turn_of s j o).events → ReadHere (turn_of s j o).next p cell number) (sym here)
      (turn-cases s j b (λ o. (p : Party) (cell number : ℕ) → Member (ReadCell p cell number) o.events → ReadHere o.next p cell number) (λ r p cell number m. absurd m) by-rule)

pub jobs-read : (s : State) → JobsRead s
jobs-read s j b here = turn-reads s j b here

-- Corrections go as jobs do: by the first of their rules that fits.
module _ (s : State) (slip : SlipNumbers) (f : CorrectionState) (h : held s slip ≡ Some f) (cell : ℕ) (within : cell < length s.cells) where
  inside : {A : Type 0} (x y : A) → cond (nat_lt cell (length s.cells)) x y ≡ x
  inside x y = ap (λ t. cond t x y) (lt-ltb cell (length s.cells) within)

  full : (n : ℕ) → nat_lt n 24 ≡ false → 24 ≤ n
  full n t = ltb-false n 24 t

  abbrev reading : Step
  reading = steps.Read 0 cell

  -- The turn of the stand-in, by what its logs have.
  abbrev read-turn : Option ℕ → Option ℕ → Outcome Turned
  read-turn w r = apply (stand_in s f no_registers reading) 1 (standing f no_registers reading) reading (or_next R1 (if_logged cell w) (or_next R2 (if_logged cell r) (Some (R3, cell))))

  abbrev ReadSo : Outcome Turned → Outcome Answer → Type 0
  ReadSo t o =
      ((o.answer ≡ OfReading (Err LogFull)) × (find f.writes cell ≡ None) × (find f.reads cell ≡ None) × (24 ≤ length f.reads))
      ⊎ ((b : JobState) × (at t.next.jobs 1 ≡ Some b) × (o.answer ≡ OfReading (Ok (register b.registers 0))) × (o.next ≡ with_logs_of s slip.correction b) × (o.events ≡ ReadCell (Correction slip.correction) cell (register b.registers 0) ∷ []))

  read-so : (w r : Option ℕ) → find f.writes cell ≡ w → find f.reads cell ≡ r → ReadSo (read-turn w r) (answering OfReading (read_logged s slip.correction f cell w r))
  read-so (Some n) r e g = inr (loaded (standing f no_registers reading) reading (value_in (find f.writes cell)), refl, ap (λ (v : ℕ). OfReading (Ok v)) (sym (ap value_in e)), refl, ap (λ (v : ℕ). ReadCell (Correction slip.correction) cell v ∷ []) (sym (ap value_in e)))
  read-so None (Some n) e g = inr (loaded (standing f no_registers reading) reading (value_in (find f.reads cell)), refl, ap (λ (v : ℕ). OfReading (Ok v)) (sym (ap value_in g)), refl, ap (λ (v : ℕ). ReadCell (Correction slip.correction) cell v ∷ []) (sym (ap value_in g)))
  read-so None None e g =
      by_cond (λ (o : Outcome (Result ℕ Refusal)). ReadSo (read-turn None None) (answering OfReading o)) (nat_lt (length f.reads) 24) _ _
      (λ t. inr (with_logs (loaded (standing f no_registers reading) reading (cell_of s.cells cell)) (put f.reads cell (cell_of s.cells cell)) f.writes, refl, refl, refl, refl))
      (λ t. inl (refl, e, g, full (length f.reads) t))

  pub reads-as-job : ReadsAsJob s slip f cell
  reads-as-job =
      let is : call s (Read slip cell) ≡ answering OfReading (read_logged s slip.correction f cell (find f.writes cell) (find f.reads cell)) =
      ap (λ o. answering OfReading (read_by s slip.correction cell o)) h ∙ ap (λ o. answering OfReading o) (inside _ _) in
      subst (ReadSo (read-turn (find f.writes cell) (find f.reads cell))) (sym is) (read-so (find f.writes cell) (find f.reads cell) refl refl)

  module _ (number : ℕ) where
    abbrev registers : List ℕ
    registers = set no_registers 0 number

    abbrev writing : Step
    writing = steps.Write cell 0

    abbrev write-turn : Option ℕ → Outcome Turned
    write-turn w = apply (stand_in s f registers writing) 1 (standing f registers writing) writing (or_next W1 (if_logged cell w) (Some (W2, cell)))

    abbrev WriteSo : Outcome Turned → Outcome Answer → Type 0
    WriteSo t o =
        ((o.answer ≡ OfAcceptance (Err LogFull)) × (find f.writes cell ≡ None) × (24 ≤ length f.writes))
        ⊎ ((b : JobState) × (at t.next.jobs 1 ≡ Some b) × (o.answer ≡ OfAcceptance (Ok tt)) × (o.next ≡ with_logs_of s slip.correction b) × (o.events ≡ WroteCell (Correction slip.correction) cell number ∷ []))

    write-so : (w : Option ℕ) → find f.writes cell ≡ w → WriteSo (write-turn w) (answering OfAcceptance (write_logged s slip.correction f cell number w))
    write-so (Some n) e = inr (logged (standing f registers writing) writing cell, refl, refl, refl, refl)
    write-so None e =
        by_cond (λ (o : Outcome (Result (Unit {0}) Refusal)). WriteSo (write-turn None) (answering OfAcceptance o)) (nat_lt (length f.writes) 24) _ _
        (λ t. inr (logged (standing f registers writing) writing cell, refl, refl, refl, refl))
        (λ t. inl (refl, e, full (length f.writes) t))

    pub writes-as-job : WritesAsJob s slip f cell number
    writes-as-job =
        let is : call s (Write slip cell number) ≡ answering OfAcceptance (write_logged s slip.correction f cell number (find f.writes cell)) =
        ap (λ o. answering OfAcceptance (write_by s slip.correction cell number o)) h ∙ ap (λ o. answering OfAcceptance o) (inside _ _) in
        subst (WriteSo (write-turn (find f.writes cell))) (sym is) (write-so (find f.writes cell) refl)

pub go-as-jobs : (s : State) → CorrectionsGoAsJobs s
go-as-jobs s slip f h cell within = (reads-as-job s slip f h cell within, λ number. writes-as-job s slip f h cell within number)
