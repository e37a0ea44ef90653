-- What a job's type says of the step at which it stands.
use Rattle.std.proofs.Common.{◌≡◌, ℕ, suc, ◌+◌, ◌^◌, ◌<◌, ◌≤◌, true, false, not, ◌&&◌, ltb, leb, List, length, get_or, is_some, IfOk, OnOk, Ok, Result, Some, None, Option, sym, refl, ap, ◌∙◌, subst, arith}
use Rattle.std.specs.List.{slice_get}
use Rattle.std.proofs.lemmas.Option.{slice_get-get_or}
use Rattle.std.proofs.lemmas.Bool.{and_parts, and_from, ltb-true, ltb-false, leb-true, lt-ltb, le-leb}
use Rattle.model.specs.Logs.{put}
use Rattle.model.specs.Logs.{Log as Entries}
use Rattle.cell_log.specs.Rows.{entries_of}
use Rattle.cell_log.specs.Both.{FoundIn}
use Rattle.cell_log.specs.declared.both.Logs.{Logs}
use Rattle.cell_log.specs.declared.both.Reading.{Reading}
use Rattle.cell_log.specs.declared.both.Found.{Found}
use Rattle.cell_log.specs.declared.both.Found.TheVariants.{InWrites, InReads, InStore}
use Rattle.model.proofs.LogLaws.{length-put_le}
use Rattle.model.specs.Steps.{following}
use Rattle.model.specs.Rules.{JobState, place_of, step_or, step_of}
use Rattle.model.specs.Intake.{fault_if, fault, bad_register, step_fault, steps_fault, bad_count, stops, admission_fault}
use Rattle.model.specs.Law.{WellFormed}
use Rattle.model.specs.declared.Refusal.{Refusal}
use Rattle.model.specs.declared.Refusal.TheVariants.{TooManyJobs, StepCount, NoSuchRegister}
use Rattle.model.specs.declared.Step.{Step}
use Rattle.model.specs.declared.Step.TheVariants.{Read, Write, Load, Add, Subtract, JumpIfLess}
use Rattle.model.specs.declared.Stage.TheVariants.{At}
use Rattle.model.proofs.Basics.{zero_one}
use Rattle.model.proofs.Admission.{neither, not_bad, no_fault, suffices}
use Rattle.model.proofs.Follow.{step-at, goes_on}
use Rattle.job.specs.Moves.{Makes}
use Rattle.job.specs.Shape.{runnable, placed}

-- The registers that a step names are there.
abbrev pub Registers : Step → Type 0
Registers (Read r c) = r < 8
Registers (Write c r) = r < 8
Registers (Load r v) = r < 8
Registers (Add r q) = (r < 8) × (q < 8)
Registers (Subtract r q) = (r < 8) × (q < 8)
Registers (JumpIfLess r q t) = (r < 8) × (q < 8)
Registers st = Unit {0}

register_below : (n field r : ℕ) → bad_register n field r ≡ None → r < 8
register_below n field r e = omega (arith, ltb-false 7 r (not_bad (ltb 7 r) (fault NoSuchRegister n field) e))

registers_below : (count len n : ℕ) (st : Step) → step_fault count len n st ≡ None → Registers st
registers_below count len n (Read r c) e = register_below n 1 r (neither (bad_register n 1 r) _ e).0
registers_below count len n (Write c r) e = register_below n 2 r (neither (bad_register n 2 r) _ e).0
registers_below count len n (Load r v) e = register_below n 1 r e
registers_below count len n (Add r q) e = let x = neither (bad_register n 1 r) _ e in (register_below n 1 r x.0, register_below n 2 q x.1)
registers_below count len n (Subtract r q) e = let x = neither (bad_register n 1 r) _ e in (register_below n 1 r x.0, register_below n 2 q x.1)
registers_below count len n (JumpIfLess r q t) e =
    let x = neither (bad_register n 1 r) _ e in
    (register_below n 1 r x.0, register_below n 2 q (neither (bad_register n 2 q) _ x.1).0)
registers_below count len n st e = tt

none_there : {A : Type 0} (o : Option A) → not (is_some o) ≡ true → o ≡ None
none_there None e = refl
none_there (Some x) e = zero_one (cc)

pub passes : (program : List Step) → runnable program ≡ true → admission_fault 0 (2 ^ 64) program ≡ None
passes program e = none_there (admission_fault 0 (2 ^ 64) program) e

pub record AtPlace (b : JobState) (n : ℕ) (st : Step) : Type 0 where
  pub within : n < length b.program
  pub few : length b.program ≤ 24
  pub here : slice_get b.program n ≡ Some st
  pub reads : length b.reads ≤ n
  pub writes : length b.writes ≤ n
  pub registers : Registers st
  pub jumps : (r q t : ℕ) → st ≡ JumpIfLess r q t → (suc n < t) × (t ≤ length b.program)
  pub goes : stops st ≡ false → (n < following st b.registers n) × (following st b.registers n < length b.program)

module _ (b : JobState) (ok : runnable b.program ≡ true) (pl : placed b.stage b.program b.reads b.writes ≡ true) where
  formed : WellFormed b.program
  formed = suffices 0 (2 ^ 64) b.program (passes b.program ok)

  pub has_first : 0 < length b.program
  has_first = formed.some_step

  pub at_place : (n : ℕ) (st : Step) → b.stage ≡ At n → step_of b ≡ st → AtPlace b n st
  at_place n st h e =
      let p : placed (At n) b.program b.reads b.writes ≡ true = subst (λ z. placed z b.program b.reads b.writes ≡ true) h pl in
      let x = and_parts (ltb n (length b.program)) (leb (length b.reads) n && leb (length b.writes) n) p in
      let y = and_parts (leb (length b.reads) n) (leb (length b.writes) n) x.1 in
      let lt : n < length b.program = ltb-true n (length b.program) x.0 in
      let f : slice_get b.program n ≡ Some st = step-at b.program n st lt (ap (λ k. step_or (slice_get b.program (place_of k))) (sym h) ∙ e) in
      record {
        within = lt;
        few = formed.few_steps;
        here = f;
        reads = leb-true (length b.reads) n y.0;
        writes = leb-true (length b.writes) n y.1;
        registers = registers_below (2 ^ 64) (length b.program) (1 + n) st (no_fault (2 ^ 64) (length b.program) 1 b.program (steps_fine (passes b.program ok)) n st f);
        jumps = λ r q t k. formed.jumps_forward n r q t (f ∙ ap Some k);
        goes = λ k. goes_on b.program n b.registers st formed f k;
      }
    where
      steps_fine : admission_fault 0 (2 ^ 64) b.program ≡ None → steps_fault (2 ^ 64) (length b.program) 1 b.program ≡ None
      steps_fine e =
          let a = (neither (fault_if (leb 16 0) (fault TooManyJobs 0 0)) _ e).1 in
          let c = (neither (fault_if (bad_count b.program) (fault StepCount 0 0)) _ a).1 in
          (neither (steps_fault (2 ^ 64) (length b.program) 1 b.program) _ c).0

-- What a program's slice has at a place is the step there.
pub step_in : (xs steps : List Step) (n : ℕ) (d : Step) → xs ≡ steps → n < length steps → get_or xs n d ≡ step_or (slice_get steps n)
step_in xs steps n d e h = ap (λ z. get_or z n d) e ∙ sym (ap step_or (slice_get-get_or steps n d h))

pub placed_at : (n : ℕ) (program : List Step) (reads writes : Entries) → n < length program → length reads ≤ n → length writes ≤ n → placed (At n) program reads writes ≡ true
placed_at n program reads writes h r w =
    and_from (ltb n (length program)) (leb (length reads) n && leb (length writes) n) (lt-ltb n (length program) h)
    (and_from (leb (length reads) n) (leb (length writes) n) (le-leb (length reads) n r) (le-leb (length writes) n w))

-- What a reading and a writing leave has at most one entry more.
pub after_reading : (cells : List ℕ) (c n : ℕ) (old new : Logs) (r : Result Reading Refusal) (x : Reading) → r ≡ Ok x → IfOk r (λ y. FoundIn cells c old new y.number y.found) → length (entries_of old.reads) ≤ n → length (entries_of old.writes) ≤ n → (length (entries_of new.reads) ≤ suc n) × (length (entries_of new.writes) ≤ suc n)
after_reading cells c n old new r x e h = after x.number x.found (subst (λ z. IfOk z (λ y. FoundIn cells c old new y.number y.found)) e h)
  where
    after : (v : ℕ) (found : Found) → FoundIn cells c old new v found → length (entries_of old.reads) ≤ n → length (entries_of old.writes) ≤ n → (length (entries_of new.reads) ≤ suc n) × (length (entries_of new.writes) ≤ suc n)
    after v InWrites h r w = rw (h.1) (omega arith, omega arith)
    after v InReads h r w = rw (h.2) (omega arith, omega arith)
    after v InStore h r w =
        let writes = ap (λ z. length (entries_of z)) h.4 in
        (omega (arith, ap length h.3, length-put_le c v (entries_of old.reads)), omega arith)

pub after_writing : (c v n : ℕ) (old new : Logs) (r : Result (Unit {0}) Refusal) (x : Unit {0}) → r ≡ Ok x → OnOk r ((entries_of new.writes ≡ put (entries_of old.writes) c v) × (new.reads ≡ old.reads)) → length (entries_of old.reads) ≤ n → length (entries_of old.writes) ≤ n → (length (entries_of new.reads) ≤ suc n) × (length (entries_of new.writes) ≤ suc n)
after_writing c v n old new r x e h =
    let p = subst (λ z. OnOk z ((entries_of new.writes ≡ put (entries_of old.writes) c v) × (new.reads ≡ old.reads))) e h in
    λ reads writes.
    let same = ap (λ z. length (entries_of z)) p.1 in
    (omega arith, omega (arith, ap length p.0, length-put_le c v (entries_of old.writes)))

-- A step that makes a number is followed by the next one, and its register is there.
pub makes_on : (b : JobState) (n r number : ℕ) (st : Step) → AtPlace b n st → Makes st b.registers r number → (suc n < length b.program) × (r < 8)
makes_on b n r number (Load q v) here m = ((here.goes refl).1, rw (m.0) here.registers)
makes_on b n r number (Add q p) here m = ((here.goes refl).1, rw (m.0) here.registers.0)
makes_on b n r number (Subtract q p) here m = ((here.goes refl).1, rw (m.0) here.registers.0)
makes_on b n r number st here m = absurd m
