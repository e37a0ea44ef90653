-- What an intake's roster holds, and what becomes of it.
use Rattle.std.proofs.Common.{◌≡◌, ℕ, ◌^◌, ◌<◌, true, not, eqb, leb, List, [], ◌∷◌, ◌++◌, map, None, refl, ap, ◌∙◌, subst, arith}
use Rattle.std.proofs.lemmas.List.{length-map}
use Rattle.std.proofs.lemmas.Bool.{and_parts, and_from, eqb-true, leb-false, not-true}
use Rattle.job.specs.Jobs.{job_of}
use Rattle.job.specs.declared.job.Job.{Job}
use Rattle.job.proofs.Placing.{passes}
use Rattle.model.specs.Intake.{admission_fault, new_job, fault_if, fault}
use Rattle.model.specs.Law.{Admissible, WellFormed}
use Rattle.model.specs.Logs.{Log}
use Rattle.model.specs.Rules.{JobState}
use Rattle.model.specs.Steps.{no_registers}
use Rattle.model.specs.declared.Refusal.TheVariants.{TooManyJobs}
use Rattle.model.specs.declared.Stage.{Stage}
use Rattle.model.specs.declared.Stage.TheVariants.{Start}
use Rattle.model.specs.declared.Step.{Step}
use Rattle.model.proofs.Admission.{neither, not_bad, suffices}
use Rattle.model.proofs.Basics.{zero_one, at_map}
use Rattle.table.specs.Intakes.{program_of, intake_of}
use Rattle.table.specs.Shape.{is_start, is_empty, same_numbers, is_new, all_new}
use Rattle.table.specs.declared.roster.Roster.{Roster}

-- A job that has had no turn is as it was admitted.
started_not : (s : Stage) → is_start s ≡ true → s ≡ Start
started_not Start e = refl
started_not stage e = zero_one (cc)

nothing_in : (log : Log) → is_empty log ≡ true → log ≡ []
nothing_in [] e = refl
nothing_in (x ∷ log) e = zero_one (cc)

equal_numbers : (xs ys : List ℕ) → same_numbers xs ys ≡ true → xs ≡ ys
equal_numbers [] [] e = refl
equal_numbers [] (y ∷ ys) e = zero_one (cc)
equal_numbers (x ∷ xs) [] e = zero_one (cc)
equal_numbers (x ∷ xs) (y ∷ ys) e =
    let h = and_parts (eqb x y) (same_numbers xs ys) e in
    ap (λ z. z ∷ xs) (eqb-true x y h.0) ∙ ap (λ zs. y ∷ zs) (equal_numbers xs ys h.1)

new_is : (b : JobState) → is_new b ≡ true → b ≡ new_job b.program
new_is b e =
    let h = and_parts (is_start b.stage) _ e in
    let r = and_parts (same_numbers b.registers no_registers) _ h.1 in
    let l = and_parts (is_empty b.reads) _ r.1 in
    let w = and_parts (is_empty b.writes) _ l.1 in
    let m = and_parts (not b.marked) (eqb b.starts 0) w.1 in
    λ n. record b {
      stage = started_not b.stage h.0 n;
      registers = equal_numbers b.registers no_registers r.0 n;
      reads = nothing_in b.reads l.0 n;
      writes = nothing_in b.writes w.0 n;
      marked = not-true b.marked m.0 n;
      starts = eqb-true b.starts 0 m.1 n;
    }

pub as_admitted : (bs : List Job) → all_new bs ≡ true → map job_of bs ≡ map new_job (map program_of bs)
as_admitted [] e = refl
as_admitted (b ∷ bs) e =
    let h = and_parts (is_new (job_of b)) (all_new bs) e in
    ap (λ z. z ∷ map job_of bs) (new_is (job_of b) h.0) ∙ ap (λ zs. new_job (program_of b) ∷ zs) (as_admitted bs h.1)

-- One job more.
all_new_push : (bs : List Job) (b : Job) → all_new bs ≡ true → is_new (job_of b) ≡ true → all_new (bs ++ b ∷ []) ≡ true
all_new_push [] b e n = and_from (is_new (job_of b)) true n refl
all_new_push (x ∷ bs) b e n =
    let h = and_parts (is_new (job_of x)) (all_new bs) e in
    and_from (is_new (job_of x)) (all_new (bs ++ b ∷ [])) h.0 (all_new_push bs b h.1 n)

pub still_new : (jobs : List Job) (b : Job) (steps : List Step) → job_of b ≡ new_job steps → all_new jobs ≡ true → all_new (jobs ++ b ∷ []) ≡ true
still_new jobs b steps e a = all_new_push jobs b a (ap is_new e)

pub room_for : (jobs count : ℕ) (steps : List Step) → admission_fault jobs count steps ≡ None → jobs < 16
room_for jobs count steps e = omega (arith, leb-false 16 jobs (not_bad (leb 16 jobs) (fault TooManyJobs 0 0) (neither (fault_if (leb 16 jobs) (fault TooManyJobs 0 0)) _ e).0))

-- The programs are what the law asks for.
pub well_formed_lem : (C : List ℕ) (r : Roster) → Admissible (intake_of C r)
well_formed_lem C r =
    record {
      few_jobs = omega (arith, length-map r.jobs.items program_of, r.few_jobs);
      well_formed = λ j program e.
          let x = at_map program_of r.jobs.items j program e in
          subst WellFormed x.2 (suffices 0 (2 ^ 64) (program_of x.0) (passes (program_of x.0) x.0.runnable));
    }
