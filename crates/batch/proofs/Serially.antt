-- The run of a script leaves what the jobs of its commit order leave, one by one.
use Rattle.std.proofs.Common.{◌≡◌, ℕ, zero, suc, ◌+◌, ◌<◌, ◌≤◌, ◌^◌, true, List, [], ◌∷◌, ◌++◌, map, length, replicate, Some, None, Option, sym, refl, ap, ◌∙◌, subst, inl, inr, append_assoc, arith}
use Rattle.std.proofs.lemmas.List.{map-append, length-set}
use Rattle.model.specs.Calls.{Call, Turn, Settle, turn, settle, call, after, events_of, answers_of}
use Rattle.model.specs.Intake.{Intake, new_job, sealed}
use Rattle.model.specs.Law.{Admissible, EachOnce, LawAfter, Member, WellFormed, accepted, over, parts_of, program_or, result}
use Rattle.model.specs.Logs.{at}
use Rattle.model.specs.Replay.{Play, play_job, plays, replayed}
use Rattle.model.specs.Rules.{JobState, State, unmark_in}
use Rattle.model.specs.declared.Party.{Party}
use Rattle.model.specs.declared.Party.TheVariants.{Job}
use Rattle.model.specs.declared.Rule.{Rule}
use Rattle.model.specs.declared.Rule.TheVariants.{C1, C2, C3}
use Rattle.model.specs.declared.Step.{Step}
use Rattle.model.proofs.Admission.{suffices}
use Rattle.model.proofs.Basics.{zero_one, length-put}
use Rattle.model.proofs.Cases.{ruled}
use Rattle.model.proofs.Lifting.{turn-any, settle-any}
use Rattle.model.proofs.Whole.{law}
use Rattle.script.specs.Scripts.{Script, All, Admitted, Within}
use Rattle.script.specs.declared.Allotment.{Allotment}
use Rattle.table.proofs.Rostering.{room_for}
use Rattle.batch.specs.Played.{LeftByJobs, alone, steps_or}
use Rattle.batch.specs.Runs.{turns_of, script_calls, intake_over, run_over}
use Rattle.batch.proofs.Playing.{after-append}

-- By turns and settlings jobs and cells stay as many, and none but jobs join the order.
abbrev pub JobsOnly : List Party → Type 0
JobsOnly order = (jobs : List ℕ) × (order ≡ map Job jobs)

pub record Keeps (s t : State) : Type 0 where
  pub jobs : length t.jobs ≡ length s.jobs
  pub cells : length t.cells ≡ length s.cells
  pub order : JobsOnly s.order → JobsOnly t.order

keeps_none : (s : State) → Keeps s s
keeps_none s = record { jobs = refl; cells = refl; order = λ x. x }

keeps-chain : (s t u : State) → Keeps s t → Keeps t u → Keeps s u
keeps-chain s t u x y = record { jobs = y.jobs ∙ x.jobs; cells = y.cells ∙ x.cells; order = λ o. y.order (x.order o) }

module _ (s : State) (j : ℕ) where
  unmarked : (c : ℕ) (o : Option JobState) → length (unmark_in s.jobs c o) ≡ length s.jobs
  unmarked c None = refl
  unmarked c (Some b) = length-put s.jobs c _

  by_rule : (b : JobState) (st : Step) (c : ℕ) (r : Rule) → Keeps s (ruled s j b st c r).next
  by_rule b st c C1 = record { jobs = unmarked c (at s.jobs c); cells = refl; order = λ o. o }
  by_rule b st c C2 = record { jobs = length-put s.jobs j _; cells = length-set s.cells c _; order = λ o. o }
  by_rule b st c C3 = record { jobs = length-put s.jobs j _; cells = refl; order = λ o. (o.0 ++ j ∷ [], ap (λ ps. ps ++ Job j ∷ []) o.1 ∙ sym (map-append Job o.0 (j ∷ []))) }
  by_rule b st c r = record { jobs = length-put s.jobs j _; cells = refl; order = λ o. o }

  by_turn : Keeps s (turn s j).next
  by_turn = turn-any s j (λ o. Keeps s o.next) (keeps_none s) (keeps_none s) (λ b e st c r f. by_rule b st c r)

by_settle : (s : State) → Keeps s (settle s).next
by_settle s = settle-any (λ t u es. Keeps t u) keeps_none (λ t u v xs ys. keeps-chain t u v) by_turn (length s.jobs + 25) s

-- Turns and settlings alone.
abbrev Own : Call → Type 0
Own (Turn j) = Unit {0}
Own Settle = Unit {0}
Own c = ⊥

by_call : (s : State) (c : Call) → Own c → Keeps s (call s c).next
by_call s (Turn j) own = by_turn s j
by_call s Settle own = by_settle s
by_call s c own = absurd own

by_calls : (s : State) (calls : List Call) → All Own calls → Keeps s (after s calls)
by_calls s [] own = keeps_none s
by_calls s (c ∷ calls) own = keeps-chain s (call s c).next (after s (c ∷ calls)) (by_call s c own.0) (by_calls (call s c).next calls own.1)

-- They ask nothing of a correction.
nothing_asked : (k : ℕ) (s : State) (calls : List Call) → All Own calls → over (accepted k) calls (answers_of s calls) ≡ []
nothing_asked k s [] own = refl
nothing_asked k s (Turn j ∷ calls) own = nothing_asked k (call s (Turn j)).next calls own.1
nothing_asked k s (Settle ∷ calls) own = nothing_asked k (call s Settle).next calls own.1
nothing_asked k s (c ∷ calls) own = absurd own.0

own_turns : (n j : ℕ) (rest : List Call) → All Own rest → All Own (replicate n (Turn j) ++ rest)
own_turns zero j rest own = own
own_turns (suc n) j rest own = (tt, own_turns n j rest own)

own-calls : (turns : List Allotment) (rest : List Call) → All Own rest → All Own (turns_of turns ++ rest)
own-calls [] rest own = own
own-calls (a ∷ turns) rest own =
    subst (All Own) (sym (append_assoc (replicate a.turns (Turn a.job)) (turns_of turns) rest)) (own_turns a.turns a.job (turns_of turns ++ rest) (own-calls turns rest own))

-- The programs of the run that was sealed are those of the intake.
programs_same : (programs : List (List Step)) (j : ℕ) → program_or (at (map new_job programs) j) ≡ steps_or (at programs j)
programs_same programs zero = refl
programs_same [] (suc j) = refl
programs_same (p ∷ programs) (suc zero) = refl
programs_same (p ∷ programs) (suc (suc j)) = programs_same programs (suc j)

-- Of plays that all end, each ends; and a job that ends is one of the intake.
all_end : (ps : List Play) (xs : List Party) (readings : Party → List ℕ) → map result ps ≡ map (λ p. (readings p, true)) xs → All (λ p. p.ended ≡ true) ps
all_end [] xs readings e = tt
all_end (p ∷ ps) [] readings e = zero_one (cc)
all_end (p ∷ ps) (x ∷ xs) readings e =
    let h : result p ≡ (readings x, true) = cc in
    let t : map result ps ≡ map (λ p. (readings p, true)) xs = cc in
    (ap (λ r. r.1) h, all_end ps xs readings t)

few_listed : (programs : List (List Step)) (j : ℕ) (cells : List ℕ) → (play_job (steps_or (at programs j)) cells).ended ≡ true → j ≤ length programs
few_listed programs zero cells e = zero_one (cc)
few_listed [] (suc j) cells e = zero_one (cc)
few_listed (p ∷ programs) (suc zero) cells e = omega arith
few_listed (p ∷ programs) (suc (suc j)) cells e = omega (arith, few_listed programs (suc j) cells e)

pub listed : (programs : List (List Step)) (order : List ℕ) (cells : List ℕ) → length programs ≤ 16 → All (λ p. p.ended ≡ true) (plays (alone programs) (map Job order) cells) → All (λ n. n < 2 ^ 32) order
listed programs [] cells few end = tt
listed programs (j ∷ order) cells few end =
    (omega (arith, few_listed programs j cells end.0), listed programs order (play_job (steps_or (at programs j)) cells).cells few end.1)

jobs_once : (order : List ℕ) → EachOnce (map Job order) → EachOnce order
jobs_once [] h = tt
jobs_once (j ∷ order) h = (λ m. h.0 (found order m), jobs_once order h.1)
  where
    found : (xs : List ℕ) → Member j xs → Member (Job j) (map Job xs)
    found [] m = m
    found (x ∷ xs) m = elim m [
      | inl e ↦ inl (ap Job e)
      | inr n ↦ inr (found xs n)
    ]

-- A script within the bounds has jobs that the law allows.
few_jobs : (count before : ℕ) (jobs : List (List Step)) → before ≤ 16 → Admitted count before jobs → before + length jobs ≤ 16
few_jobs count before [] l h = omega (arith, l)
few_jobs count before (steps ∷ jobs) l h = omega (arith, few_jobs count (suc before) jobs (room_for before count steps h.0) h.1)

each_well : (count before : ℕ) (jobs : List (List Step)) → Admitted count before jobs → (j : ℕ) (program : List Step) → at jobs j ≡ Some program → WellFormed program
each_well count before jobs h zero program e = zero_one (cc)
each_well count before [] h (suc j) program e = zero_one (cc)
each_well count before (steps ∷ jobs) h (suc zero) program e = let q : steps ≡ program = cc in subst WellFormed q (suffices before count steps h.0)
each_well count before (steps ∷ jobs) h (suc (suc j)) program e = each_well count (suc before) jobs h.1 (suc j) program e

module _ (s : Script) (w : Within s) (number : ℕ) (cells : List ℕ) where
  abbrev i : Intake
  i = intake_over number cells s

  pub at_most_16 : length s.jobs ≤ 16
  at_most_16 = omega (arith, few_jobs s.count 0 s.jobs (omega arith) w.jobs)

  admissible : Admissible i
  admissible = record { few_jobs = at_most_16; well_formed = each_well s.count 0 s.jobs w.jobs }

  own : All Own (script_calls s)
  own = own-calls s.turns (Settle ∷ []) (tt, tt)

  pub keeps : Keeps (sealed (intake_over number cells s)) (run_over number cells s)
  keeps = by_calls (sealed i) (script_calls s) own

  lawful : LawAfter (sealed i) (script_calls s)
  lawful = law i admissible (script_calls s)

  pub free : (run_over number cells s).right ≡ None
  free = ap (λ z. z.right) (after-append (sealed i) (turns_of s.turns) (Settle ∷ [])) ∙ (law i admissible (turns_of s.turns)).settles

  parts_same : parts_of (sealed i) (events_of (sealed i) (script_calls s)) ≡ alone s.jobs
  parts_same n = record { programs = λ j. programs_same s.jobs j n; scripts = λ k. ((lawful.read_as_answered k).1 ∙ nothing_asked k (sealed i) (script_calls s) own) n }

  pub one-by-one : LeftByJobs (intake_over number cells s) (run_over number cells s)
  one-by-one =
      let only = keeps.order ([], refl) in
      let serial = lawful.serial free in (
        only.0,
        only.1,
        record {
          once = jobs_once only.0 (subst EachOnce only.1 lawful.commit_order.once);
          end =
              subst (λ ps. All (λ p. p.ended ≡ true) (plays (alone s.jobs) ps i.cells)) only.1
              (subst (λ parts. All (λ p. p.ended ≡ true) (plays parts (run_over number cells s).order i.cells)) parts_same (all_end _ _ _ serial.1));
          leave = sym serial.0 ∙ (ap (λ parts. replayed parts (run_over number cells s).order i.cells) parts_same ∙ ap (λ ps. replayed (alone s.jobs) ps i.cells) only.1);
        },
      )
