-- From what the table did to the model's turn.
use Rattle.std.proofs.Common.{◌≡◌, ℕ, suc, List, [], ◌∷◌, set, Some, None, Ok, Err, sym, refl, ap, ◌∙◌, subst}
use Rattle.job.specs.Moves.{Comes, WriteOf}
use Rattle.job.specs.declared.moves.Move.{Move}
use Rattle.job.specs.declared.moves.Move.TheVariants.{NoRule, Applies, Takes, Commits}
use Rattle.model.specs.Calls.{Turned, named, apply, turn, turn_of}
use Rattle.model.specs.Logs.{at, find, value_in}
use Rattle.model.specs.Rules.{JobState, State, SetCell, step_of, rules_of, other_marked, first_fit, right_taken, unmark_in, with_jobs, with_job, effect}
use Rattle.model.specs.declared.Applied.{Applied}
use Rattle.model.specs.declared.Entry.{Entry}
use Rattle.model.specs.declared.Party.TheVariants.{Job}
use Rattle.model.specs.declared.Refusal.TheVariants.{NoSuchJob}
use Rattle.model.specs.declared.Rule.{Rule}
use Rattle.model.specs.declared.Rule.TheVariants.{V3, C1, C2, C3}
use Rattle.model.specs.declared.Stage.TheVariants.{Commit}
use Rattle.table.specs.declared.table.Table.{Table}
use Rattle.table.specs.States.{state_of, JobTurns, with_setting, with_joined}
use Rattle.table.proofs.Tabling.{with_same}

-- A turn of job j in run s leaves s' and answers a.
abbrev pub TurnIs : State → ℕ → State → Turned → Type 0
TurnIs s j s' a = (s' ≡ (turn s j).next) × (a ≡ (turn s j).answer)

pub refused : (s : State) (j : ℕ) → at s.jobs j ≡ None → TurnIs s j s (Err NoSuchJob)
refused s j e = (sym (ap (λ o. (turn_of s j o).next) e), sym (ap (λ o. (turn_of s j o).answer) e))

module _ (s s' : State) (i : ℕ) (b : JobState) (here : at s.jobs (suc i) ≡ Some b) where
  turn_is : turn s (suc i) ≡ turn_of s (suc i) (Some b)
  turn_is = ap (turn_of s (suc i)) here

  made : (a : Turned) → s' ≡ (turn_of s (suc i) (Some b)).next → a ≡ (turn_of s (suc i) (Some b)).answer → TurnIs s (suc i) s' a
  made a e f = (e ∙ sym (ap (λ o. o.next) turn_is), f ∙ sym (ap (λ o. o.answer) turn_is))

  pub rests : (b' : JobState) → s' ≡ with_job s (suc i) b' → Comes s (suc i) b b' NoRule → TurnIs s (suc i) s' (Ok None)
  rests b' e x = made (Ok None) (e ∙ (ap (with_job s (suc i)) x.0 ∙ (with_same s i b here ∙ sym x.1))) (sym x.2)

  pub goes : (b' : JobState) (a : Applied) → s' ≡ with_job s (suc i) b' → Comes s (suc i) b b' (Applies a) → TurnIs s (suc i) s' (Ok (Some a))
  goes b' a e x = made (Ok (Some a)) (e ∙ sym x.0) (sym x.1)

  pub takes : (b' : JobState) (t : State) → t ≡ with_job s (suc i) b' → s' ≡ right_taken t (suc i) → Comes s (suc i) b b' Takes → TurnIs s (suc i) s' (Ok (Some (record { rule = V3; cell = None })))
  takes b' t e f x = made _ (f ∙ (ap (λ z. right_taken z (suc i)) e ∙ sym x.0)) (sym x.1)

  -- Where the job commits, nothing has changed yet.
  pub still : (b' : JobState) → s' ≡ with_job s (suc i) b' → Comes s (suc i) b b' Commits → s' ≡ s
  still b' e x = e ∙ (ap (with_job s (suc i)) x.0 ∙ with_same s i b here)

  module _ (st : b.stage ≡ Commit) where
    -- The rule that fits is the one that is applied.
    by-fit : (r : Rule) (c : ℕ) → first_fit s (suc i) b (step_of b) (rules_of b.stage (step_of b)) ≡ Some (r, c) → s' ≡ effect s (suc i) b (step_of b) c r →
        TurnIs s (suc i) s' (Ok (Some (record { rule = r; cell = named r c })))
    by-fit r c f e = made _ (e ∙ sym (ap (λ o. (apply s (suc i) b (step_of b) o).next) f)) (sym (ap (λ o. (apply s (suc i) b (step_of b) o).answer) f))

    pub c1 : (k : ℕ) → Some k ≡ other_marked (suc i) 1 s.jobs → s' ≡ with_jobs s (unmark_in s.jobs k (at s.jobs k)) → TurnIs s (suc i) s' (Ok (Some (record { rule = C1; cell = None })))
    c1 k f e = by-fit C1 k (rw (st, ← f)) e

    pub c2 : (b' : JobState) (entry : Entry) (D : List ℕ) → None ≡ other_marked (suc i) 1 s.jobs → WriteOf b b' (Some entry) → D ≡ set s.cells entry.cell entry.number → s' ≡ with_setting s D (suc i) b' →
        TurnIs s (suc i) s' (Ok (Some (record { rule = C2; cell = Some entry.cell })))
    c2 b' entry D f x d e =
        by-fit C2 entry.cell (rw (st, ← f, x.0))
        (e ∙ (ap (λ z. with_setting s z (suc i) b') (d ∙ ap (set s.cells entry.cell) (sym x.1)) ∙ ap (with_setting s (set s.cells entry.cell (value_in (find b.writes entry.cell))) (suc i)) x.2))

    pub c2-events : (b' : JobState) (entry : Entry) → None ≡ other_marked (suc i) 1 s.jobs → WriteOf b b' (Some entry) → (turn s (suc i)).events ≡ SetCell (Job (suc i)) entry.cell entry.number ∷ []
    c2-events b' entry f x =
        let fit : first_fit s (suc i) b (step_of b) (rules_of b.stage (step_of b)) ≡ Some (C2, entry.cell) = rw (st, ← f, x.0) in
        ap (λ o. o.events) turn_is ∙ (ap (λ o. (apply s (suc i) b (step_of b) o).events) fit ∙ ap (λ n. SetCell (Job (suc i)) entry.cell n ∷ []) x.1)

    pub c3 : (b' : JobState) → None ≡ other_marked (suc i) 1 s.jobs → WriteOf b b' None → s' ≡ with_joined s (suc i) b → TurnIs s (suc i) s' (Ok (Some (record { rule = C3; cell = None })))
    c3 b' f x e = by-fit C3 0 (rw (st, ← f, x.0)) e

-- What a job's turn makes of run s, which is s' after it, by its move: the whole turn, or what is left for the run to do.
abbrev pub Moved : State → State → ℕ → ℕ → Move → Type 0
Moved s s' job i NoRule = TurnIs s job s' (Ok None)
Moved s s' job i (Applies a) = TurnIs s job s' (Ok (Some a))
Moved s s' job i Takes = (next : State) → next ≡ right_taken s' (suc i) → TurnIs s job next (Ok (Some (record { rule = V3; cell = None })))
Moved s s' job i Commits =
    ((b : JobState) × (at s'.jobs (suc i) ≡ Some b) × (b.stage ≡ Commit)) × ((next : State) (a : Turned) → TurnIs s' (suc i) next a → TurnIs s job next a) × ((turn s job).events ≡ (turn s' (suc i)).events)

pub moved : (C : List ℕ) (t t' : Table) (job i : ℕ) (m known : Move) → job ≡ suc i → m ≡ known → JobTurns C t t' i m → Moved (state_of C t) (state_of C t') job i known
moved C t t' job i m known numbered is w = subst (λ j. Moved s s' j i known) (sym numbered) (by known (subst (Comes s (suc i) w.0 w.1) is (w.4 s (suc i) refl refl)))
  where
    s : State
    s = state_of C t

    s' : State
    s' = state_of C t'

    by : (m : Move) → Comes s (suc i) w.0 w.1 m → Moved s s' (suc i) i m
    by NoRule x = rests s s' i w.0 w.2 w.1 (w.3 C) x
    by (Applies a) x = goes s s' i w.0 w.2 w.1 a (w.3 C) x
    by Takes x = λ next e. takes s next i w.0 w.2 w.1 s' (w.3 C) e x
    by Commits x =
        let kept = still s s' i w.0 w.2 w.1 (w.3 C) x in
        ((w.0, ap (λ z. at z.jobs (suc i)) kept ∙ w.2, x.1), λ next a y. subst (λ z. TurnIs z (suc i) next a) kept y, sym (ap (λ z. (turn z (suc i)).events) kept))

-- A job by its number is one job.
pub same_job : (s : State) (i : ℕ) (a b : JobState) → at s.jobs (suc i) ≡ Some a → at s.jobs (suc i) ≡ Some b → a ≡ b
same_job s i a b e f = cc
