-- The law of runs.
use Rattle.std.proofs.Common.{◌≡◌, ℕ, zero, suc, ◌+◌, ◌*◌, ◌%◌, ◌^◌, ◌<◌, ◌≤◌, Bool, true, false, cond, not, ◌⊎◌, List, [], ◌∷◌, ◌++◌, map, length, Some, None, Ok, Option, sym, refl, ap, ◌∙◌, subst, inl, inr, arith}
use Rattle.model.specs.Logs.{at, foldl}
use Rattle.model.specs.Replay.{waits, play_job}
use Rattle.model.specs.Rules.{JobState, State, Event, Started, TookRight, SetCell, place_of, step_of, rules_of, first_fit}
use Rattle.model.specs.Calls.{Call, Turn, OfTurn, apply, turn, turn_of, settle, after, events_of, answers_of}
use Rattle.model.specs.Intake.{Intake, new_job, sealed}
use Rattle.model.specs.Law.{WellFormed, Admissible, same, Member, by_other, count_of, is_start, is_taking, is_setting, RestartsHaveACause, Counted, NoOneForgotten, LogsOrdered, Law, program_or, program_of}
use Rattle.model.specs.declared.Step.{Step}
use Rattle.model.specs.declared.Step.TheVariants.{Wait}
use Rattle.model.specs.declared.Stage.{Stage}
use Rattle.model.specs.declared.Stage.TheVariants.{At, Commit, Done}
use Rattle.model.specs.declared.Party.TheVariants.{Job}
use Rattle.model.specs.declared.Rule.{Rule}
use Rattle.model.proofs.Basics.{by_bool, by_cond, zero_one, at_map, sum}
use Rattle.model.proofs.LogLaws.{unchanged_agrees, sized_none, sized_more}
use Rattle.model.proofs.Follow.{comes_to, step-at}
use Rattle.model.proofs.Cases.{Rests, turn-cases}
use Rattle.model.proofs.Views.{stir, ticked, View, advance, no_view, same_self}
use Rattle.model.proofs.Invariant.{scene, player, Stands, room, Inv, Fair, job_load, remaining, spent}
use Rattle.model.proofs.Acts.{stood}
use Rattle.model.proofs.Answering.{go-as-jobs, idle, jobs-read}
use Rattle.model.proofs.Calling.{calls-keep}
use Rattle.model.proofs.Hearing.{read-as-answered}
use Rattle.model.proofs.Joining.{commit-order, joins-last}
use Rattle.model.proofs.Stopping.{stopping}
use Rattle.model.proofs.Settling.{settle_frees}

fair-drop : (j : ℕ) (acc : Bool) (xs ys : List Event) → Fair j acc (xs ++ ys) → Fair j (foldl (stir j) acc xs) ys
fair-drop j acc [] ys p = p
fair-drop j acc (x ∷ xs) ys p = fair-drop j (stir j acc x) xs ys p.1

-- Restarts have a cause: from one start, after which nothing has stirred, to the next.
counts_one : (j : ℕ) (e : Event) (es : List Event) → by_other j e ≡ true → 0 < count_of (by_other j) (e ∷ es)
counts_one j e es h = by_cond (λ (n : ℕ). 0 < n) (by_other j e) _ _ (λ t. omega arith) (λ t. zero_one (cc))

counts_later : (j : ℕ) (e : Event) (es : List Event) → 0 < count_of (by_other j) es → 0 < count_of (by_other j) (e ∷ es)
counts_later j e es h = by_cond (λ (n : ℕ). 0 < n) (by_other j e) _ _ (λ t. omega arith) (λ t. h)

stirred_between : (j : ℕ) (es later : List Event) → Fair j false (es ++ Started (Job j) ∷ later) → 0 < count_of (by_other j) es
stirred_between j [] later p = let q : false ≡ true = p.0 (same_self (Job j)) in zero_one (cc)
stirred_between j (Started e ∷ es) later p =
    by_bool (same (Job j) e)
    (λ t. let q : false ≡ true = p.0 t in zero_one (cc))
    (λ t. stirred_between j es later (subst (λ z. Fair j (cond z false false) (es ++ Started (Job j) ∷ later)) t p.1))
stirred_between j (event ∷ es) later p =
    by_bool (by_other j event)
    (λ t. counts_one j event es t)
    (λ t. counts_later j event es (stirred_between j es later (subst (λ z. Fair j (cond z true false) (es ++ Started (Job j) ∷ later)) t p.1)))

restarts : (es : List Event) → ((j : ℕ) → Fair j true es) → RestartsHaveACause es
restarts es h j before between later e =
    let a : Fair j (foldl (stir j) true before) (Started (Job j) ∷ (between ++ Started (Job j) ∷ later)) =
    fair-drop j true before (Started (Job j) ∷ (between ++ Started (Job j) ∷ later)) (subst (Fair j true) e (h j)) in
    stirred_between j between later (subst (λ z. Fair j (cond z false (foldl (stir j) true before)) (between ++ Started (Job j) ∷ later)) (same_self (Job j)) a.1)

-- Starts are at most one more than takings and settings.
abbrev owed : Bool → ℕ
owed true = 0
owed false = 1

owing : (x acc : Bool) → owed acc ≤ suc (owed (cond x true acc))
owing true true = omega arith
owing true false = omega arith
owing false true = omega arith
owing false false = omega arith

starts_bound : (j : ℕ) (es : List Event) (acc : Bool) → Fair j acc es → count_of (is_start j) es + owed acc ≤ 1 + spent es
starts_bound j [] true p = omega arith
starts_bound j [] false p = omega arith
starts_bound j (Started e ∷ es) acc p =
    by_bool (same (Job j) e)
    (λ q.
    let ih = starts_bound j es false (subst (λ x. Fair j (cond x false acc) es) q p.1) in
    let z : owed acc ≡ 0 = ap owed (p.0 q) in
    let y : suc (count_of (is_start j) es) + owed acc ≤ 1 + spent es = omega arith in
    subst (λ x. cond x (suc (count_of (is_start j) es)) (count_of (is_start j) es) + owed acc ≤ 1 + spent es) (sym q) y)
    (λ q.
    let ih = starts_bound j es acc (subst (λ x. Fair j (cond x false acc) es) q p.1) in
    subst (λ x. cond x (suc (count_of (is_start j) es)) (count_of (is_start j) es) + owed acc ≤ 1 + spent es) (sym q) ih)
starts_bound j (TookRight e ∷ es) acc p =
    let n : ℕ = count_of (is_start j) es in
    let y : n + owed acc ≤ 1 + (suc (count_of is_taking es) + count_of is_setting es) = omega (arith, starts_bound j es (cond (not (same (Job j) e)) true acc) p.1, owing (not (same (Job j) e)) acc) in y
starts_bound j (SetCell e c v ∷ es) acc p =
    let n : ℕ = count_of (is_start j) es in
    let y : n + owed acc ≤ 1 + (count_of is_taking es + suc (count_of is_setting es)) = omega (arith, starts_bound j es (cond (not (same (Job j) e)) true acc) p.1, owing (not (same (Job j) e)) acc) in y
starts_bound j (event ∷ es) acc p = starts_bound j es acc p.1

module _ (programs : ℕ → List Step) (C₀ : List ℕ) where
  module _ (s : State) (v : View) (I : Inv programs C₀ s v) where
    -- A turn that answers none changes nothing, so all of them rest at once.
    stays : (j : ℕ) (o : Option JobState) → (turn_of s j o).answer ≡ Ok None → (turn_of s j o).next ≡ s
    stays j None e = refl
    stays j (Some b) e = go (first_fit s j b (step_of b) (rules_of b.stage (step_of b))) e
      where
        go : (f : Option (Rule × ℕ)) → (apply s j b (step_of b) f).answer ≡ Ok None → (apply s j b (step_of b) f).next ≡ s
        go None q = refl
        go (Some f) q = zero_one (cc)

    each-rests : (js : List ℕ) → answers_of s (map Turn js) ≡ map (λ j. OfTurn (Ok None)) js → (j : ℕ) → Member j js → (turn s j).answer ≡ Ok None
    each-rests [] e j m = absurd m
    each-rests (i ∷ js) e j m =
        let a : (turn s i).answer ≡ Ok None = cc in
        let q : answers_of (turn s i).next (map Turn js) ≡ map (λ j. OfTurn (Ok None)) js = cc in
        elim m [
          | inl z ↦ subst (λ n. (turn s n).answer ≡ Ok None) (sym z) a
          | inr z ↦ each-rests js (subst (λ t. answers_of t (map Turn js) ≡ map (λ j. OfTurn (Ok None)) js) (stays i (at s.jobs i) a) q) j z
        ]

    rests : (j : ℕ) (b : JobState) → at s.jobs j ≡ Some b → (turn s j).answer ≡ Ok None → Rests s b
    rests j b g e =
        turn-cases s j b (λ o. o.answer ≡ Ok None → Rests s b) (λ r q. r) (λ st c r f q. zero_one (cc)) (subst (λ o. (turn_of s j o).answer ≡ Ok None) g e)

    -- A committing job always has a rule.
    commits : (b : JobState) → b.stage ≡ Commit → Rests s b → ⊥
    commits b h (inl d) = zero_one (cc)
    commits b h (inr (inl y)) = let q : b.stage ≡ At (place_of b.stage) = y.0.0 in zero_one (cc)
    commits b h (inr (inr y)) = let q : b.stage ≡ At (place_of b.stage) = y.0 in zero_one (cc)

    forgotten : NoOneForgotten s
    forgotten js all e j b g = go (rests j b g (each-rests js e j (all j b g)))
      where
        go : Rests s b → Member (Job j) s.order ⊎ ((play_job b.program s.cells).ended ≡ false)
        go (inl d) = inl (stood programs C₀ s v I j b g Done d)
        go (inr (inl y)) =
            let st = stood programs C₀ s v I j b g (At (place_of b.stage)) y.0.0 in
            let p = player (place_of b.stage) b st.0.0 (v.readings (Job j)) in
            inr (ap (λ o. o.ended) (comes_to b.program b.reads p (λ C. waits C p) Wait st.0.2 (step-at b.program (place_of b.stage) Wait st.0.2.within y.0.1) (λ C rest. refl) s.cells (unchanged_agrees s.cells b.reads y.1)))
        go (inr (inr y)) =
            let h = I.holder y.1.0 y.1.1 in
            absurd (commits h.0 h.2 (rests y.1.0 h.0 h.1 (each-rests js e y.1.0 (all y.1.0 h.0 h.1))))

    room-24 : (j : ℕ) (b : JobState) → at s.jobs j ≡ Some b → room b.stage ≤ 24
    room-24 j b g = go b.stage refl
      where
        go : (st : Stage) → b.stage ≡ st → room st ≤ 24
        go (At n) h = omega (arith, (stood programs C₀ s v I j b g (At n) h).0.2.within, (I.jobs j b g).well_formed.few_steps)
        go st h = omega arith

    ordered : LogsOrdered s
    ordered = record {
      of_jobs = λ j b g. let x = I.jobs j b g in let r = room-24 j b g in (sized_more _ 24 b.reads r x.reads, sized_more _ 24 b.writes r x.writes);
      of_corrections = λ k f g. let x = I.corrections k f g in (x.reads, x.writes);
    }

    frees : (settle s).next.right ≡ None
    frees = settle_frees s (λ h r. let x = I.holder h r in (x.0, x.1, x.2, (ordered.of_jobs h x.0 x.1).1.1))

-- A run that was just sealed.
module _ (i : Intake) (ok : Admissible i) where
  none_there : {A : Type 0} (k : ℕ) (x : A) → at [] k ≡ Some x → ⊥
  none_there zero x e = zero_one (cc)
  none_there (suc k) x e = zero_one (cc)

  sealed-inv : Inv (program_of (sealed i)) i.cells (sealed i) no_view
  sealed-inv = record {
    base = i.cells;
    jobs = λ j b e.
        let x = at_map new_job i.programs j b e in
        record {
          well_formed = subst (λ z. WellFormed z.program) x.2 (ok.well_formed j x.0 x.1);
          program = sym (ap program_or e);
          reads = sized_none _ b.reads (sym (ap (λ z. z.reads) x.2));
          writes = sized_none _ b.writes (sym (ap (λ z. z.writes) x.2));
          starts = sym (ap (λ z. z.starts) x.2);
          stands = subst (λ st. Stands st (scene (sealed i) i.cells) j b [] true) (ap (λ z. z.stage) x.2) refl;
        };
    corrections = λ k f e. absurd (none_there k f e);
    holder = λ h e. zero_one (cc);
    rest = λ e. refl;
    replays = (refl, refl);
    closed = λ p m. absurd m;
    takings = refl;
    settings = refl;
  }

  -- Takings and settings are at most 25 for each of 16 jobs and 8 corrections.
  remaining-600 : remaining (sealed i) ≤ 600
  remaining-600 = omega (arith, jobs-load i.programs, ok.few_jobs)
    where
      jobs-load : (ps : List (List Step)) → sum job_load (map new_job ps) ≤ 25 * length ps
      jobs-load [] = omega arith
      jobs-load (p ∷ ps) = omega (arith, jobs-load ps)

  exact : (m n : ℕ) → m ≡ n % 2 ^ 32 → n ≤ 601 → m ≡ n
  exact m n e h = omega arith

  counted : (calls : List Call) → Counted (after (sealed i) calls) (events_of (sealed i) calls)
  counted calls =
      let k = calls-keep (program_of (sealed i)) i.cells calls (sealed i) no_view sealed-inv in
      let es : List Event = events_of (sealed i) calls in
      let s : State = after (sealed i) calls in
      let few : spent es ≤ 600 = omega (arith, k.spends, remaining-600) in
      let bound : (j : ℕ) → count_of (is_start j) es ≤ 1 + spent es = λ j. omega (arith, starts_bound j es true (k.fair j)) in
      let t : s.takings ≡ count_of is_taking es = exact s.takings (count_of is_taking es) (k.inv.takings ∙ ap (λ n. n % 2 ^ 32) (ticked is_taking 0 es ∙ from-0 (count_of is_taking es))) (omega arith) in
      let n : s.settings ≡ count_of is_setting es = exact s.settings (count_of is_setting es) (k.inv.settings ∙ ap (λ n. n % 2 ^ 32) (ticked is_setting 0 es ∙ from-0 (count_of is_setting es))) (omega arith) in
      let st : (j : ℕ) (b : JobState) → at s.jobs j ≡ Some b → b.starts ≡ count_of (is_start j) es = λ j b e.
      exact b.starts (count_of (is_start j) es) ((k.inv.jobs j b e).starts ∙ ap (λ n. n % 2 ^ 32) (ticked (is_start j) 0 es ∙ from-0 (count_of (is_start j) es))) (omega (arith, bound j)) in
      record {
        takings = t;
        settings = n;
        starts = st;
        bound = λ j b e. omega (arith, st j b e, bound j);
      }
    where
      from-0 : (n : ℕ) → 0 + n ≡ n
      from-0 n = omega arith

pub law : Law
law i ok calls =
    let P = program_of (sealed i) in
    let k = calls-keep P i.cells calls (sealed i) no_view (sealed-inv i ok) in
    let s : State = after (sealed i) calls in
    let v : View = advance no_view (events_of (sealed i) calls) in
    record {
      serial = λ r. (k.inv.replays.0 ∙ k.inv.rest r, k.inv.replays.1);
      restarts = restarts (events_of (sealed i) calls) k.fair;
      counted = counted i ok calls;
      no_one_forgotten = forgotten P i.cells s v k.inv;
      logs = ordered P i.cells s v k.inv;
      settles = frees P i.cells s v k.inv;
      commit_order = commit-order P i.cells (sealed i) no_view (sealed-inv i ok) refl calls;
      joins_last = joins-last s;
      read_as_answered = read-as-answered (sealed i) calls;
      jobs_read = jobs-read s;
      idle_changes_nothing = idle s;
      corrections_go_as_jobs = go-as-jobs s;
      plays_stop = λ j b e cells. stopping b.program cells (k.inv.jobs j b e).well_formed;
    }
