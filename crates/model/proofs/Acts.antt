-- A turn keeps what holds of a run: one proof for each rule.
use Rattle.std.proofs.Common.{◌≡◌, ℕ, zero, suc, ◌+◌, ◌%◌, ◌^◌, ◌≤◌, Bool, true, false, cond, not, ◌&&◌, eqb, List, [], ◌∷◌, ◌++◌, length, set, Some, None, Option, unwrap_or, sym, refl, ap, ◌∙◌, subst, inl, inr, arith, ne_eqb, eqb-true}
use borrow.Author.Tests.{eqb-false}
use Rattle.std.specs.List.{slice_get}
use Rattle.model.specs.Steps.{register, computed, following}
use Rattle.model.specs.Logs.{Log, find, put, remove, lowest, any, cell_of, current, changed, set_all, value_in, at, put_at, foldl}
use Rattle.model.specs.Replay.{Note, Player, Play, play_step, play_job, after_read, after_write, after_computing, ends, noted, beginning}
use Rattle.model.specs.Rules.{JobState, CorrectionState, State, Event, Started, ReadCell, TookRight, SetCell, Joined, counted, place_of, step_cell, if_free, other_marked, in_stage, with_logs, with_mark, with_registers, started, onward, loaded, logged, with_jobs, with_job, unmark, unmark_in, effect, happens}
use Rattle.model.specs.Calls.{turn, turn_of}
use Rattle.model.specs.Intake.{stops}
use Rattle.model.specs.Law.{WellFormed, same, is_taking, is_setting, Member}
use Rattle.model.specs.declared.Step.{Step}
use Rattle.model.specs.declared.Step.TheVariants.{Read, Write, Wait, End}
use Rattle.model.specs.declared.Stage.{Stage}
use Rattle.model.specs.declared.Stage.TheVariants.{Start, At, Rollback, Validate, Commit, Done}
use Rattle.model.specs.declared.Party.{Party}
use Rattle.model.specs.declared.Party.TheVariants.{Job, Correction}
use Rattle.model.specs.declared.Rule.{Rule}
use Rattle.model.specs.declared.Rule.TheVariants.{S1, S2, S3, R1, R2, R3, W1, W2, P, Rt, Rb, E, V1, V2, V3, V4, C1, C2, C3}
use Rattle.model.proofs.Basics.{by_bool, zero_one, at-put-same, at-put-other, each-put, sum-put, member-left, member-last, member-push}
use Rattle.model.proofs.LogLaws.{Agrees, agrees_put, unchanged-put, unchanged-remove, kept_remove, set_all_first, shorter, Sized, sized_none, sized_more, sized_put, sized_remove, Means, note, means_none, means_put}
use Rattle.model.proofs.Follow.{Follows, follows_first, follow, comes_to, step-at, goes_on}
use Rattle.model.proofs.Cases.{AtStep, Computes, Facts, turn-cases}
use Rattle.model.proofs.Views.{stir, tick, View, advance, same_self, AllBy, readings-other, requested-other, started-other}
use Rattle.model.proofs.Invariant.{Scene, scene, player, finished, Fresh, Stands, room, JobInv, Answers, Closed, Replays, Inv, Fair, load, job_load, spent, Kept, unchanged, stands_on, stands_unmarked, job_on, replays_on, replays-push}

pub wraps : (n m : ℕ) → m ≡ n % 2 ^ 32 → counted m ≡ suc n % 2 ^ 32
wraps n m e = omega (arith, e)

-- Events of job i by which nothing is taken, set or stirred.
pub record Quiet (i : ℕ) (es : List Event) : Type 0 where
  pub by : AllBy (Job i) es
  pub stirs : (j : ℕ) (acc : Bool) → same (Job j) (Job i) ≡ false → foldl (stir j) acc es ≡ acc
  pub takes : (n : ℕ) → foldl (tick is_taking) n es ≡ n
  pub sets : (n : ℕ) → foldl (tick is_setting) n es ≡ n
  pub costs : spent es ≡ 0

quiet_none : (i : ℕ) → Quiet i []
quiet_none i = record { by = tt; stirs = λ j acc h. refl; takes = λ n. refl; sets = λ n. refl; costs = refl }

quiet_started : (i : ℕ) → Quiet i (Started (Job i) ∷ [])
quiet_started i = record { by = (refl, tt); stirs = λ j acc h. ap (λ t. cond t false acc) h; takes = λ n. refl; sets = λ n. refl; costs = refl }

quiet_read : (i c v : ℕ) → Quiet i (ReadCell (Job i) c v ∷ [])
quiet_read i c v = record { by = (refl, tt); stirs = λ j acc h. refl; takes = λ n. refl; sets = λ n. refl; costs = refl }

-- A party of the order is not job i, which is not done, and stays closed where job i changes.
not_closed : (bs : List JobState) (fs : List CorrectionState) (i : ℕ) (b : JobState) → at bs i ≡ Some b → (b.stage ≡ Done → ⊥) →
    (p : Party) → Closed bs fs p → same p (Job i) ≡ false
not_closed bs fs i b g nd (Job j) x =
    ne_eqb j i (λ q.
    let z : Some x.0 ≡ Some b = sym x.1 ∙ (ap (at bs) q ∙ g) in
    let y : x.0 ≡ b = cc in
    nd (sym (ap (λ t. t.stage) y) ∙ x.2))
not_closed bs fs i b g nd (Correction k) x = refl

still_closed : (bs : List JobState) (fs : List CorrectionState) (i : ℕ) (b b' : JobState) → at bs i ≡ Some b → (b.stage ≡ Done → ⊥) →
    (p : Party) → Closed bs fs p → Closed (put_at bs i b') fs p
still_closed bs fs i b b' g nd (Job j) x =
    let n : same (Job j) (Job i) ≡ false = not_closed bs fs i b g nd (Job j) x in
    (x.0, at-put-other bs i j b' (λ q. eqb-false j i n (sym q)) ∙ x.1, x.2)
still_closed bs fs i b b' g nd (Correction k) x = x

module _ (programs : ℕ → List Step) (C₀ : List ℕ) where
  -- The order's replay, where only a party outside it acts.
  pub replays-still : (s : State) (v : View) (I : Inv programs C₀ s v) (q : Party) (es : List Event) → AllBy q es →
      ((p : Party) → Member p s.order → same p q ≡ false) → Replays programs C₀ (advance v es) s.order I.base
  replays-still s v I q es m apart =
      replays_on programs C₀ v (advance v es) s.order I.base
      (λ p k. readings-other q es m p (apart p k) (v.readings p))
      (λ k n. requested-other q es m k (apart (Correction k) n) (v.scripts k))
      I.replays

  module _ (s : State) (v : View) (I : Inv programs C₀ s v) (i : ℕ) (b : JobState) (g : at s.jobs i ≡ Some b) where
    own : JobInv programs (scene s I.base) v i b
    own = I.jobs i b g

    pub stood : (st : Stage) → b.stage ≡ st → Stands st (scene s I.base) i b (v.readings (Job i)) (v.stirred i)
    stood st h = subst (λ x. Stands x (scene s I.base) i b (v.readings (Job i)) (v.stirred i)) h own.stands

    not-committing : job_load b ≡ 25 → b.stage ≡ Commit → ⊥
    not-committing e h = let r : Sized 24 b.writes = subst (λ n. Sized n b.writes) (ap room h) own.writes in omega (arith, ap (λ z. load z b.writes) h, r.1)

    not_done : job_load b ≡ 25 → b.stage ≡ Done → ⊥
    not_done e h = omega (arith, ap (λ z. load z b.writes) h)

    -- Job i acts: b becomes b', and the run's cells, right, order and counts may change.
    module _ (b' : JobState) (es : List Event) (pe : b'.program ≡ b.program) (m : AllBy (Job i) es)
        (rd : Sized (room b'.stage) b'.reads) (wr : Sized (room b'.stage) b'.writes) (st : b'.starts ≡ (advance v es).starts i % 2 ^ 32)
        (cost : spent es + job_load b' ≤ job_load b) (fair : (j : ℕ) → Fair j (v.stirred j) es) where
      act : (g' : Scene) (t n : ℕ) →
          Stands b'.stage g' i b' ((advance v es).readings (Job i)) ((advance v es).stirred i) →
          ((j : ℕ) (x : JobState) → (i ≡ j → ⊥) → at s.jobs j ≡ Some x → Stands x.stage (scene s I.base) j x (v.readings (Job j)) (v.stirred j) →
          Stands x.stage g' j x (v.readings (Job j)) ((advance v es).stirred j)) →
          ((h : ℕ) → g'.right ≡ Some h → (x : JobState) × (at (put_at s.jobs i b') h ≡ Some x) × (x.stage ≡ Commit)) →
          (g'.right ≡ None → g'.base ≡ g'.cells) →
          Replays programs C₀ (advance v es) g'.order g'.base →
          ((p : Party) → Member p g'.order → Closed (put_at s.jobs i b') s.corrections p) →
          t ≡ (advance v es).takings % 2 ^ 32 → n ≡ (advance v es).settings % 2 ^ 32 →
          Kept programs C₀ v s (record s { cells = g'.cells; jobs = put_at s.jobs i b'; right = g'.right; order = g'.order; takings = t; settings = n }) es
      act g' t n stands others holds rests replays closed te ne = record {
        inv = record {
          base = g'.base;
          jobs = each-put (JobInv programs g' (advance v es)) s.jobs i b b' g
              (record { well_formed = subst (λ (p : List Step). WellFormed p) (sym pe) own.well_formed; program = pe ∙ own.program; reads = rd; writes = wr; starts = st; stands = stands })
              (λ k z ne e.
              let f : same (Job k) (Job i) ≡ false = ne_eqb k i (λ q. ne (sym q)) in
              let x = I.jobs k z e in
              job_on programs _ g' v (advance v es) k z z.marked x (started-other (Job i) es m k f (v.starts k))
              (subst (λ a. Stands z.stage g' k z a ((advance v es).stirred k)) (sym (readings-other (Job i) es m (Job k) f (v.readings (Job k)))) (others k z ne e x.stands)));
          corrections = λ k f e.
              let x = I.corrections k f e in
              record {
                reads = x.reads;
                writes = x.writes;
                answers = λ o.
                    subst (λ a. Answers a ((advance v es).readings (Correction k)) f) (sym (requested-other (Job i) es m k refl (v.scripts k)))
                    (subst (λ a. Answers (v.scripts k) a f) (sym (readings-other (Job i) es m (Correction k) refl (v.readings (Correction k)))) (x.answers o));
              };
          holder = holds;
          rest = rests;
          replays = replays;
          closed = closed;
          takings = te;
          settings = ne;
        };
        fair = fair;
        spends = omega (arith, sum-put job_load s.jobs i b b' g, cost);
      }

    -- The acting job alone changes, before it commits.
    quiet : (b' : JobState) (es : List Event) → b'.program ≡ b.program → Quiet i es →
        Sized (room b'.stage) b'.reads → Sized (room b'.stage) b'.writes → b'.starts ≡ (advance v es).starts i % 2 ^ 32 →
        job_load b ≡ 25 → job_load b' ≡ 25 → ((j : ℕ) → Fair j (v.stirred j) es) →
        Stands b'.stage (scene s I.base) i b' ((advance v es).readings (Job i)) ((advance v es).stirred i) →
        Kept programs C₀ v s (with_job s i b') es
    quiet b' es pe m rd wr st e e' fair stands =
        act b' es pe m.by rd wr st (omega (arith, m.costs, e, e')) fair (scene s I.base) s.takings s.settings stands
        (λ j x ne k y.
        stands_on x.stage (scene s I.base) (scene s I.base) j x (v.readings (Job j)) (v.stirred j) ((advance v es).stirred j)
        (λ z. refl) (inr (m.stirs j (v.stirred j) (ne_eqb j i (λ q. ne (sym q))), refl, λ z. z)) (λ z. (z, refl, refl)) (λ z. z) y)
        (λ h r.
        let x = I.holder h r in
        let ne : i ≡ h → ⊥ = λ q.
        (let y : Some x.0 ≡ Some b = sym x.1 ∙ (ap (at s.jobs) (sym q) ∙ g) in
        let u : x.0 ≡ b = cc in
        not-committing e (sym (ap (λ t. t.stage) u) ∙ x.2)) in
        (x.0, at-put-other s.jobs i h b' ne ∙ x.1, x.2))
        I.rest
        (replays-still s v I (Job i) es m.by (λ p k. not_closed s.jobs s.corrections i b g (not_done e) p (I.closed p k)))
        (λ p k. still_closed s.jobs s.corrections i b b' g (not_done e) p (I.closed p k))
        (I.takings ∙ ap (λ a. a % 2 ^ 32) (sym (m.takes v.takings)))
        (I.settings ∙ ap (λ a. a % 2 ^ 32) (sym (m.sets v.settings)))

    -- Nothing is said.
    silent : (b' : JobState) → b'.program ≡ b.program → b'.starts ≡ b.starts →
        Sized (room b'.stage) b'.reads → Sized (room b'.stage) b'.writes → job_load b ≡ 25 → job_load b' ≡ 25 →
        Stands b'.stage (scene s I.base) i b' (v.readings (Job i)) (v.stirred i) → Kept programs C₀ v s (with_job s i b') []
    silent b' pe se rd wr e e' stands = quiet b' [] pe (quiet_none i) rd wr (se ∙ own.starts) e e' (λ j. tt) stands

    abbrev pub Keeps : Step → ℕ → Rule → Type 0
    Keeps st c r = Kept programs C₀ v s (effect s i b st c r) (happens s i b c r)

    -- In a stage with room for 24.
    roomy : (st : Stage) → b.stage ≡ st → room st ≡ 24 → Sized 24 b.reads × Sized 24 b.writes
    roomy st h e = let r : room b.stage ≡ 24 = ap room h ∙ e in (subst (λ n. Sized n b.reads) r own.reads, subst (λ n. Sized n b.writes) r own.writes)

    loaded-25 : (st : Stage) → b.stage ≡ st → load st b.writes ≡ 25 → job_load b ≡ 25
    loaded-25 st h e = ap (λ z. load z b.writes) h ∙ e

    do-S1 : (st : Step) (c : ℕ) → b.stage ≡ Start → Keeps st c S1
    do-S1 st c h =
        silent (with_logs b b.reads (remove b.writes c)) refl refl own.reads (sized_remove (room b.stage) c b.writes own.writes) (loaded-25 Start h refl) (ap (λ z. load z (remove b.writes c)) h)
        (subst (λ z. Stands z (scene s I.base) i (with_logs b b.reads (remove b.writes c)) (v.readings (Job i)) (v.stirred i)) (sym h) (stood Start h))

    do-S2 : (st : Step) (c : ℕ) → b.stage ≡ Start → Keeps st c S2
    do-S2 st c h =
        silent (with_logs b (remove b.reads c) b.writes) refl refl (sized_remove (room b.stage) c b.reads own.reads) own.writes (loaded-25 Start h refl) (loaded-25 Start h refl)
        (subst (λ z. Stands z (scene s I.base) i (with_logs b (remove b.reads c) b.writes) (v.readings (Job i)) (v.stirred i)) (sym h) (stood Start h))

    do-S3 : (st : Step) (c : ℕ) → b.stage ≡ Start → b.writes ≡ [] → b.reads ≡ [] → Keeps st c S3
    do-S3 st c h w r =
        quiet (started b) (Started (Job i) ∷ []) refl (quiet_started i) (sized_none 0 b.reads r) (sized_none 0 b.writes w)
        (wraps (v.starts i) b.starts own.starts ∙ ap (λ z. cond z (suc (v.starts i)) (v.starts i) % 2 ^ 32) (sym (same_self (Job i))))
        (loaded-25 Start h refl) refl
        (λ j. ((λ t. let q : i ≡ j = sym (eqb-true j i t) in subst (λ n. v.stirred n ≡ true) q (stood Start h)), tt))
        (let t : cond (same (Job i) (Job i)) [] (v.readings (Job i)) ≡ [] = ap (λ x. cond x [] (v.readings (Job i))) (same_self (Job i)) in
        let F : Follows b.program b.reads beginning = subst (λ rd. Follows b.program rd beginning) (sym r) (follows_first b.program own.well_formed.some_step) in (
          (
            [],
            subst (λ l. Means l []) (sym w) means_none,
            subst (λ k. Follows b.program b.reads k) (λ j. record beginning { readings = sym t j }) F,
          ),
          inr (ap (lowest (changed s.cells)) r),
        ))

    -- At a step.
    module _ (st : Step) (h : AtStep b st) where
      n : ℕ
      n = place_of b.stage

      here : Stands (At (place_of b.stage)) (scene s I.base) i b (v.readings (Job i)) (v.stirred i)
      here = stood (At (place_of b.stage)) h.0

      the_step : slice_get b.program (place_of b.stage) ≡ Some st
      the_step = step-at b.program (place_of b.stage) st here.0.2.within h.1

      busy : job_load b ≡ 25
      busy = loaded-25 (At (place_of b.stage)) h.0 refl

      reads_here : Sized (place_of b.stage) b.reads
      reads_here = subst (λ k. Sized k b.reads) (ap room h.0) own.reads

      writes-here : Sized (place_of b.stage) b.writes
      writes-here = subst (λ k. Sized k b.writes) (ap room h.0) own.writes

      place-24 : place_of b.stage ≤ 24
      place-24 = omega (arith, here.0.2.within, own.well_formed.few_steps)

      do-Rt : (c : ℕ) → lowest (changed s.cells) b.reads ≡ Some c → Keeps st c Rt
      do-Rt c f =
          silent (in_stage b Rollback) refl refl (sized_more (place_of b.stage) 24 b.reads place-24 reads_here) (sized_more (place_of b.stage) 24 b.writes place-24 writes-here) busy refl
          (elim here.1 [ inl y ↦ y | inr y ↦ zero_one (cc) ])

    reads_on : (r a w : ℕ) (rd : Log) → AtStep b (Read r a) →
        (Sized (place_of b.stage) b.reads → Sized (suc (place_of b.stage)) rd) →
        ((C : List ℕ) → Agrees rd C → Agrees b.reads C × (unwrap_or (find b.writes a) (cell_of C a) ≡ w)) →
        (Fresh s.cells b → lowest (changed s.cells) rd ≡ None) →
        Kept programs C₀ v s (with_job s i (with_logs (loaded b (Read r a) w) rd b.writes)) (ReadCell (Job i) a w ∷ [])
    reads_on r a w rd h sized step keep =
        let k : ℕ = place_of b.stage in
        let x = here (Read r a) h in
        let notes : List Note = x.0.0 in
        let t : v.readings (Job i) ++ w ∷ [] ≡ cond (same (Job i) (Job i)) (v.readings (Job i) ++ w ∷ []) (v.readings (Job i)) = sym (ap (λ z. cond z (v.readings (Job i) ++ w ∷ []) (v.readings (Job i))) (same_self (Job i))) in
        let e = the_step (Read r a) h in
        let on = goes_on b.program k b.registers (Read r a) own.well_formed e refl in
        quiet (with_logs (loaded b (Read r a) w) rd b.writes) (ReadCell (Job i) a w ∷ []) refl (quiet_read i a w)
        (sized (reads_here (Read r a) h)) (sized_more k (suc k) b.writes (omega arith) (writes-here (Read r a) h)) own.starts (busy (Read r a) h) refl (λ j. (tt, tt)) (
          (
            notes,
            x.0.1,
            follow b.program b.reads rd (player k b notes (v.readings (Job i))) _ (Read r a) (λ C. after_read C r a (player k b notes (v.readings (Job i)))) x.0.2 e (λ C rest. refl) on.0 on.1
                (λ C ag.
                let u : noted C notes a ≡ w = x.0.1.finds C a ∙ (step C ag).1 in (
                  (step C ag).0,
                  (λ j. record { place = suc k; registers = set b.registers r (u j); notes = notes; readings = v.readings (Job i) ++ u j ∷ [] })
                      ∙ (λ j. record { place = suc k; registers = set b.registers r w; notes = notes; readings = t j }),
                )),
          ),
          elim x.1 [ inl y ↦ inl y | inr y ↦ inr (keep y) ],
        )

    do-R1 : (r a w : ℕ) → AtStep b (Read r a) → find b.writes a ≡ Some w → Keeps (Read r a) a R1
    do-R1 r a w h f =
        reads_on r a (value_in (find b.writes a)) b.reads h (sized_more _ _ b.reads (omega arith))
        (λ C ag. (ag, ap (λ o. unwrap_or o (cell_of C a)) f ∙ sym (ap value_in f))) (λ z. z)

    do-R2 : (r a w : ℕ) → AtStep b (Read r a) → find b.writes a ≡ None → find b.reads a ≡ Some w → Keeps (Read r a) a R2
    do-R2 r a w h f k =
        reads_on r a (value_in (find b.reads a)) b.reads h (sized_more _ _ b.reads (omega arith))
        (λ C ag. (ag, ap (λ o. unwrap_or o (cell_of C a)) f ∙ (ag a w k ∙ sym (ap value_in k)))) (λ z. z)

    do-R3 : (r a : ℕ) → AtStep b (Read r a) → find b.writes a ≡ None → find b.reads a ≡ None → Keeps (Read r a) a R3
    do-R3 r a h f k =
        reads_on r a (cell_of s.cells a) (put b.reads a (cell_of s.cells a)) h (sized_put (place_of b.stage) a (cell_of s.cells a) b.reads)
        (λ C ag. let q = agrees_put b.reads C a (cell_of s.cells a) k ag in (q.0, ap (λ o. unwrap_or o (cell_of C a)) f ∙ q.1))
        (unchanged-put s.cells b.reads a)

    writes-on : (a r : ℕ) → AtStep b (Write a r) → Kept programs C₀ v s (with_job s i (logged b (Write a r) a)) []
    writes-on a r h =
        let k : ℕ = place_of b.stage in
        let x = here (Write a r) h in
        let notes : List Note = x.0.0 in
        let w : ℕ = register b.registers r in
        let e = the_step (Write a r) h in
        let on = goes_on b.program k b.registers (Write a r) own.well_formed e refl in
        silent (logged b (Write a r) a) refl refl
        (sized_more k (suc k) b.reads (omega arith) (reads_here (Write a r) h)) (sized_put k a w b.writes (writes-here (Write a r) h)) (busy (Write a r) h) refl (
          (
            note a w ∷ notes,
            means_put b.writes notes a w (writes-here (Write a r) h).0 x.0.1,
            follow b.program b.reads b.reads (player k b notes (v.readings (Job i))) _ (Write a r) (λ C. after_write a r (player k b notes (v.readings (Job i)))) x.0.2 e (λ C rest. refl) on.0 on.1
                (λ C ag. (ag, refl)),
          ),
          x.1,
        )

    do-P : (st : Step) (c : ℕ) → AtStep b st → Computes st → Keeps st c P
    do-P st c h k =
        let p : ℕ = place_of b.stage in
        let x = here st h in
        let notes : List Note = x.0.0 in
        let e = the_step st h in
        let goes = computes st k in
        let on = goes_on b.program p b.registers st own.well_formed e goes.0 in
        let q : ℕ = following st b.registers p in
        silent (with_registers (onward b st) (computed st b.registers)) refl refl
        (sized_more p q b.reads (omega (arith, on.0)) (reads_here st h)) (sized_more p q b.writes (omega (arith, on.0)) (writes-here st h)) (busy st h) refl (
          (
            notes,
            x.0.1,
            follow b.program b.reads b.reads (player p b notes (v.readings (Job i))) _ st (λ C. after_computing st (player p b notes (v.readings (Job i)))) x.0.2 e (λ C rest. goes.1 C _ rest) on.0 on.1
                (λ C ag. (ag, refl)),
          ),
          x.1,
        )
      where
        computes : (st : Step) → Computes st → (stops st ≡ false) × ((C : List ℕ) (p : Player) (rest : Player → Play) → play_step (Some st) C p rest ≡ rest (after_computing st p))
        computes (Read r a) k = absurd k
        computes (Write a r) k = absurd k
        computes Wait k = absurd k
        computes End k = absurd k
        computes st k = (refl, λ C p rest. refl)

    do-Rb : (st : Step) (c : ℕ) → b.stage ≡ Rollback → Keeps st c Rb
    do-Rb st c h =
        let z = roomy Rollback h refl in
        silent (in_stage b Start) refl refl z.0 z.1 (loaded-25 Rollback h refl) refl (stood Rollback h)

    do-E : (st : Step) (c : ℕ) → AtStep b End → s.right ≡ None → Keeps st c E
    do-E st c h r =
        let x = here End h in
        let p : Player = player (place_of b.stage) b x.0.0 (v.readings (Job i)) in
        silent (with_mark (in_stage b Validate) true) refl refl
        (sized_more (place_of b.stage) 24 b.reads (place-24 End h) (reads_here End h)) (sized_more (place_of b.stage) 24 b.writes (place-24 End h) (writes-here End h)) (busy End h) refl (
          (λ m. (
            b.reads,
            (λ D ag.
                comes_to b.program b.reads p (λ C. ends C p) End x.0.2 (the_step End h) (λ C rest. refl) D ag
                ∙ ap (finished (v.readings (Job i))) (x.0.1.sets D)),
            (λ a w e. inl e),
          )),
          elim x.1 [ inl y ↦ inl y | inr y ↦ inr (refl, r, y) ],
        )

    do-V1 : (st : Step) (c : ℕ) → b.stage ≡ Validate → lowest (current s.cells) b.reads ≡ Some c → Keeps st c V1
    do-V1 st c h f =
        let x = stood Validate h in
        let z = roomy Validate h refl in
        let b' : JobState = with_logs b (remove b.reads c) b.writes in
        silent b' refl refl (sized_remove (room b.stage) c b.reads own.reads) own.writes (loaded-25 Validate h refl) (loaded-25 Validate h refl)
        (subst (λ y. Stands y (scene s I.base) i b' (v.readings (Job i)) (v.stirred i)) (sym h) (
          (λ m. let y = x.0 m in (y.0, y.1, λ a w e. elim (y.2 a w e) [ inl k ↦ kept_remove s.cells b.reads c z.0.0 f a w k | inr k ↦ inr k ])),
          elim x.1 [ inl y ↦ inl y | inr y ↦ inr (y.0, y.1, unchanged-remove s.cells b.reads c y.2) ],
        ))

    do-V2 : (st : Step) (c : ℕ) → b.stage ≡ Validate → lowest (changed s.cells) b.reads ≡ Some c → Keeps st c V2
    do-V2 st c h f =
        let z = roomy Validate h refl in
        silent (with_mark (with_logs (in_stage b Rollback) (remove b.reads c) b.writes) false) refl refl (sized_remove 24 c b.reads z.0) z.1 (loaded-25 Validate h refl) refl
        (elim (stood Validate h).1 [ inl y ↦ y | inr y ↦ (let q : lowest (changed s.cells) b.reads ≡ None = y.2 in zero_one (cc)) ])

    do-V4 : (st : Step) (c : ℕ) → b.stage ≡ Validate → cond b.marked (if_free s.right) None ≡ None → Keeps st c V4
    do-V4 st c h f =
        let z = roomy Validate h refl in
        silent (in_stage b Rollback) refl refl z.0 z.1 (loaded-25 Validate h refl) refl
        (elim (stood Validate h).1 [
          | inl y ↦ y
          | inr y ↦
              (let q : Some 0 ≡ None = sym (ap (λ m. cond m (if_free s.right) None) y.0 ∙ ap if_free y.1) ∙ f in
              zero_one (cc))
        ])

    -- The job that acts is the one that holds the right.
    holds-own : (b' : JobState) → b'.stage ≡ Commit → (h : ℕ) → i ≡ h → (x : JobState) × (at (put_at s.jobs i b') h ≡ Some x) × (x.stage ≡ Commit)
    holds-own b' e h q = (b', subst (λ k. at (put_at s.jobs i b') k ≡ Some b') q (at-put-same s.jobs i b b' g), e)

    do-V3 : (st : Step) (c : ℕ) → b.stage ≡ Validate → b.marked ≡ true → s.right ≡ None → b.reads ≡ [] → Keeps st c V3
    do-V3 st c h m r e =
        let x = (stood Validate h).0 m in
        let z = roomy Validate h refl in
        let b' : JobState = with_mark (in_stage b Commit) false in
        let es : List Event = TookRight (Job i) ∷ [] in
        let busy25 : job_load b ≡ 25 = loaded-25 Validate h refl in
        let be : I.base ≡ s.cells = I.rest r in
        let ag : Agrees x.0 s.cells = λ a w k.
        elim (x.2 a w k) [ inl y ↦ (let q : find [] a ≡ Some w = sym (ap (λ l. find l a) e) ∙ y in zero_one (cc)) | inr y ↦ y ] in
        act b' es refl (refl, tt) z.0 z.1 own.starts (omega (arith, busy25, z.1.1)) (λ j. (tt, tt))
        (record (scene s I.base) { right = Some i }) (counted s.takings) s.settings
        (refl, ap (play_job b.program) be ∙ x.1 s.cells ag)
        (λ j y ne k st'.
        stands_on y.stage (scene s I.base) _ j y (v.readings (Job j)) (v.stirred j) ((advance v es).stirred j)
        (λ q. refl) (inl (ap (λ t. cond (not t) true (v.stirred j)) (ne_eqb j i (λ q. ne (sym q))))) (λ q. zero_one (cc)) (λ q. q) st')
        (λ k q. holds-own b' refl k (cc))
        (λ q. zero_one (cc))
        (replays-still s v I (Job i) es (refl, tt) (λ p k. not_closed s.jobs s.corrections i b g (not_done busy25) p (I.closed p k)))
        (λ p k. still_closed s.jobs s.corrections i b b' g (not_done busy25) p (I.closed p k))
        (wraps v.takings s.takings I.takings) I.settings

    committing : b.stage ≡ Commit → b.stage ≡ Done → ⊥
    committing h d = zero_one (cc)

    do-C2 : (st : Step) (c : ℕ) → b.stage ≡ Commit → lowest any b.writes ≡ Some c →
        ((j : ℕ) (x : JobState) → (i ≡ j → ⊥) → at s.jobs j ≡ Some x → x.marked ≡ false) → Keeps st c C2
    do-C2 st c h f clear =
        let x = stood Commit h in
        let w : ℕ = value_in (find b.writes c) in
        let D : List ℕ = set s.cells c w in
        let es : List Event = SetCell (Job i) c w ∷ [] in
        let b' : JobState = with_logs b b.reads (remove b.writes c) in
        let r : s.right ≡ Some i = x.0 in
        let l : job_load b ≡ length b.writes = ap (λ z. load z b.writes) h in
        let l' : job_load b' ≡ length (remove b.writes c) = ap (λ z. load z (remove b.writes c)) h in
        act b' es refl (refl, tt) own.reads (sized_remove (room b.stage) c b.writes own.writes) own.starts (omega (arith, l, l', shorter b.writes c f)) (λ j. (tt, tt))
        (record (scene s I.base) { cells = D }) s.takings (counted s.settings)
        (subst (λ z. Stands z (record (scene s I.base) { cells = D }) i b' (v.readings (Job i)) ((advance v es).stirred i)) (sym h)
        (r, x.1 ∙ ap (finished (v.readings (Job i))) (sym (set_all_first b.writes s.cells c f))))
        (λ j y ne k st'.
        stands_on y.stage (scene s I.base) _ j y (v.readings (Job j)) (v.stirred j) ((advance v es).stirred j)
        (λ m. let q : y.marked ≡ false = clear j y ne k in zero_one (cc))
        (inl (ap (λ t. cond (not t) true (v.stirred j)) (ne_eqb j i (λ q. ne (sym q)))))
        (λ m. let q : i ≡ j = cc in absurd (ne q)) (λ q. q) st')
        (λ k q. let u : i ≡ k = cc in holds-own b' h k u)
        (λ q. zero_one (cc))
        (replays-still s v I (Job i) es (refl, tt) (λ p k. not_closed s.jobs s.corrections i b g (committing h) p (I.closed p k)))
        (λ p k. still_closed s.jobs s.corrections i b b' g (committing h) p (I.closed p k))
        I.takings (wraps v.settings s.settings I.settings)

    do-C3 : (st : Step) (c : ℕ) → b.stage ≡ Commit → b.writes ≡ [] → Keeps st c C3
    do-C3 st c h f =
        let x = stood Commit h in
        let z = roomy Commit h refl in
        let es : List Event = Joined (Job i) ∷ [] in
        let b' : JobState = in_stage b Done in
        let r : s.right ≡ Some i = x.0 in
        let o : play_job (programs i) I.base ≡ finished (v.readings (Job i)) s.cells =
        ap (λ p. play_job p I.base) (sym own.program) ∙ (x.1 ∙ ap (λ l. finished (v.readings (Job i)) (set_all l s.cells)) f) in
        act b' es refl (refl, tt) z.0 z.1 own.starts (omega arith) (λ j. (tt, tt))
        (record (scene s I.base) { right = None; base = s.cells; order = s.order ++ Job i ∷ [] }) s.takings s.settings
        (member-last (Job i) s.order)
        (λ j y ne k st'.
        stands_on y.stage (scene s I.base) _ j y (v.readings (Job j)) (v.stirred j) ((advance v es).stirred j)
        (λ m. refl) (inr (refl, refl, λ q. refl)) (λ q. let u : i ≡ j = cc in absurd (ne u)) (member-left (Job j) s.order (Job i ∷ [])) st')
        (λ k q. zero_one (cc))
        (λ q. refl)
        (replays-push programs C₀ v s.order (Job i) I.base s.cells I.replays o)
        (λ p k. elim (member-push p (Job i) s.order k) [
          | inl y ↦ still_closed s.jobs s.corrections i b b' g (committing h) p (I.closed p y)
          | inr y ↦ subst (Closed (put_at s.jobs i b') s.corrections) (sym y) (b', at-put-same s.jobs i b b' g, refl)
        ])
        I.takings I.settings

  -- One mark is removed while the right is held.
  do-C1 : (s : State) (v : View) → Inv programs C₀ s v → (s.right ≡ None → ⊥) → (c : ℕ) (o : Option JobState) → at s.jobs c ≡ o →
      Kept programs C₀ v s (with_jobs s (unmark_in s.jobs c o)) []
  do-C1 s v I nr c None e = unchanged programs C₀ s v I
  do-C1 s v I nr c (Some x) e = record {
    inv = record {
      base = I.base;
      jobs = each-put (JobInv programs (scene s I.base) v) s.jobs c x (unmark x) e
          (let y = I.jobs c x e in
          job_on programs _ (scene s I.base) v v c x false y refl (stands_unmarked x.stage (scene s I.base) c x (v.readings (Job c)) (v.stirred c) (inr nr) y.stands))
          (λ k z ne f. I.jobs k z f);
      corrections = I.corrections;
      holder = λ h r. let y = I.holder h r in still h y.0 Commit y.1 y.2;
      rest = I.rest;
      replays = I.replays;
      closed = λ p m. closed-still p (I.closed p m);
      takings = I.takings;
      settings = I.settings;
    };
    fair = λ j. tt;
    spends = omega (arith, sum-put job_load s.jobs c x (unmark x) e);
  }
    where
      still : (j : ℕ) (y : JobState) (st : Stage) → at s.jobs j ≡ Some y → y.stage ≡ st → (z : JobState) × (at (put_at s.jobs c (unmark x)) j ≡ Some z) × (z.stage ≡ st)
      still j y st f k =
          by_bool (eqb c j)
          (λ t.
          let q : c ≡ j = eqb-true c j t in
          let u : Some x ≡ Some y = sym e ∙ (ap (at s.jobs) q ∙ f) in
          let w : x ≡ y = cc in
          (unmark x, subst (λ n. at (put_at s.jobs c (unmark x)) n ≡ Some (unmark x)) q (at-put-same s.jobs c x (unmark x) e), ap (λ z. z.stage) w ∙ k))
          (λ t. (y, at-put-other s.jobs c j (unmark x) (eqb-false c j t) ∙ f, k))

      closed-still : (p : Party) → Closed s.jobs s.corrections p → Closed (put_at s.jobs c (unmark x)) s.corrections p
      closed-still (Job j) y = still j y.0 Done y.1 y.2
      closed-still (Correction k) y = y

  module _ (s : State) (v : View) (I : Inv programs C₀ s v) (i : ℕ) (b : JobState) (g : at s.jobs i ≡ Some b) where
    abbrev Kept-by : Step → ℕ → Rule → Type 0
    Kept-by st c r = Kept programs C₀ v s (effect s i b st c r) (happens s i b c r)

    no-right : b.stage ≡ Commit → s.right ≡ None → ⊥
    no-right h q = let r : s.right ≡ Some i = (stood s v I i b g Commit h).0 in zero_one (cc)

    -- No other job is marked.
    none-marked : other_marked i 1 s.jobs ≡ None → (j : ℕ) (x : JobState) → (i ≡ j → ⊥) → at s.jobs j ≡ Some x → x.marked ≡ false
    none-marked h zero x ne e = zero_one (cc)
    none-marked h (suc j) x ne e = from 1 s.jobs h j x e (λ z. ne (omega arith))
      where
        from : (n : ℕ) (bs : List JobState) → other_marked i n bs ≡ None → (j : ℕ) (x : JobState) → slice_get bs j ≡ Some x → (n + j ≡ i → ⊥) → x.marked ≡ false
        from n [] h j x e ne = zero_one (cc)
        from n (y ∷ bs) h zero x e ne =
            let q : y ≡ x = cc in
            let ni : n ≡ i → ⊥ = λ z. ne (omega arith) in
            let f : eqb n i ≡ false = ne_eqb n i ni in
            by_bool y.marked
            (λ t. let u : Some n ≡ None = sym (ap (λ z. cond (z && not (eqb n i)) (Some n) (other_marked i (suc n) bs)) t ∙ ap (λ z. cond (not z) (Some n) (other_marked i (suc n) bs)) f) ∙ h in zero_one (cc))
            (λ t. ap (λ z. z.marked) (sym q) ∙ t)
        from n (y ∷ bs) h (suc j) x e ne =
            from (suc n) bs
            (by_bool (y.marked && not (eqb n i))
            (λ t. let u : Some n ≡ None = sym (ap (λ z. cond z (Some n) (other_marked i (suc n) bs)) t) ∙ h in zero_one (cc))
            (λ t. sym (ap (λ z. cond z (Some n) (other_marked i (suc n) bs)) t) ∙ h))
            j x e (λ z. ne (omega arith))

    read-1 : (st : Step) (c r a : ℕ) → st ≡ Read r a → Facts s i b st c R1 → Kept-by st c R1
    read-1 st c r a q f =
        subst (λ x. AtStep b x → c ≡ step_cell x → (w : ℕ) → find b.writes c ≡ Some w → Kept-by x c R1) (sym q)
        (λ h ca w k. subst (λ x. Kept-by (Read r a) x R1) (sym ca) (do-R1 s v I i b g r a w h (ap (find b.writes) (sym ca) ∙ k))) f.0 f.2 f.3.0 f.3.1

    read-2 : (st : Step) (c r a : ℕ) → st ≡ Read r a → Facts s i b st c R2 → Kept-by st c R2
    read-2 st c r a q f =
        subst (λ x. AtStep b x → c ≡ step_cell x → (w : ℕ) → find b.reads c ≡ Some w → Kept-by x c R2) (sym q)
        (λ h ca w k. subst (λ x. Kept-by (Read r a) x R2) (sym ca) (do-R2 s v I i b g r a w h (ap (find b.writes) (sym ca) ∙ f.3) (ap (find b.reads) (sym ca) ∙ k))) f.0 f.2 f.4.0 f.4.1

    read-3 : (st : Step) (c r a : ℕ) → st ≡ Read r a → Facts s i b st c R3 → Kept-by st c R3
    read-3 st c r a q f =
        subst (λ x. AtStep b x → c ≡ step_cell x → Kept-by x c R3) (sym q)
        (λ h ca. subst (λ x. Kept-by (Read r a) x R3) (sym ca) (do-R3 s v I i b g r a h (ap (find b.writes) (sym ca) ∙ f.3) (ap (find b.reads) (sym ca) ∙ f.4))) f.0 f.2

    write-1 : (st : Step) (c a r : ℕ) → st ≡ Write a r → AtStep b st → c ≡ step_cell st → Kept programs C₀ v s (with_job s i (logged b st c)) []
    write-1 st c a r q =
        subst (λ x. AtStep b x → c ≡ step_cell x → Kept programs C₀ v s (with_job s i (logged b x c)) []) (sym q)
        (λ h ca. subst (λ x. Kept programs C₀ v s (with_job s i (logged b (Write a r) x)) []) (sym ca) (writes-on s v I i b g a r h))

    by-rule : (st : Step) (c : ℕ) (r : Rule) → Facts s i b st c r → Kept-by st c r
    by-rule st c S1 f = do-S1 s v I i b g st c f.0
    by-rule st c S2 f = do-S2 s v I i b g st c f.0
    by-rule st c S3 f = do-S3 s v I i b g st c f.0 f.1 f.2
    by-rule st c R1 f = read-1 st c f.1.0 f.1.1 f.1.2 f
    by-rule st c R2 f = read-2 st c f.1.0 f.1.1 f.1.2 f
    by-rule st c R3 f = read-3 st c f.1.0 f.1.1 f.1.2 f
    by-rule st c W1 f = write-1 st c f.1.0 f.1.1 f.1.2 f.0 f.2
    by-rule st c W2 f = write-1 st c f.1.0 f.1.1 f.1.2 f.0 f.2
    by-rule st c P f = do-P s v I i b g st c f.0 f.1
    by-rule st c Rt f = do-Rt s v I i b g st f.0 c f.1
    by-rule st c Rb f = do-Rb s v I i b g st c f
    by-rule st c E f = do-E s v I i b g st c f.0 f.1
    by-rule st c V1 f = do-V1 s v I i b g st c f.0 f.2
    by-rule st c V2 f = do-V2 s v I i b g st c f.0 f.2
    by-rule st c V3 f = do-V3 s v I i b g st c f.0 f.1 f.2 f.3
    by-rule st c V4 f = do-V4 s v I i b g st c f.0 f.1
    by-rule st c C1 f = do-C1 s v I (no-right f.0) c (at s.jobs c) refl
    by-rule st c C2 f = do-C2 s v I i b g st c f.0 f.2 (none-marked f.1)
    by-rule st c C3 f = do-C3 s v I i b g st c f.0 f.2

  turn-of : (s : State) (v : View) → Inv programs C₀ s v → (i : ℕ) (o : Option JobState) → at s.jobs i ≡ o → Kept programs C₀ v s (turn_of s i o).next (turn_of s i o).events
  turn-of s v I i None e = unchanged programs C₀ s v I
  turn-of s v I i (Some b) e = turn-cases s i b (λ o. Kept programs C₀ v s o.next o.events) (λ r. unchanged programs C₀ s v I) (by-rule s v I i b e)

  pub turn_keeps : (s : State) (v : View) → Inv programs C₀ s v → (i : ℕ) → Kept programs C₀ v s (turn s i).next (turn s i).events
  turn_keeps s v I i = turn-of s v I i (at s.jobs i) refl
