-- The correction calls keep what holds of a run.
use Rattle.std.proofs.Common.{◌≡◌, ℕ, suc, ◌+◌, ◌%◌, ◌^◌, ◌<◌, ◌≤◌, Bool, true, false, cond, eqb, ltb, ◌⊎◌, List, [], ◌∷◌, ◌++◌, map, length, Some, None, Option, Result, unwrap_or, sym, refl, ap, ◌∙◌, subst, inl, inr, arith, length-append, ltb-true, eq-eqb, ne_eqb}
use borrow.Author.Tests.{eqb-false}
use Rattle.model.specs.Logs.{Log, find, put, lowest, cell_of, changed, set_all, at, put_at, foldl}
use Rattle.model.specs.Replay.{Player, Request, Reads, Writes, request, requests, beginning, ends, play_correction}
use Rattle.model.specs.Rules.{JobState, CorrectionState, State, Event, Started, ReadCell, WroteCell, TookRight, unmark}
use Rattle.model.specs.Calls.{Outcome, SlipNumbers, with_corrections, correction, open_correction, if_open, held, read_gives, read_logged, read_by, write_gives, write_logged, write_by, filed, file_checked, file_by, withdraw_by}
use Rattle.model.specs.Law.{same, is_taking, is_setting, count_of, Member}
use Rattle.model.specs.declared.Refusal.{Refusal}
use Rattle.model.specs.declared.Step.{Step}
use Rattle.model.specs.declared.Party.{Party}
use Rattle.model.specs.declared.Party.TheVariants.{Job, Correction}
use Rattle.model.proofs.Basics.{by_bool, by_cond, zero_one, at-put-same, at-put-other, each-put, at-append-old, at-append-cases, at_length, at_map, at-map-to, member-left, member-push, sum, sum-put, sum-push, length-put}
use Rattle.model.proofs.LogLaws.{Agrees, agrees_put, unchanged_agrees, Sized, sized_none, sized_put, sized_put_old, note, means_none, means_put}
use Rattle.model.proofs.Views.{stir, tick, ticked, View, advance, same_self, AllBy, readings-other, requested-other, started-other, filing, filing_by, filing_readings, filing_requested, filing_stirs, filing_takes, filing_sets}
use Rattle.model.proofs.Invariant.{Scene, scene, finished, Stands, JobInv, Answers, CorrectionInv, Closed, Inv, Fair, job_load, correction_load, corrections_load, spent, Kept, unchanged, stands_on, stands_unmarked, job_on, replays_on, replays-push}
use Rattle.model.proofs.Acts.{wraps, replays-still}

-- The correction of a slip that is taken is open.
pub held_open : (s : State) (slip : SlipNumbers) (f : CorrectionState) → held s slip ≡ Some f → (at s.corrections slip.correction ≡ Some f) × (f.is_open ≡ true)
held_open s slip f e =
    by_bool (eqb slip.run s.number)
    (λ t. one (at s.corrections slip.correction) (sym (ap (λ z. cond z (if_open (at s.corrections slip.correction)) None) t) ∙ e))
    (λ t. let q : None ≡ Some f = sym (ap (λ z. cond z (if_open (at s.corrections slip.correction)) None) t) ∙ e in zero_one (cc))
  where
    one : (o : Option CorrectionState) → if_open o ≡ Some f → (o ≡ Some f) × (f.is_open ≡ true)
    one None e = zero_one (cc)
    one (Some x) e =
        by_bool x.is_open
        (λ t. let q : Some x ≡ Some f = sym (ap (λ z. cond z (Some x) None) t) ∙ e in let u : x ≡ f = cc in (q, ap (λ z. z.is_open) (sym u) ∙ t))
        (λ t. let q : None ≡ Some f = sym (ap (λ z. cond z (Some x) None) t) ∙ e in zero_one (cc))

-- A party of the order is not an open correction, and stays closed where that one changes.
not_closed : (bs : List JobState) (fs : List CorrectionState) (k : ℕ) (f : CorrectionState) → at fs k ≡ Some f → f.is_open ≡ true →
    (p : Party) → Closed bs fs p → same p (Correction k) ≡ false
not_closed bs fs k f g l (Job j) x = refl
not_closed bs fs k f g l (Correction n) x =
    ne_eqb n k (λ q.
    let z : Some x.0 ≡ Some f = sym x.1 ∙ (ap (at fs) q ∙ g) in
    let y : x.0 ≡ f = cc in
    let a : true ≡ false = sym (ap (λ t. t.is_open) y ∙ l) ∙ x.2 in
    zero_one (cc))

still_closed : (bs : List JobState) (fs : List CorrectionState) (k : ℕ) (f f' : CorrectionState) → at fs k ≡ Some f → f.is_open ≡ true →
    (p : Party) → Closed bs fs p → Closed bs (put_at fs k f') p
still_closed bs fs k f f' g l (Job j) x = x
still_closed bs fs k f f' g l (Correction n) x =
    let d : same (Correction n) (Correction k) ≡ false = not_closed bs fs k f g l (Correction n) x in
    (x.0, at-put-other fs k n f' (λ q. eqb-false n k d (sym q)) ∙ x.1, x.2)

-- A correction of which nothing new is said.
answers_on : (v w : View) (k : ℕ) (f : CorrectionState) → w.readings (Correction k) ≡ v.readings (Correction k) → w.scripts k ≡ v.scripts k → CorrectionInv v k f → CorrectionInv w k f
answers_on v w k f a q x = record {
  reads = x.reads;
  writes = x.writes;
  answers = λ o. subst (λ z. Answers z (w.readings (Correction k)) f) (sym q) (subst (λ z. Answers (v.scripts k) z f) (sym a) (x.answers o));
}

requests-append : (C : List ℕ) (p : Player) (xs : List Request) (q : Request) → requests C p (xs ++ q ∷ []) ≡ request C (requests C p xs) q
requests-append C p [] q = refl
requests-append C p (x ∷ xs) q = requests-append C (request C p x) xs q

-- The load of the corrections where one changes.
load-put : (fs : List CorrectionState) (k : ℕ) (f f' : CorrectionState) → at fs k ≡ Some f → f.is_open ≡ true → corrections_load (put_at fs k f') ≤ corrections_load fs
load-put fs k f f' g l =
    let u : correction_load f ≡ 25 = ap (λ z. cond z 25 0) l in
    let m : correction_load f' ≤ 25 = by_cond (λ (n : ℕ). n ≤ 25) f'.is_open 25 0 (λ t. omega arith) (λ t. omega arith) in
    omega (arith, sum-put correction_load fs k f f' g, length-put fs k f')

module _ (programs : ℕ → List Step) (C₀ : List ℕ) where
  -- One open correction alone changes.
  act : (s : State) (v : View) (I : Inv programs C₀ s v) (k : ℕ) (f f' : CorrectionState) (es : List Event) →
      at s.corrections k ≡ Some f → f.is_open ≡ true → AllBy (Correction k) es →
      ((j : ℕ) (acc : Bool) → foldl (stir j) acc es ≡ acc) → ((n : ℕ) → foldl (tick is_taking) n es ≡ n) → ((n : ℕ) → foldl (tick is_setting) n es ≡ n) → spent es ≡ 0 →
      ((j : ℕ) → Fair j (v.stirred j) es) →
      CorrectionInv (advance v es) k f' → Kept programs C₀ v s (with_corrections s (put_at s.corrections k f')) es
  act s v I k f f' es g l m stirs takes sets costs fair own = record {
    inv = record {
      base = I.base;
      jobs = λ j b e.
          let x = I.jobs j b e in
          job_on programs _ _ v (advance v es) j b b.marked x (started-other (Correction k) es m j refl (v.starts j))
          (subst (λ t. Stands b.stage (scene s I.base) j b t ((advance v es).stirred j)) (sym (readings-other (Correction k) es m (Job j) refl (v.readings (Job j))))
          (subst (λ t. Stands b.stage (scene s I.base) j b (v.readings (Job j)) t) (sym (stirs j (v.stirred j))) x.stands));
      corrections = each-put (CorrectionInv (advance v es)) s.corrections k f f' g own
          (λ n z ne e.
          let d : same (Correction n) (Correction k) ≡ false = ne_eqb n k (λ q. ne (sym q)) in
          answers_on v (advance v es) n z (readings-other (Correction k) es m (Correction n) d (v.readings (Correction n))) (requested-other (Correction k) es m n d (v.scripts n)) (I.corrections n z e));
      holder = I.holder;
      rest = I.rest;
      replays = replays-still programs C₀ s v I (Correction k) es m (λ p n. not_closed s.jobs s.corrections k f g l p (I.closed p n));
      closed = λ p n. still_closed s.jobs s.corrections k f f' g l p (I.closed p n);
      takings = I.takings ∙ ap (λ a. a % 2 ^ 32) (sym (takes v.takings));
      settings = I.settings ∙ ap (λ a. a % 2 ^ 32) (sym (sets v.settings));
    };
    fair = fair;
    spends = omega (arith, costs, load-put s.corrections k f f' g l);
  }

  pub open-keeps : (s : State) (v : View) → Inv programs C₀ s v → Kept programs C₀ v s (open_correction s).next (open_correction s).events
  open-keeps s v I =
      by_cond (λ (o : Outcome (Result SlipNumbers Refusal)). Kept programs C₀ v s o.next o.events) (ltb (length s.corrections) 8) _ _
      (λ t.
      let lt : length s.corrections < 8 = ltb-true (length s.corrections) 8 t in
      let l = length-append s.corrections (correction true [] [] ∷ []) in
      record {
        inv = record {
          base = I.base;
          jobs = λ j b e. let x = I.jobs j b e in job_on programs _ _ v (advance v es) j b b.marked x refl x.stands;
          corrections = λ n f e. own n f (at-append-cases s.corrections (correction true [] []) n f e);
          holder = I.holder;
          rest = I.rest;
          replays = replays-still programs C₀ s v I (Correction k) es (refl, tt) (λ p m. new p (I.closed p m));
          closed = λ p m. old p (I.closed p m);
          takings = I.takings;
          settings = I.settings;
        };
        fair = λ j. ((λ q. zero_one (cc)), tt);
        spends = omega (arith, sum-push correction_load s.corrections (correction true [] []));
      })
      (λ t. unchanged programs C₀ s v I)
    where
      k : ℕ
      k = suc (length s.corrections)

      es : List Event
      es = Started (Correction (suc (length s.corrections))) ∷ []

      is-new : (n : ℕ) (f : CorrectionState) → at s.corrections n ≡ Some f → eqb n (suc (length s.corrections)) ≡ false
      is-new n f e = ne_eqb n (suc (length s.corrections)) (λ q. let z : None ≡ Some f = sym (at_length s.corrections) ∙ (ap (at s.corrections) (sym q) ∙ e) in zero_one (cc))

      new : (p : Party) → Closed s.jobs s.corrections p → same p (Correction (suc (length s.corrections))) ≡ false
      new (Job j) x = refl
      new (Correction n) x = is-new n x.0 x.1

      old : (p : Party) → Closed s.jobs s.corrections p → Closed s.jobs (s.corrections ++ correction true [] [] ∷ []) p
      old (Job j) x = x
      old (Correction n) x = (x.0, at-append-old s.corrections (correction true [] [] ∷ []) n x.0 x.1, x.2)

      first : (n : ℕ) → n ≡ suc (length s.corrections) → CorrectionInv (advance v es) n (correction true [] [])
      first n q =
          let d : eqb n (suc (length s.corrections)) ≡ true = eq-eqb n (suc (length s.corrections)) q in
          record {
            reads = sized_none 24 [] refl;
            writes = sized_none 24 [] refl;
            answers = λ o. (
              [],
              means_none,
              λ C ag. ap (λ z. requests C beginning (cond z [] (v.scripts n))) d ∙ (λ i. record beginning { readings = cond (sym d i) [] (v.readings (Correction n)) }),
            );
          }

      own : (n : ℕ) (f : CorrectionState) → (at s.corrections n ≡ Some f) ⊎ ((n ≡ suc (length s.corrections)) × (correction true [] [] ≡ f)) → CorrectionInv (advance v es) n f
      own n f (inl e) =
          let d : same (Correction n) (Correction k) ≡ false = is-new n f e in
          answers_on v (advance v es) n f (readings-other (Correction k) es (refl, tt) (Correction n) d (v.readings (Correction n))) (requested-other (Correction k) es (refl, tt) n d (v.scripts n)) (I.corrections n f e)
      own n f (inr p) = subst (CorrectionInv (advance v es) n) p.1 (first n p.0)

  module _ (s : State) (v : View) (I : Inv programs C₀ s v) (k : ℕ) (f : CorrectionState) (g : at s.corrections k ≡ Some f) (l : f.is_open ≡ true) where
    own : CorrectionInv v k f
    own = I.corrections k f g

    self : same (Correction k) (Correction k) ≡ true
    self = same_self (Correction k)

    read-on : (c w : ℕ) (rd : Log) → Sized 24 rd → ((C : List ℕ) → Agrees rd C → Agrees f.reads C × (unwrap_or (find f.writes c) (cell_of C c) ≡ w)) →
        Kept programs C₀ v s (read_gives s k f c w rd).next (ReadCell (Correction k) c w ∷ [])
    read-on c w rd sized step =
        let es : List Event = ReadCell (Correction k) c w ∷ [] in
        let readings : List ℕ = v.readings (Correction k) in
        let a = own.answers l in
        let t : cond (same (Correction k) (Correction k)) (readings ++ w ∷ []) readings ≡ readings ++ w ∷ [] = ap (λ z. cond z (readings ++ w ∷ []) readings) self in
        let q : cond (same (Correction k) (Correction k)) (v.scripts k ++ Reads c ∷ []) (v.scripts k) ≡ v.scripts k ++ Reads c ∷ [] = ap (λ z. cond z (v.scripts k ++ Reads c ∷ []) (v.scripts k)) self in
        act s v I k f (correction true rd f.writes) es g l (refl, tt) (λ j acc. refl) (λ n. refl) (λ n. refl) refl (λ j. (tt, tt))
        (record {
          reads = sized;
          writes = own.writes;
          answers = λ o. (
            a.0,
            a.1,
            λ C ag.
                ap (requests C beginning) q
                ∙ (requests-append C beginning (v.scripts k) (Reads c)
                ∙ (ap (λ p. request C p (Reads c)) (a.2 C (step C ag).0)
                ∙ ((λ i. record beginning { notes = a.0; readings = readings ++ (a.1.finds C c ∙ (step C ag).1) i ∷ [] })
                ∙ (λ i. record beginning { notes = a.0; readings = sym t i })))),
          );
        })

    read-logged : (c : ℕ) (o p : Option ℕ) → find f.writes c ≡ o → find f.reads c ≡ p →
        Kept programs C₀ v s (read_logged s k f c o p).next (read_logged s k f c o p).events
    read-logged c (Some w) p e h = read-on c w f.reads own.reads (λ C ag. (ag, ap (λ o. unwrap_or o (cell_of C c)) e))
    read-logged c None (Some w) e h = read-on c w f.reads own.reads (λ C ag. (ag, ap (λ o. unwrap_or o (cell_of C c)) e ∙ ag c w h))
    read-logged c None None e h =
        by_cond (λ (o : Outcome (Result ℕ Refusal)). Kept programs C₀ v s o.next o.events) (ltb (length f.reads) 24) _ _
        (λ t.
        let lt : length f.reads < 24 = ltb-true (length f.reads) 24 t in
        let w : ℕ = cell_of s.cells c in
        read-on c w (put f.reads c w) (sized_put 23 c w f.reads (own.reads.0, omega arith))
        (λ C ag. let q = agrees_put f.reads C c w h ag in (q.0, ap (λ o. unwrap_or o (cell_of C c)) e ∙ q.1)))
        (λ t. unchanged programs C₀ s v I)

    write-on : (c w : ℕ) → Sized 24 (put f.writes c w) → Kept programs C₀ v s (write_gives s k f c w).next (WroteCell (Correction k) c w ∷ [])
    write-on c w sized =
        let es : List Event = WroteCell (Correction k) c w ∷ [] in
        let a = own.answers l in
        let q : cond (same (Correction k) (Correction k)) (v.scripts k ++ Writes c w ∷ []) (v.scripts k) ≡ v.scripts k ++ Writes c w ∷ [] = ap (λ z. cond z (v.scripts k ++ Writes c w ∷ []) (v.scripts k)) self in
        act s v I k f (correction true f.reads (put f.writes c w)) es g l (refl, tt) (λ j acc. refl) (λ n. refl) (λ n. refl) refl (λ j. (tt, tt))
        (record {
          reads = own.reads;
          writes = sized;
          answers = λ o. (
            note c w ∷ a.0,
            means_put f.writes a.0 c w own.writes.0 a.1,
            λ C ag. ap (requests C beginning) q ∙ (requests-append C beginning (v.scripts k) (Writes c w) ∙ ap (λ p. request C p (Writes c w)) (a.2 C ag)),
          );
        })

    write-logged : (c w : ℕ) (o : Option ℕ) → find f.writes c ≡ o → Kept programs C₀ v s (write_logged s k f c w o).next (write_logged s k f c w o).events
    write-logged c w (Some x) e = write-on c w (sized_put_old 24 c w x f.writes e own.writes)
    write-logged c w None e =
        by_cond (λ (o : Outcome (Result (Unit {0}) Refusal)). Kept programs C₀ v s o.next o.events) (ltb (length f.writes) 24) _ _
        (λ t. let lt : length f.writes < 24 = ltb-true (length f.writes) 24 t in write-on c w (sized_put 23 c w f.writes (own.writes.0, omega arith)))
        (λ t. unchanged programs C₀ s v I)

    withdraw-on : Kept programs C₀ v s (withdraw_by s k (Some f)).next []
    withdraw-on =
        act s v I k f (correction false f.reads f.writes) [] g l tt (λ j acc. refl) (λ n. refl) (λ n. refl) refl (λ j. tt)
        (record { reads = own.reads; writes = own.writes; answers = λ o. zero_one (cc) })

    file-on : s.right ≡ None → lowest (changed s.cells) f.reads ≡ None → Kept programs C₀ v s (filed s k f).next (filed s k f).events
    file-on r d = record {
      inv = record {
        base = D;
        jobs = λ j z e. job-after j z (at_map unmark s.jobs j z e);
        corrections = each-put (CorrectionInv w) s.corrections k f f' g
            (record { reads = own.reads; writes = own.writes; answers = λ o. zero_one (cc) })
            (λ n z ne e. answers_on v w n z (filing_readings k (Correction n) (v.readings (Correction n)) f.writes) (filing_requested k n (v.scripts n) f.writes) (I.corrections n z e));
        holder = λ h e. zero_one (cc);
        rest = λ e. refl;
        replays = replays_on programs C₀ v w (s.order ++ Correction k ∷ []) D
            (λ p m. filing_readings k p (v.readings p) f.writes) (λ n m. filing_requested k n (v.scripts n) f.writes)
            (replays-push programs C₀ v s.order (Correction k) I.base D I.replays played);
        closed = λ p m. closed_after p (member-push p (Correction k) s.order m);
        takings = wraps v.takings s.takings I.takings ∙ ap (λ a. a % 2 ^ 32) (sym (filing_takes k (suc v.takings) f.writes));
        settings = sets_more ∙ ap (λ a. a % 2 ^ 32) (sym (filing_sets k v.settings f.writes));
      };
      fair = λ j. (tt, filing-fair j true f.writes);
      spends =
          let u : correction_load f ≡ 25 = ap (λ z. cond z 25 0) l in
          omega (arith, filing-spends, sum-put correction_load s.corrections k f f' g, length-put s.corrections k f', load-unmarked s.jobs, own.writes.1);
    }
      where
        D : List ℕ
        D = set_all f.writes s.cells

        f' : CorrectionState
        f' = correction false f.reads f.writes

        es : List Event
        es = TookRight (Correction k) ∷ filing k f.writes

        w : View
        w = advance v (TookRight (Correction k) ∷ filing k f.writes)

        base-is : I.base ≡ s.cells
        base-is = I.rest r

        played : play_correction (v.scripts k) I.base ≡ finished (v.readings (Correction k)) D
        played =
            let a = own.answers l in
            ap (play_correction (v.scripts k)) base-is
            ∙ (ap (ends s.cells) (a.2 s.cells (unchanged_agrees s.cells f.reads d))
            ∙ ap (finished (v.readings (Correction k))) (a.1.sets s.cells))

        g' : Scene
        g' = scene (filed s k f).next (set_all f.writes s.cells)

        stands_after : (j : ℕ) (x : JobState) → at s.jobs j ≡ Some x → Stands x.stage g' j (unmark x) (v.readings (Job j)) true
        stands_after j x e =
            let g0 : Scene = scene s I.base in
            let a : Stands x.stage g0 j x (v.readings (Job j)) true =
            stands_on x.stage g0 g0 j x (v.readings (Job j)) (v.stirred j) true (λ m. refl) (inl refl) (λ q. (q, refl, refl)) (λ m. m) (I.jobs j x e).stands in
            stands_on x.stage g0 g' j (unmark x) (v.readings (Job j)) true true (λ m. zero_one (cc)) (inl refl) (λ q. zero_one (cc)) (member-left (Job j) s.order (Correction k ∷ []))
            (stands_unmarked x.stage g0 j x (v.readings (Job j)) true (inl refl) a)

        job-after : (j : ℕ) (z : JobState) → (x : JobState) × (at s.jobs j ≡ Some x) × (unmark x ≡ z) → JobInv programs g' w j z
        job-after j z p =
            subst (JobInv programs g' w j) p.2
            (job_on programs _ g' v w j p.0 false (I.jobs j p.0 p.1) (started-other (Correction k) (filing k f.writes) (filing_by k f.writes) j refl (v.starts j))
            (subst (λ t. Stands p.0.stage g' j (unmark p.0) t (w.stirred j)) (sym (filing_readings k (Job j) (v.readings (Job j)) f.writes))
            (subst (λ t. Stands p.0.stage g' j (unmark p.0) (v.readings (Job j)) t) (sym (filing_stirs k j f.writes)) (stands_after j p.0 p.1))))

        closed-old : (p : Party) → Closed s.jobs s.corrections p → Closed (map unmark s.jobs) (put_at s.corrections k f') p
        closed-old (Job j) x = (unmark x.0, at-map-to unmark s.jobs j x.0 x.1, x.2)
        closed-old (Correction n) x = still_closed s.jobs s.corrections k f f' g l (Correction n) x

        closed_after : (p : Party) → Member p s.order ⊎ (p ≡ Correction k) → Closed (map unmark s.jobs) (put_at s.corrections k f') p
        closed_after p (inl m) = closed-old p (I.closed p m)
        closed_after p (inr q) = subst (Closed (map unmark s.jobs) (put_at s.corrections k f')) (sym q) (f', at-put-same s.corrections k f f' g, refl)

        sets_more : (s.settings + length f.writes) % 2 ^ 32 ≡ (v.settings + length f.writes) % 2 ^ 32
        sets_more = let e = I.settings in omega arith

        filing-fair : (j : ℕ) (acc : Bool) (log : Log) → Fair j acc (filing k log)
        filing-fair j acc [] = (tt, tt)
        filing-fair j acc (x ∷ log) = (tt, filing-fair j true log)

        filing-spends : spent (TookRight (Correction k) ∷ filing k f.writes) ≡ suc (length f.writes)
        filing-spends =
            let a = ticked is_taking 0 (filing k f.writes) in
            let b = filing_takes k 0 f.writes in
            let c = ticked is_setting 0 (filing k f.writes) in
            let e = filing_sets k 0 f.writes in
            let x : count_of is_taking (filing k f.writes) ≡ 0 = omega arith in
            let y : count_of is_setting (filing k f.writes) ≡ length f.writes = omega arith in
            let z : suc (count_of is_taking (filing k f.writes)) + count_of is_setting (filing k f.writes) ≡ suc (length f.writes) = omega arith in
            z

        load-unmarked : (bs : List JobState) → sum job_load (map unmark bs) ≡ sum job_load bs
        load-unmarked [] = refl
        load-unmarked (b ∷ bs) = ap (λ n. job_load b + n) (load-unmarked bs)

    file-checked : (o q : Option ℕ) → s.right ≡ o → lowest (changed s.cells) f.reads ≡ q → Kept programs C₀ v s (file_checked s k f o q).next (file_checked s k f o q).events
    file-checked (Some h) q e d = unchanged programs C₀ s v I
    file-checked None (Some c) e d = unchanged programs C₀ s v I
    file-checked None None e d = file-on e d

  module _ (s : State) (v : View) (I : Inv programs C₀ s v) (slip : SlipNumbers) where
    k : ℕ
    k = slip.correction

    pub read_keeps : (c : ℕ) (o : Option CorrectionState) → held s slip ≡ o → Kept programs C₀ v s (read_by s slip.correction c o).next (read_by s slip.correction c o).events
    read_keeps c None e = unchanged programs C₀ s v I
    read_keeps c (Some f) e =
        let h = held_open s slip f e in
        by_cond (λ (o : Outcome (Result ℕ Refusal)). Kept programs C₀ v s o.next o.events) (ltb c (length s.cells)) _ _
        (λ t. read-logged s v I slip.correction f h.0 h.1 c (find f.writes c) (find f.reads c) refl refl) (λ t. unchanged programs C₀ s v I)

    pub write_keeps : (c w : ℕ) (o : Option CorrectionState) → held s slip ≡ o → Kept programs C₀ v s (write_by s slip.correction c w o).next (write_by s slip.correction c w o).events
    write_keeps c w None e = unchanged programs C₀ s v I
    write_keeps c w (Some f) e =
        let h = held_open s slip f e in
        by_cond (λ (o : Outcome (Result (Unit {0}) Refusal)). Kept programs C₀ v s o.next o.events) (ltb c (length s.cells)) _ _
        (λ t. write-logged s v I slip.correction f h.0 h.1 c w (find f.writes c) refl) (λ t. unchanged programs C₀ s v I)

    pub file-keeps : (o : Option CorrectionState) → held s slip ≡ o → Kept programs C₀ v s (file_by s slip.correction o).next (file_by s slip.correction o).events
    file-keeps None e = unchanged programs C₀ s v I
    file-keeps (Some f) e =
        let h = held_open s slip f e in
        file-checked s v I slip.correction f h.0 h.1 s.right (lowest (changed s.cells) f.reads) refl refl

    pub withdraw-keeps : (o : Option CorrectionState) → held s slip ≡ o → Kept programs C₀ v s (withdraw_by s slip.correction o).next (withdraw_by s slip.correction o).events
    withdraw-keeps None e = unchanged programs C₀ s v I
    withdraw-keeps (Some f) e = let h = held_open s slip f e in withdraw-on s v I slip.correction f h.0 h.1
