-- What holds of a run between its calls.
use Rattle.std.proofs.Common.{◌≡◌, ℕ, ◌+◌, ◌-◌, ◌*◌, ◌%◌, ◌^◌, ◌≤◌, Bool, true, false, cond, ◌⊎◌, List, [], ◌∷◌, ◌++◌, map, length, Some, None, Option, sym, refl, ap, ◌∙◌, subst, inl, inr, arith}
use Rattle.model.specs.Logs.{Log, find, lowest, changed, cell_of, set_all, at}
use Rattle.model.specs.Replay.{Note, Player, Play, Parts, Request, requests, beginning, play_job, play_party, plays, replayed}
use Rattle.model.specs.Rules.{JobState, CorrectionState, State, Event, Started, with_mark, unmark}
use Rattle.model.specs.Law.{WellFormed, same, Member, result, count_of, is_taking, is_setting}
use Rattle.model.specs.declared.Step.{Step}
use Rattle.model.specs.declared.Stage.{Stage}
use Rattle.model.specs.declared.Stage.TheVariants.{Start, At, Rollback, Validate, Commit, Done}
use Rattle.model.specs.declared.Party.{Party}
use Rattle.model.specs.declared.Party.TheVariants.{Job, Correction}
use Rattle.model.proofs.Basics.{sum, zero_one}
use Rattle.model.proofs.LogLaws.{Agrees, Sized, Means}
use Rattle.model.proofs.Follow.{Follows}
use Rattle.model.proofs.Views.{View, advance, stir}

-- What a job's standing depends on beside the job: the cells, the right, the cells that the order so far leaves, and the order.
pub record Scene : Type 0 where
  pub cells : List ℕ
  pub right : Option ℕ
  pub base : List ℕ
  pub order : List Party

abbrev pub scene : State → List ℕ → Scene
scene s base = record { cells = s.cells; right = s.right; base = base; order = s.order }

abbrev pub player : ℕ → JobState → List Note → List ℕ → Player
player n b notes readings = record { place = n; registers = b.registers; notes = notes; readings = readings }

abbrev pub finished : List ℕ → List ℕ → Play
finished readings cells = record { readings = readings; ended = true; cells = cells }

-- The job stands where a player would, on all cells that agree with its read log.
abbrev pub Tracks : ℕ → JobState → List ℕ → Type 0
Tracks n b readings = (notes : List Note) × Means b.writes notes × Follows b.program b.reads (player n b notes readings)

-- Played on cells that agree with some log the job ends, and each entry of that log is still in the read log or current.
abbrev pub Validating : List ℕ → JobState → List ℕ → Type 0
Validating C b readings =
    (log : Log)
    × ((D : List ℕ) → Agrees log D → play_job b.program D ≡ finished readings (set_all b.writes D))
    × ((a v : ℕ) → find log a ≡ Some v → (find b.reads a ≡ Some v) ⊎ (cell_of C a ≡ v))

-- Nothing that the job read has changed.
abbrev pub Fresh : List ℕ → JobState → Type 0
Fresh C b = lowest (changed C) b.reads ≡ None

abbrev pub Stands : Stage → Scene → ℕ → JobState → List ℕ → Bool → Type 0
Stands Start g j b readings stirred = stirred ≡ true
Stands (At n) g j b readings stirred = Tracks n b readings × ((stirred ≡ true) ⊎ Fresh g.cells b)
Stands Rollback g j b readings stirred = stirred ≡ true
Stands Validate g j b readings stirred =
    (b.marked ≡ true → Validating g.cells b readings) × ((stirred ≡ true) ⊎ ((b.marked ≡ true) × (g.right ≡ None) × Fresh g.cells b))
Stands Commit g j b readings stirred = (g.right ≡ Some j) × (play_job b.program g.base ≡ finished readings (set_all b.writes g.cells))
Stands Done g j b readings stirred = Member (Job j) g.order

-- At a step a log has at most as many entries as steps stand before it.
abbrev pub room : Stage → ℕ
room (At n) = n
room stage = 24

pub record JobInv (programs : ℕ → List Step) (g : Scene) (v : View) (j : ℕ) (b : JobState) : Type 0 where
  pub well_formed : WellFormed b.program
  pub program : b.program ≡ programs j
  pub reads : Sized (room b.stage) b.reads
  pub writes : Sized (room b.stage) b.writes
  pub starts : b.starts ≡ v.starts j % 2 ^ 32
  pub stands : Stands b.stage g j b (v.readings (Job j)) (v.stirred j)

-- The script of an open correction, on all cells that agree with its read log.
abbrev pub Answers : List Request → List ℕ → CorrectionState → Type 0
Answers script readings f =
    (notes : List Note) × Means f.writes notes
    × ((C : List ℕ) → Agrees f.reads C → requests C beginning script ≡ record beginning { notes = notes; readings = readings })

pub record CorrectionInv (v : View) (k : ℕ) (f : CorrectionState) : Type 0 where
  pub reads : Sized 24 f.reads
  pub writes : Sized 24 f.writes
  pub answers : f.is_open ≡ true → Answers (v.scripts k) (v.readings (Correction k)) f

abbrev pub Closed : List JobState → List CorrectionState → Party → Type 0
Closed jobs corrections (Job j) = (b : JobState) × (at jobs j ≡ Some b) × (b.stage ≡ Done)
Closed jobs corrections (Correction k) = (f : CorrectionState) × (at corrections k ≡ Some f) × (f.is_open ≡ false)

abbrev pub parts_in : (ℕ → List Step) → View → Parts
parts_in programs v = record { programs = programs; scripts = v.scripts }

abbrev pub told : View → Party → List ℕ × Bool
told v p = (v.readings p, true)

-- The order so far, replayed from the cells at sealing, leaves base and reads what was read.
abbrev pub Replays : (ℕ → List Step) → List ℕ → View → List Party → List ℕ → Type 0
Replays programs C₀ v order base =
    (replayed (parts_in programs v) order C₀ ≡ base) × (map result (plays (parts_in programs v) order C₀) ≡ map (told v) order)

pub record Inv (programs : ℕ → List Step) (C₀ : List ℕ) (s : State) (v : View) : Type 0 where
  pub base : List ℕ
  pub jobs : (j : ℕ) (b : JobState) → at s.jobs j ≡ Some b → JobInv programs (scene s base) v j b
  pub corrections : (k : ℕ) (f : CorrectionState) → at s.corrections k ≡ Some f → CorrectionInv v k f
  pub holder : (h : ℕ) → s.right ≡ Some h → (b : JobState) × (at s.jobs h ≡ Some b) × (b.stage ≡ Commit)
  pub rest : s.right ≡ None → base ≡ s.cells
  pub replays : Replays programs C₀ v s.order base
  pub closed : (p : Party) → Member p s.order → Closed s.jobs s.corrections p
  pub takings : s.takings ≡ v.takings % 2 ^ 32
  pub settings : s.settings ≡ v.settings % 2 ^ 32

-- A start comes only where another party stirred.
abbrev pub FairAt : ℕ → Bool → Event → Type 0
FairAt j acc (Started p) = same (Job j) p ≡ true → acc ≡ true
FairAt j acc event = Unit {0}

abbrev pub Fair : ℕ → Bool → List Event → Type 0
Fair j acc [] = Unit {0}
Fair j acc (e ∷ es) = FairAt j acc e × Fair j (stir j acc e) es

-- How many takings and settings are still to come at most: 25 of each job that has not taken the right and of each correction not closed.
abbrev pub load : Stage → Log → ℕ
load Commit log = length log
load Done log = 0
load stage log = 25

abbrev pub job_load : JobState → ℕ
job_load b = load b.stage b.writes

abbrev pub correction_load : CorrectionState → ℕ
correction_load f = cond f.is_open 25 0

abbrev pub corrections_load : List CorrectionState → ℕ
corrections_load fs = sum correction_load fs + 25 * (8 - length fs)

abbrev pub remaining : State → ℕ
remaining s = sum job_load s.jobs + corrections_load s.corrections

abbrev pub spent : List Event → ℕ
spent es = count_of is_taking es + count_of is_setting es

-- What a call keeps and what it spends.
pub record Kept (programs : ℕ → List Step) (C₀ : List ℕ) (v : View) (s t : State) (es : List Event) : Type 0 where
  pub inv : Inv programs C₀ t (advance v es)
  pub fair : (j : ℕ) → Fair j (v.stirred j) es
  pub spends : spent es + remaining t ≤ remaining s

pub unchanged : (programs : ℕ → List Step) (C₀ : List ℕ) (s : State) (v : View) → Inv programs C₀ s v → Kept programs C₀ v s s []
unchanged programs C₀ s v I = record { inv = I; fair = λ j. tt; spends = omega arith }

-- A job that another party's act leaves as it was.
pub stands_on : (st : Stage) (g g' : Scene) (j : ℕ) (b : JobState) (readings : List ℕ) (stirred stirred' : Bool) →
    (b.marked ≡ true → g'.cells ≡ g.cells) →
    ((stirred' ≡ true) ⊎ ((stirred' ≡ stirred) × (g'.cells ≡ g.cells) × (g.right ≡ None → g'.right ≡ None))) →
    (g.right ≡ Some j → (g'.right ≡ Some j) × (g'.base ≡ g.base) × (g'.cells ≡ g.cells)) →
    (Member (Job j) g.order → Member (Job j) g'.order) →
    Stands st g j b readings stirred → Stands st g' j b readings stirred'
stands_on (At n) g g' j b readings a a' hc hs hr ho x = (
  x.0,
  elim hs [
    | inl t ↦ inl t
    | inr t ↦ elim x.1 [ inl y ↦ inl (t.0 ∙ y) | inr y ↦ inr (subst (λ C. Fresh C b) (sym t.1) y) ]
  ],
)
stands_on Validate g g' j b readings a a' hc hs hr ho x = (
  (λ m. subst (λ C. Validating C b readings) (sym (hc m)) (x.0 m)),
  elim hs [
    | inl t ↦ inl t
    | inr t ↦ elim x.1 [ inl y ↦ inl (t.0 ∙ y) | inr y ↦ inr (y.0, t.2 y.1, subst (λ C. Fresh C b) (sym t.1) y.2) ]
  ],
)
stands_on Commit g g' j b readings a a' hc hs hr ho x =
    let h = hr x.0 in
    (h.0, ap (play_job b.program) h.1 ∙ (x.1 ∙ ap (λ C. finished readings (set_all b.writes C)) (sym h.2)))
stands_on Done g g' j b readings a a' hc hs hr ho x = ho x
stands_on st g g' j b readings a a' hc hs hr ho x = elim hs [ inl t ↦ t | inr t ↦ t.0 ∙ x ]

-- A job whose mark is removed.
pub stands_unmarked : (st : Stage) (g : Scene) (j : ℕ) (b : JobState) (readings : List ℕ) (stirred : Bool) →
    ((stirred ≡ true) ⊎ (g.right ≡ None → ⊥)) → Stands st g j b readings stirred → Stands st g j (unmark b) readings stirred
stands_unmarked Validate g j b readings a h x = (
  (λ m. zero_one (cc)),
  inl (elim h [ inl t ↦ t | inr n ↦ elim x.1 [ inl y ↦ y | inr y ↦ absurd (n y.1) ] ]),
)
stands_unmarked st g j b readings a h x = x

-- A job, perhaps with another mark, where it is told how it stands then.
pub job_on : (programs : ℕ → List Step) (g g' : Scene) (v w : View) (j : ℕ) (b : JobState) (marked : Bool) → JobInv programs g v j b → w.starts j ≡ v.starts j →
    Stands b.stage g' j (with_mark b marked) (w.readings (Job j)) (w.stirred j) → JobInv programs g' w j (with_mark b marked)
job_on programs g g' v w j b marked x starts stands = record {
  well_formed = x.well_formed;
  program = x.program;
  reads = x.reads;
  writes = x.writes;
  starts = x.starts ∙ ap (λ a. a % 2 ^ 32) (sym starts);
  stands = stands;
}

-- The replay of an order does not change where nothing new is said of its parties.
pub replays_on : (programs : ℕ → List Step) (C₀ : List ℕ) (v w : View) (order : List Party) (base : List ℕ) →
    ((p : Party) → Member p order → w.readings p ≡ v.readings p) → ((k : ℕ) → Member (Correction k) order → w.scripts k ≡ v.scripts k) →
    Replays programs C₀ v order base → Replays programs C₀ w order base
replays_on programs C₀ v w [] base h q x = x
replays_on programs C₀ v w (p ∷ order) base h q x =
    let e : play_party (parts_in programs w) p C₀ ≡ play_party (parts_in programs v) p C₀ = alike p (λ k m. q k (inl (sym m))) in
    let D : List ℕ = (play_party (parts_in programs v) p C₀).cells in
    let y : map result (plays (parts_in programs v) order D) ≡ map (told v) order = cc in
    let z : result (play_party (parts_in programs v) p C₀) ≡ told v p = cc in
    let r = replays_on programs D v w order base (λ a m. h a (inr m)) (λ k m. q k (inr m)) (x.0, y) in (
      ap (λ P. replayed (parts_in programs w) order P.cells) e ∙ r.0,
      ap (λ P. result P ∷ map result (plays (parts_in programs w) order P.cells)) e
          ∙ ((λ i. z i ∷ r.1 i) ∙ ap (λ u. (u, true) ∷ map (told w) order) (sym (h p (inl refl)))),
    )
  where
    alike : (p : Party) → ((k : ℕ) → p ≡ Correction k → w.scripts k ≡ v.scripts k) → play_party (parts_in programs w) p C₀ ≡ play_party (parts_in programs v) p C₀
    alike (Job j) h = refl
    alike (Correction k) h = ap (λ script. play_party (record { programs = programs; scripts = λ n. script }) (Correction k) C₀) (h k refl)

-- One entry more, played on what the others leave.
pub replays-push : (programs : ℕ → List Step) (C₀ : List ℕ) (v : View) (order : List Party) (p : Party) (base cells : List ℕ) →
    Replays programs C₀ v order base → play_party (parts_in programs v) p base ≡ finished (v.readings p) cells → Replays programs C₀ v (order ++ p ∷ []) cells
replays-push programs C₀ v [] p base cells x e =
    let q : play_party (parts_in programs v) p C₀ ≡ finished (v.readings p) cells = ap (play_party (parts_in programs v) p) x.0 ∙ e in
    (ap (λ P. P.cells) q, ap (λ P. result P ∷ []) q)
replays-push programs C₀ v (a ∷ order) p base cells x e =
    let D : List ℕ = (play_party (parts_in programs v) a C₀).cells in
    let y : map result (plays (parts_in programs v) order D) ≡ map (told v) order = cc in
    let z : result (play_party (parts_in programs v) a C₀) ≡ told v a = cc in
    let r = replays-push programs D v order p base cells (x.0, y) e in
    (r.0, λ i. z i ∷ r.1 i)
