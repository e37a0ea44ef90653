-- The law of runs: what holds of every sealed run after every list of calls. Assumes nothing.
use Rattle.std.specs.Prelude.{◌≡◌, ℕ, zero, suc, ◌+◌, ◌<◌, ◌≤◌, Bool, true, false, cond, not, ◌⊎◌, List, [], ◌∷◌, ◌++◌, map, length, Some, None, Ok, Err, Option, ◌==◌, slice_set}
use Rattle.std.specs.List.{slice_get}
use Rattle.model.specs.Steps.{no_registers, register}
use Rattle.model.specs.Logs.{Log, Ascending, find, at, put_at, foldl}
use Rattle.model.specs.Replay.{Request, Reads, Writes, Player, Play, Parts, beginning, waits, after_step, play_step, play_job, plays, replayed}
use Rattle.model.specs.Rules.{JobState, CorrectionState, State, Event, Started, ReadCell, WroteCell, TookRight, SetCell, Joined, step_of}
use Rattle.model.specs.Calls.{SlipNumbers, Call, Turn, Settle, Open, Read, Write, File, Answer, OfTurn, OfOpening, OfReading, OfAcceptance, turn, settle, with_corrections, correction, held, call, after, events_of, answers_of}
use Rattle.model.specs.Intake.{Intake, stops, last_stops, admission_fault, new_job, sealed, closed_cells}
use Rattle.model.specs.declared.Party.{Party}
use Rattle.model.specs.declared.Party.TheVariants.{Job, Correction}
use Rattle.model.specs.declared.Step.{Step}
use Rattle.model.specs.declared.Refusal.TheVariants.{LogFull}
use Rattle.model.specs.declared.Rule.{Rule}
use Rattle.model.specs.declared.Rule.TheVariants.{C3}
use Rattle.model.specs.declared.Stage.TheVariants.{At}
use Rattle.model.specs.declared.Step.TheVariants as steps
use Rattle.model.specs.declared.Step.TheVariants.{JumpIfLess, Wait, End}

-- What the law asks of a program: 1 to 24 steps, of which the last waits or ends, and jumps that go forward.
pub record WellFormed (program : List Step) : Type 0 where
  pub some_step : 0 < length program
  pub few_steps : length program ≤ 24
  pub stops_last : last_stops program ≡ true
  pub jumps_forward : (n r q target : ℕ) → slice_get program n ≡ Some (JumpIfLess r q target) → (suc n < target) × (target ≤ length program)

-- An intake of at most 16 such programs.
pub record Admissible (i : Intake) : Type 0 where
  pub few_jobs : length i.programs ≤ 16
  pub well_formed : (j : ℕ) (program : List Step) → at i.programs j ≡ Some program → WellFormed program

abbrev pub same : Party → Party → Bool
same (Job a) (Job b) = a == b
same (Correction a) (Correction b) = a == b
same p q = false

-- What a party read since its last start, in order.
abbrev pub readings_after : Party → List ℕ → Event → List ℕ
readings_after p readings (Started q) = cond (same p q) [] readings
readings_after p readings (ReadCell q cell number) = cond (same p q) (readings ++ number ∷ []) readings
readings_after p readings event = readings

abbrev pub readings_of : List Event → Party → List ℕ
readings_of events p = foldl (readings_after p) [] events

-- A correction's accepted readings and writings since it was opened, in order; the numbers that were answered are left out.
abbrev pub requests_after : ℕ → List Request → Event → List Request
requests_after k requested (Started q) = cond (same (Correction k) q) [] requested
requests_after k requested (ReadCell q cell number) = cond (same (Correction k) q) (requested ++ Reads cell ∷ []) requested
requests_after k requested (WroteCell q cell number) = cond (same (Correction k) q) (requested ++ Writes cell number ∷ []) requested
requests_after k requested event = requested

abbrev pub requests_of : List Event → ℕ → List Request
requests_of events k = foldl (requests_after k) [] events

abbrev pub program_or : Option JobState → List Step
program_or None = []
program_or (Some b) = b.program

abbrev pub program_of : State → ℕ → List Step
program_of s j = program_or (at s.jobs j)

abbrev pub parts_of : State → List Event → Parts
parts_of s events = record { programs = program_of s; scripts = requests_of events }

abbrev pub result : Play → List ℕ × Bool
result p = (p.readings, p.ended)

-- Serial: with the right free, the commit order played one entry at a time from the cells at sealing leaves the run's
-- cells; each entry reads the numbers that it read in the run, in the same order, and ends.
abbrev pub Serial : State → List Call → Type 0
Serial s₀ calls =
    (after s₀ calls).right ≡ None →
    (replayed (parts_of s₀ (events_of s₀ calls)) (after s₀ calls).order s₀.cells ≡ (after s₀ calls).cells)
    × (map result (plays (parts_of s₀ (events_of s₀ calls)) (after s₀ calls).order s₀.cells) ≡ map (λ p. (readings_of (events_of s₀ calls) p, true)) (after s₀ calls).order)

-- Another party than job j took the right or set a cell.
abbrev pub by_other : ℕ → Event → Bool
by_other j (TookRight p) = not (same (Job j) p)
by_other j (SetCell p cell number) = not (same (Job j) p)
by_other j event = false

-- How many events pass a test.
abbrev pub count_of : (Event → Bool) → List Event → ℕ
count_of test [] = 0
count_of test (e ∷ events) = cond (test e) (suc (count_of test events)) (count_of test events)

-- Restarts have a cause: between two starts of a job another party took the right or set a cell.
abbrev pub RestartsHaveACause : List Event → Type 0
RestartsHaveACause events =
    (j : ℕ) (before between later : List Event) → events ≡ before ++ Started (Job j) ∷ (between ++ Started (Job j) ∷ later) → 0 < count_of (by_other j) between

abbrev pub is_start : ℕ → Event → Bool
is_start j (Started p) = same (Job j) p
is_start j event = false

abbrev pub is_taking : Event → Bool
is_taking (TookRight p) = true
is_taking event = false

abbrev pub is_setting : Event → Bool
is_setting (SetCell p cell number) = true
is_setting event = false

-- The counters are exact, and a job's starts are at most one more than takings and settings.
pub record Counted (s : State) (events : List Event) : Type 0 where
  pub takings : s.takings ≡ count_of is_taking events
  pub settings : s.settings ≡ count_of is_setting events
  pub starts : (j : ℕ) (b : JobState) → at s.jobs j ≡ Some b → b.starts ≡ count_of (is_start j) events
  pub bound : (j : ℕ) (b : JobState) → at s.jobs j ≡ Some b → b.starts ≤ 1 + (s.takings + s.settings)

abbrev pub Member : {A : Type 0} → A → List A → Type 0
Member x [] = ⊥
Member x (y ∷ ys) = (x ≡ y) ⊎ Member x ys

-- No one is forgotten: if every job has a turn, in whatever order, and all answer none, each job has committed or waits
-- when it is played alone on the run's cells.
abbrev pub NoOneForgotten : State → Type 0
NoOneForgotten s =
    (js : List ℕ) → ((j : ℕ) (b : JobState) → at s.jobs j ≡ Some b → Member j js) →
    answers_of s (map Turn js) ≡ map (λ j. OfTurn (Ok None)) js →
    (j : ℕ) (b : JobState) → at s.jobs j ≡ Some b → Member (Job j) s.order ⊎ ((play_job b.program s.cells).ended ≡ false)

abbrev pub Ordered : Log → Type 0
Ordered log = Ascending log × (length log ≤ 24)

-- Every log ascends, with each cell once, and has at most 24 entries.
pub record LogsOrdered (s : State) : Type 0 where
  pub of_jobs : (j : ℕ) (b : JobState) → at s.jobs j ≡ Some b → Ordered b.reads × Ordered b.writes
  pub of_corrections : (k : ℕ) (f : CorrectionState) → at s.corrections k ≡ Some f → Ordered f.reads × Ordered f.writes

-- A player after so many steps; one that stands at a step that waits or ends, or at none, stays.
abbrev pub stepped : Option Step → List ℕ → Player → Player
stepped (Some Wait) cells p = p
stepped (Some End) cells p = p
stepped (Some step) cells p = after_step step cells p
stepped None cells p = p

abbrev pub walked : ℕ → List Step → List ℕ → Player → Player
walked zero program cells p = p
walked (suc n) program cells p = walked n program cells (stepped (slice_get program p.place) cells p)

-- The play of a player comes after some steps to one that waits or ends, and is over there: never because it has gone past
-- the last step or taken too many. One that waits is over at a T, and one that ends at an E.
pub record StopsAtStep (program : List Step) (cells : List ℕ) (p : Player) (play : Play) : Type 0 where
  pub count : ℕ
  pub step : Step
  pub here : slice_get program (walked count program cells p).place ≡ Some step
  pub stopping : stops step ≡ true
  pub over : play ≡ play_step (Some step) cells (walked count program cells p) (waits cells)
  pub waiting : play.ended ≡ false → step ≡ Wait
  pub ending : play.ended ≡ true → step ≡ End

-- The parties that joined the commit order, in their order.
abbrev pub joined : List Event → List Party
joined [] = []
joined (Joined p ∷ events) = p ∷ joined events
joined (event ∷ events) = joined events

abbrev pub EachOnce : {A : Type 0} → List A → Type 0
EachOnce [] = Unit {0}
EachOnce (x ∷ xs) = (Member x xs → ⊥) × EachOnce xs

-- The commit order is the parties that joined it, in the order in which they did, each once.
pub record CommitOrder (s : State) (events : List Event) : Type 0 where
  pub as_joined : s.order ≡ joined events
  pub once : EachOnce s.order

abbrev pub joining : Rule → ℕ → List Party
joining C3 j = Job j ∷ []
joining rule j = []

abbrev pub is_settling : Call → Bool
is_settling Settle = true
is_settling c = false

-- Who joins by a call that answers so: the correction of a filing that is accepted, also one that wrote nothing, and the job
-- of a turn by c3.
abbrev pub joiners : Call → Answer → List Party
joiners (File slip) (OfAcceptance (Ok accepted)) = Correction slip.correction ∷ []
joiners (Turn j) (OfTurn (Ok (Some applied))) = joining applied.rule j
joiners c answer = []

-- By every call but a settling, which is turns, they join last, and the order is otherwise as it was.
abbrev pub JoinsLast : State → Type 0
JoinsLast s = (c : Call) → is_settling c ≡ false → (call s c).next.order ≡ s.order ++ joiners c (call s c).answer

-- What each call that answers so adds, in order.
abbrev pub over : {A : Type 0} → (Call → Answer → List A) → List Call → List Answer → List A
over own (c ∷ calls) (answer ∷ answers) = own c answer ++ over own calls answers
over own calls answers = []

-- The number that an accepted reading of a correction answers, and what an accepted reading or writing requests.
abbrev pub answered : ℕ → Call → Answer → List ℕ
answered k (Read slip cell) (OfReading (Ok number)) = cond (k == slip.correction) (number ∷ []) []
answered k c answer = []

abbrev pub accepted : ℕ → Call → Answer → List Request
accepted k (Read slip cell) (OfReading (Ok number)) = cond (k == slip.correction) (Reads cell ∷ []) []
accepted k (Write slip cell number) (OfAcceptance (Ok done)) = cond (k == slip.correction) (Writes cell number ∷ []) []
accepted k c answer = []

-- What a correction read and requested, by what happened, is what its accepted readings answered, and what its accepted
-- readings and writings were.
abbrev pub ReadAsAnswered : State → List Call → Type 0
ReadAsAnswered s₀ calls =
    (k : ℕ) →
    (readings_of (events_of s₀ calls) (Correction k) ≡ over (answered k) calls (answers_of s₀ calls))
    × (requests_of (events_of s₀ calls) k ≡ over (accepted k) calls (answers_of s₀ calls))

-- A number that a job reads goes into the register that the step names.
pub record ReadInto (b b' : JobState) (cell number : ℕ) : Type 0 where
  pub register : ℕ
  pub at_step : step_of b ≡ steps.Read register cell
  pub loaded : b'.registers ≡ slice_set b.registers register number

abbrev pub JobsRead : State → Type 0
JobsRead s =
    (j : ℕ) (b : JobState) → at s.jobs j ≡ Some b → (p : Party) (cell number : ℕ) → Member (ReadCell p cell number) (turn s j).events →
    (p ≡ Job j) × ((b' : JobState) × (at (turn s j).next.jobs j ≡ Some b') × ReadInto b b' cell number)

-- Whether an answer says that nothing was done: a refusal, or a turn to which no rule applied.
abbrev pub is_idle : Answer → Bool
is_idle (OfTurn (Err refusal)) = true
is_idle (OfTurn (Ok None)) = true
is_idle (OfOpening (Err refusal)) = true
is_idle (OfReading (Err refusal)) = true
is_idle (OfAcceptance (Err refusal)) = true
is_idle answer = false

-- Then the call changes nothing, and nothing happens: whichever call it is, with whatever numbers.
abbrev pub IdleChangesNothing : State → Type 0
IdleChangesNothing s = (c : Call) → is_idle (call s c).answer ≡ true → ((call s c).next ≡ s) × ((call s c).events ≡ [])

-- A new job, but that it stands at its one step with a correction's logs, and the run in which it is the only job.
abbrev pub standing : CorrectionState → List ℕ → Step → JobState
standing f registers step = record (new_job (step ∷ [])) { stage = At 0; registers = registers; reads = f.reads; writes = f.writes }

abbrev pub stand_in : State → CorrectionState → List ℕ → Step → State
stand_in s f registers step = record s { jobs = standing f registers step ∷ [] }

-- The correction with a job's logs; nothing else changes.
abbrev pub with_logs_of : State → ℕ → JobState → State
with_logs_of s k b = with_corrections s (put_at s.corrections k (correction true b.reads b.writes))

-- Reading with a slip does what a job's turn at a reading step does: the same rule, by which the correction's logs become
-- what the job's do, and the number is answered that comes into the register. Only a 25th cell is refused.
abbrev pub ReadsAsJob : State → SlipNumbers → CorrectionState → ℕ → Type 0
ReadsAsJob s slip f cell =
    (((call s (Read slip cell)).answer ≡ OfReading (Err LogFull)) × (find f.writes cell ≡ None) × (find f.reads cell ≡ None) × (24 ≤ length f.reads))
    ⊎ ((b : JobState) × (at (turn (stand_in s f no_registers (steps.Read 0 cell)) 1).next.jobs 1 ≡ Some b) × ((call s (Read slip cell)).answer ≡ OfReading (Ok (register b.registers 0))) × ((call s (Read slip cell)).next ≡ with_logs_of s slip.correction b) × ((call s (Read slip cell)).events ≡ ReadCell (Correction slip.correction) cell (register b.registers 0) ∷ []))

-- Writing, likewise, does what a job's turn at a writing step does whose register has the number.
abbrev pub WritesAsJob : State → SlipNumbers → CorrectionState → ℕ → ℕ → Type 0
WritesAsJob s slip f cell number =
    (((call s (Write slip cell number)).answer ≡ OfAcceptance (Err LogFull)) × (find f.writes cell ≡ None) × (24 ≤ length f.writes))
    ⊎ ((b : JobState) × (at (turn (stand_in s f (slice_set no_registers 0 number) (steps.Write cell 0)) 1).next.jobs 1 ≡ Some b) × ((call s (Write slip cell number)).answer ≡ OfAcceptance (Ok tt)) × ((call s (Write slip cell number)).next ≡ with_logs_of s slip.correction b) × ((call s (Write slip cell number)).events ≡ WroteCell (Correction slip.correction) cell number ∷ []))

abbrev pub CorrectionsGoAsJobs : State → Type 0
CorrectionsGoAsJobs s =
    (slip : SlipNumbers) (f : CorrectionState) → held s slip ≡ Some f → (cell : ℕ) → cell < length s.cells → ReadsAsJob s slip f cell × ((number : ℕ) → WritesAsJob s slip f cell number)

pub record LawAfter (s₀ : State) (calls : List Call) : Type 0 where
  pub serial : Serial s₀ calls
  pub restarts : RestartsHaveACause (events_of s₀ calls)
  pub counted : Counted (after s₀ calls) (events_of s₀ calls)
  pub no_one_forgotten : NoOneForgotten (after s₀ calls)
  pub logs : LogsOrdered (after s₀ calls)
  pub settles : (settle (after s₀ calls)).next.right ≡ None
  pub commit_order : CommitOrder (after s₀ calls) (events_of s₀ calls)
  pub joins_last : JoinsLast (after s₀ calls)
  pub read_as_answered : ReadAsAnswered s₀ calls
  pub jobs_read : JobsRead (after s₀ calls)
  pub idle_changes_nothing : IdleChangesNothing (after s₀ calls)
  pub corrections_go_as_jobs : CorrectionsGoAsJobs (after s₀ calls)
  pub plays_stop : (j : ℕ) (b : JobState) → at (after s₀ calls).jobs j ≡ Some b → (cells : List ℕ) → StopsAtStep b.program cells beginning (play_job b.program cells)

-- The law of a run that was just sealed.
abbrev pub Lawful : State → Type 0
Lawful s₀ = (calls : List Call) → LawAfter s₀ calls

abbrev pub Law : Type 0
Law = (i : Intake) → Admissible i → Lawful (sealed i)

-- What the commit order after these calls and a settling leaves, played one entry at a time.
abbrev pub left_by : State → List Call → List ℕ
left_by s₀ calls = replayed (parts_of s₀ (events_of s₀ (calls ++ Settle ∷ []))) (after s₀ (calls ++ Settle ∷ [])).order s₀.cells

-- A run that is closed after these calls gives back those cells.
abbrev pub ClosingIsSerial : Type 0
ClosingIsSerial = (s₀ : State) → Lawful s₀ → (calls : List Call) → closed_cells (after s₀ calls) ≡ left_by s₀ calls

-- Whether one of these calls opens a correction.
abbrev pub opens_one : List Call → Bool
opens_one [] = false
opens_one (Open ∷ calls) = true
opens_one (c ∷ calls) = opens_one calls

-- A run that has no corrections has none until one is opened, whatever else is called.
abbrev pub NoneUntilOpened : Type 0
NoneUntilOpened = (s : State) (calls : List Call) → s.corrections ≡ [] → opens_one calls ≡ false → (after s calls).corrections ≡ []

abbrev pub PlaysStop : Type 0
PlaysStop = (program : List Step) (cells : List ℕ) → WellFormed program → StopsAtStep program cells beginning (play_job program cells)

-- What is admitted is well formed.
abbrev pub AdmissionSuffices : Type 0
AdmissionSuffices = (jobs count : ℕ) (steps : List Step) → admission_fault jobs count steps ≡ None → WellFormed steps
