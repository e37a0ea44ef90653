-- The calls of a running run: what each answers, the run after it, and what happened. A refusal changes nothing. Assumes nothing.
use Rattle.std.specs.Prelude.{ℕ, zero, suc, ◌+◌, ◌%◌, ◌^◌, Bool, true, false, cond, List, [], ◌∷◌, ◌++◌, map, length, Some, None, Ok, Err, Option, Result, ◌==◌, nat_lt}
use Rattle.model.specs.Logs.{Log, find, put, lowest, cell_of, changed, set_all, at, put_at}
use Rattle.model.specs.Rules.{JobState, CorrectionState, State, Event, Started, ReadCell, WroteCell, TookRight, SetCell, Joined, counted, joined_last, step_of, rules_of, first_fit, unmark, effect, happens}
use Rattle.model.specs.declared.Applied.{Applied}
use Rattle.model.specs.declared.Party.{Party}
use Rattle.model.specs.declared.Party.TheVariants.{Correction}
use Rattle.model.specs.declared.Refusal.{Refusal}
use Rattle.model.specs.declared.Refusal.TheVariants.{NoSuchCell, NoSuchJob, TooManyCorrections, NotOpen, LogFull, RightHeld, Changed}
use Rattle.model.specs.declared.Step.{Step}
use Rattle.model.specs.declared.Rule.{Rule}
use Rattle.model.specs.declared.Rule.TheVariants.{S1, S2, R1, R2, R3, W1, W2, Rt, V1, V2, C2}

pub record Outcome (A : Type 0) : Type 0 where
  pub next : State
  pub answer : A
  pub events : List Event

abbrev pub refuse : {A : Type 0} → State → Refusal → Outcome (Result A Refusal)
refuse s refusal = record { next = s; answer = Err refusal; events = [] }

-- The cell is answered by the rules that name one.
abbrev pub named : Rule → ℕ → Option ℕ
named S1 c = Some c
named S2 c = Some c
named R1 c = Some c
named R2 c = Some c
named R3 c = Some c
named W1 c = Some c
named W2 c = Some c
named Rt c = Some c
named V1 c = Some c
named V2 c = Some c
named C2 c = Some c
named rule c = None

-- A turn applies the first rule of the job's stage that fits; where none fits, it answers none and changes nothing.
abbrev pub Turned : Type 0
Turned = Result (Option Applied) Refusal

abbrev pub apply : State → ℕ → JobState → Step → Option (Rule × ℕ) → Outcome Turned
apply s j b step None = record { next = s; answer = Ok None; events = [] }
apply s j b step (Some f) = record { next = effect s j b step f.1 f.0; answer = Ok (Some (record { rule = f.0; cell = named f.0 f.1 })); events = happens s j b f.1 f.0 }

abbrev pub turn_of : State → ℕ → Option JobState → Outcome Turned
turn_of s j None = refuse s NoSuchJob
turn_of s j (Some b) = apply s j b (step_of b) (first_fit s j b (step_of b) (rules_of b.stage (step_of b)))

abbrev pub turn : State → ℕ → Outcome Turned
turn s j = turn_of s j (at s.jobs j)

-- Settling gives turns to the job that holds the right: at most so many, until the right is free.
abbrev pub settle_next : Option ℕ → State → (State → Outcome (Unit {0})) → Outcome (Unit {0})
settle_next None s rest = record { next = s; answer = tt; events = [] }
settle_next (Some holder) s rest = record { next = (rest (turn s holder).next).next; answer = tt; events = (turn s holder).events ++ (rest (turn s holder).next).events }

abbrev pub settle_in : ℕ → State → Outcome (Unit {0})
settle_in zero s = record { next = s; answer = tt; events = [] }
settle_in (suc n) s = settle_next s.right s (λ t. settle_in n t)

-- As many turns as suffice: one for each mark, of which there are fewer than jobs, one for each entry of a log, one to free the right.
abbrev pub settle : State → Outcome (Unit {0})
settle s = settle_in (length s.jobs + 25) s

-- Corrections: cells that people set by hand between turns, each with logs of its own.
abbrev pub with_corrections : State → List CorrectionState → State
with_corrections s corrections = record s { corrections = corrections }

abbrev pub correction : Bool → Log → Log → CorrectionState
correction is_open reads writes = record { is_open = is_open; reads = reads; writes = writes }

-- A slip stands for one correction of one run, and has to be spent. It bears the numbers of both.
pub record SlipNumbers : Type 0 where
  pub run : ℕ
  pub correction : ℕ

-- Opening begins a correction with empty logs, and answers its slip.
abbrev pub opened : State → Outcome (Result SlipNumbers Refusal)
opened s =
    record {
      next = with_corrections s (s.corrections ++ correction true [] [] ∷ []);
      answer = Ok (record { run = s.number; correction = suc (length s.corrections) });
      events = Started (Correction (suc (length s.corrections))) ∷ [];
    }

abbrev pub open_correction : State → Outcome (Result SlipNumbers Refusal)
open_correction s = cond (nat_lt (length s.corrections) 8) (opened s) (refuse s TooManyCorrections)

-- The open correction that a slip stands for.
abbrev pub if_open : Option CorrectionState → Option CorrectionState
if_open None = None
if_open (Some f) = cond f.is_open (Some f) None

abbrev pub held : State → SlipNumbers → Option CorrectionState
held s slip = cond (slip.run == s.number) (if_open (at s.corrections slip.correction)) None

-- Reading follows r1 to r3 in the correction's own logs.
abbrev pub read_gives : State → ℕ → CorrectionState → ℕ → ℕ → Log → Outcome (Result ℕ Refusal)
read_gives s k f cell number reads =
    record { next = with_corrections s (put_at s.corrections k (correction true reads f.writes)); answer = Ok number; events = ReadCell (Correction k) cell number ∷ [] }

abbrev pub read_logged : State → ℕ → CorrectionState → ℕ → Option ℕ → Option ℕ → Outcome (Result ℕ Refusal)
read_logged s k f cell (Some number) in_reads = read_gives s k f cell number f.reads
read_logged s k f cell None (Some number) = read_gives s k f cell number f.reads
read_logged s k f cell None None =
    cond (nat_lt (length f.reads) 24) (read_gives s k f cell (cell_of s.cells cell) (put f.reads cell (cell_of s.cells cell))) (refuse s LogFull)

abbrev pub read_by : State → ℕ → ℕ → Option CorrectionState → Outcome (Result ℕ Refusal)
read_by s k cell None = refuse s NotOpen
read_by s k cell (Some f) = cond (nat_lt cell (length s.cells)) (read_logged s k f cell (find f.writes cell) (find f.reads cell)) (refuse s NoSuchCell)

-- Writing follows w1 and w2.
abbrev pub write_gives : State → ℕ → CorrectionState → ℕ → ℕ → Outcome (Result (Unit {0}) Refusal)
write_gives s k f cell number =
    record { next = with_corrections s (put_at s.corrections k (correction true f.reads (put f.writes cell number))); answer = Ok tt; events = WroteCell (Correction k) cell number ∷ [] }

abbrev pub write_logged : State → ℕ → CorrectionState → ℕ → ℕ → Option ℕ → Outcome (Result (Unit {0}) Refusal)
write_logged s k f cell number (Some old) = write_gives s k f cell number
write_logged s k f cell number None = cond (nat_lt (length f.writes) 24) (write_gives s k f cell number) (refuse s LogFull)

abbrev pub write_by : State → ℕ → ℕ → ℕ → Option CorrectionState → Outcome (Result (Unit {0}) Refusal)
write_by s k cell number None = refuse s NotOpen
write_by s k cell number (Some f) = cond (nat_lt cell (length s.cells)) (write_logged s k f cell number (find f.writes cell)) (refuse s NoSuchCell)

-- Filing sets every written cell at once, removes all marks, and joins the commit order.
abbrev pub settings_of : Party → Log → List Event
settings_of party [] = []
settings_of party (e ∷ log) = SetCell party e.cell e.number ∷ settings_of party log

abbrev pub filed : State → ℕ → CorrectionState → Outcome (Result (Unit {0}) Refusal)
filed s k f =
    record {
      next = joined_last
          (record s {
            cells = set_all f.writes s.cells;
            jobs = map unmark s.jobs;
            corrections = put_at s.corrections k (correction false f.reads f.writes);
            takings = counted s.takings;
            settings = (s.settings + length f.writes) % 2 ^ 32;
          })
          (Correction k);
      answer = Ok tt;
      events = TookRight (Correction k) ∷ settings_of (Correction k) f.writes ++ Joined (Correction k) ∷ [];
    }

abbrev pub file_checked : State → ℕ → CorrectionState → Option ℕ → Option ℕ → Outcome (Result (Unit {0}) Refusal)
file_checked s k f (Some holder) differing = refuse s RightHeld
file_checked s k f None (Some cell) = refuse s (Changed cell)
file_checked s k f None None = filed s k f

abbrev pub file_by : State → ℕ → Option CorrectionState → Outcome (Result (Unit {0}) Refusal)
file_by s k None = refuse s NotOpen
file_by s k (Some f) = file_checked s k f s.right (lowest (changed s.cells) f.reads)

abbrev pub withdraw_by : State → ℕ → Option CorrectionState → Outcome (Result (Unit {0}) Refusal)
withdraw_by s k None = refuse s NotOpen
withdraw_by s k (Some f) = record { next = with_corrections s (put_at s.corrections k (correction false f.reads f.writes)); answer = Ok tt; events = [] }

-- Every call, with whatever numbers.
pub data Call : Type 0 where
  Turn : ℕ → Call
  Settle : Call
  Open : Call
  Read : SlipNumbers → ℕ → Call
  Write : SlipNumbers → ℕ → ℕ → Call
  File : SlipNumbers → Call
  Withdraw : SlipNumbers → Call

pub data Answer : Type 0 where
  OfTurn : Turned → Answer
  OfSettling : Answer
  OfOpening : Result SlipNumbers Refusal → Answer
  OfReading : Result ℕ Refusal → Answer
  OfAcceptance : Result (Unit {0}) Refusal → Answer

abbrev pub answering : {A : Type 0} → (A → Answer) → Outcome A → Outcome Answer
answering f o = record { next = o.next; answer = f o.answer; events = o.events }

abbrev pub call : State → Call → Outcome Answer
call s (Turn j) = answering OfTurn (turn s j)
call s Settle = answering (λ done. OfSettling) (settle s)
call s Open = answering OfOpening (open_correction s)
call s (Read slip cell) = answering OfReading (read_by s slip.correction cell (held s slip))
call s (Write slip cell number) = answering OfAcceptance (write_by s slip.correction cell number (held s slip))
call s (File slip) = answering OfAcceptance (file_by s slip.correction (held s slip))
call s (Withdraw slip) = answering OfAcceptance (withdraw_by s slip.correction (held s slip))

-- A list of calls: the run after them, what happened, and what they answered.
abbrev pub after : State → List Call → State
after s [] = s
after s (c ∷ calls) = after (call s c).next calls

abbrev pub events_of : State → List Call → List Event
events_of s [] = []
events_of s (c ∷ calls) = (call s c).events ++ events_of (call s c).next calls

abbrev pub answers_of : State → List Call → List Answer
answers_of s [] = []
answers_of s (c ∷ calls) = (call s c).answer ∷ answers_of (call s c).next calls
