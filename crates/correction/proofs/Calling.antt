-- Calls, as the model has them: a refused one leaves the correction and the run as they were.
use Rattle.std.proofs.Common.{◌≡◌, ℕ, ◌<◌, Bool, true, false, cond, ◌||◌, ltb, List, [], ◌∷◌, length, is_some, is_ok, IfOk, IfErr, OnOk, Some, None, Ok, Err, Option, Result, sym, refl, ap, ◌∙◌, subst}
use Rattle.std.proofs.lemmas.Bool.{lt-ltb, or_parts}
use Rattle.model.specs.Calls.{correction, refuse, with_corrections, if_open, read_by, write_by}
use Rattle.model.specs.Intake.{sealed}
use Rattle.model.specs.Logs.{Log, find, put, put_at}
use Rattle.model.specs.Rules.{CorrectionState, State}
use Rattle.model.specs.declared.Refusal.{Refusal}
use Rattle.model.specs.declared.Refusal.TheVariants.{NotOpen, LogFull}
use Rattle.model.proofs.Basics.{zero_one, put-again}
use Rattle.cell_log.specs.Both.{FoundIn, FullFor}
use Rattle.cell_log.specs.Rows.{entries_of}
use Rattle.cell_log.specs.declared.both.Logs.{Logs}
use Rattle.cell_log.specs.declared.both.Reading.{Reading}
use Rattle.cell_log.specs.declared.both.Found.{Found}
use Rattle.cell_log.specs.declared.both.Found.TheVariants.{InWrites, InReads, InStore}
use Rattle.correction.specs.Calls.{CallOn, reading, writing, Comes}

module _ {A : Type 0} (call : CallOn A) (cells : List ℕ) (f : CorrectionState) where
  pub refused : (e : Refusal) (r : Result A Refusal) → r ≡ Err e → ((s : State) (k : ℕ) → s.cells ≡ cells → call s k (if_open (Some f)) ≡ refuse s e) → Comes call cells f f r
  refused e r q h s k hc here = (
    ap (λ o. o.next) (h s k hc) ∙ sym (ap (with_corrections s) (put-again s.corrections k f here)),
    ap (λ o. o.answer) (h s k hc) ∙ sym q,
  )

  -- A closed correction, where the call refuses one that is not there.
  pub not-open : (r : Result A Refusal) → r ≡ Err NotOpen → ((s : State) (k : ℕ) → call s k None ≡ refuse s NotOpen) → f.is_open ≡ false → Comes call cells f f r
  not-open r q h e = refused NotOpen r q (λ s k hc. ap (λ b. call s k (cond b (Some f) None)) e ∙ h s k)

none_there : (o : Option ℕ) → is_some o ≡ false → o ≡ None
none_there None e = refl
none_there (Some x) e = zero_one (cc)

first_holds : (a : Bool) → (a || false) ≡ true → a ≡ true
first_holds true e = refl
first_holds false e = e

-- What a log that takes no more has of the cell.
full : (log : Log) (cell : ℕ) → false ≡ (ltb (length log) 24 || is_some (find log cell)) → (ltb (length log) 24 ≡ false) × (find log cell ≡ None)
full log cell e =
    let p = or_parts (ltb (length log) 24) (is_some (find log cell)) (sym e) in
    (p.0, none_there (find log cell) p.1)

-- A correction with these logs.
abbrev state : Bool → Logs → CorrectionState
state is_open logs = correction is_open (entries_of logs.reads) (entries_of logs.writes)

module _ (cells : List ℕ) (cell : ℕ) (old : Logs) (is_open : Bool) (opened : is_open ≡ true) (within : cell < length cells) where
  lt : ltb cell (length cells) ≡ true
  lt = lt-ltb cell (length cells) within

  still_open : {A : Type 0} (call : CallOn A) (new : Logs) (r : Result A Refusal) → Comes call cells (state true old) (state true new) r → Comes call cells (state is_open old) (state is_open new) r
  still_open call new r h = subst (λ b. Comes call cells (state b old) (state b new) r) (sym opened) h

  found_open : (new : Logs) (number : ℕ) (found : Found) → FoundIn cells cell old new number found → Comes (reading cell) cells (state true old) (state true new) (Ok number)
  found_open new number InWrites h s k hc here =
      subst (λ (z : Logs). ((read_by s k cell (Some (state true old))).next ≡ with_corrections s (put_at s.corrections k (state true z))) × ((read_by s k cell (Some (state true old))).answer ≡ Ok number))
      (sym h.1) (rw (hc, lt, h.0) (refl, refl))
  found_open new number InReads h s k hc here =
      subst (λ (z : Logs). ((read_by s k cell (Some (state true old))).next ≡ with_corrections s (put_at s.corrections k (state true z))) × ((read_by s k cell (Some (state true old))).answer ≡ Ok number))
      (sym h.2) (rw (hc, lt, h.0, h.1) (refl, refl))
  found_open new number InStore h s k hc here =
      let kept = ap entries_of h.4 in
      rw (hc, lt, h.0.0, h.0.1, h.1, h.3, kept, h.2) (refl, refl)

  pub found : (new : Logs) (r : Result Reading Refusal) (x : Reading) → r ≡ Ok x → IfOk r (λ y. FoundIn cells cell old new y.number y.found) → Comes (reading cell) cells (state is_open old) (state is_open new) (Ok x.number)
  found new r x e h =
      still_open (reading cell) new (Ok x.number) (found_open new x.number x.found (subst (λ z. IfOk z (λ y. FoundIn cells cell old new y.number y.found)) e h))

  pub unread : (new : Logs) (r : Result ℕ Refusal) (refusal : Refusal) → r ≡ Err refusal → (refusal ≡ LogFull) × FullFor cell old × (new ≡ old) → Comes (reading cell) cells (state is_open old) (state is_open new) r
  unread new r refusal q h =
      still_open (reading cell) new r
      (subst (λ z. Comes (reading cell) cells (state true old) (state true z) r) (sym h.2)
      (refused (reading cell) cells (state true old) LogFull r (q ∙ ap Err h.0) (λ s k hc. rw (hc, lt, h.1.0.0, h.1.0.1, h.1.1))))

  stored : (number : ℕ) (new : Logs) → (ltb (length (entries_of old.writes)) 24 || is_some (find (entries_of old.writes) cell)) ≡ true → entries_of new.writes ≡ put (entries_of old.writes) cell number → new.reads ≡ old.reads →
      Comes (writing cell number) cells (state true old) (state true new) (Ok tt)
  stored number new room made same s k hc here = by_place (find (entries_of old.writes) cell) refl
    where
      kept : entries_of new.reads ≡ entries_of old.reads
      kept = ap entries_of same

      by_place : (o : Option ℕ) → find (entries_of old.writes) cell ≡ o → ((write_by s k cell number (Some (state true old))).next ≡ with_corrections s (put_at s.corrections k (state true new))) × ((write_by s k cell number (Some (state true old))).answer ≡ Ok tt)
      by_place (Some x) e = rw (hc, lt, made, kept, e) (refl, refl)
      by_place None e =
          let free : ltb (length (entries_of old.writes)) 24 ≡ true = first_holds _ (rw e at room) in
          rw (hc, lt, made, kept, e, free) (refl, refl)

  pub written : (number : ℕ) (new : Logs) (r : Result (Unit {0}) Refusal) → is_ok r ≡ (ltb (length (entries_of old.writes)) 24 || is_some (find (entries_of old.writes) cell)) →
      OnOk r ((entries_of new.writes ≡ put (entries_of old.writes) cell number) × (new.reads ≡ old.reads)) → IfErr r (λ e. (e ≡ LogFull) × (new ≡ old)) →
      Comes (writing cell number) cells (state is_open old) (state is_open new) r
  written number new (Ok u) room made other = still_open (writing cell number) new (Ok u) (stored number new (sym room) made.0 made.1)
  written number new (Err e) room other h =
      let x = full (entries_of old.writes) cell room in
      still_open (writing cell number) new (Err e)
      (subst (λ z. Comes (writing cell number) cells (state true old) (state true z) (Err e)) (sym h.1)
      (refused (writing cell number) cells (state true old) LogFull (Err e) (ap Err h.0) (λ s k hc. rw (hc, lt, x.1, x.0))))

-- A call that refuses what is not open leaves a closed correction as it was.
pub stays_closed : {A : Type 0} (call : CallOn A) (cells : List ℕ) (f f' : CorrectionState) (r : Result A Refusal) → ((s : State) (k : ℕ) → (call s k None).next ≡ s) → Comes call cells f f' r → f.is_open ≡ false → f'.is_open ≡ false
stays_closed call cells f f' r h x e =
    let s : State = record (sealed (record { number = 0; cells = cells; programs = [] })) { corrections = f ∷ [] } in
    let same = sym (h s 1) ∙ (ap (λ b. (call s 1 (cond b (Some f) None)).next) (sym e) ∙ (x s 1 refl refl).0) in
    sym (ap (λ z. first z.corrections) same) ∙ e
  where
    first : List CorrectionState → Bool
    first [] = false
    first (g ∷ gs) = g.is_open
