use Rattle.std.proofs.Common.{◌≡◌, ◌+◌, ◌<◌, length, get_or, take, drop, sym, ap, ◌∙◌, arith, length-set}
use Rattle.std.proofs.lemmas.List.{length-take-le}
use Rattle.std.proofs.lemmas.Bool.{not-true, not-false}
use Rattle.store.specs.declared.change.Change.{Change}
use Rattle.store.specs.Changes.{touches}
use Rattle.change_list.specs.Records.{cell_count, newest}
use Rattle.change_list.proofs.Counting.{newest_few}
use Rattle.change_list.proofs.Kept.{later, turn_keeps, turn_leaves, sound_moved, loop_over, sound_kept, room_left, room_none}
use Rattle.change_list.proofs.ChangeList.make_room.Goals.{After-loop-i, then-is_newest, else-is_newest}
use Rattle.change_list.proofs.ChangeList.make_room.Goals as goal

pub returns-then-self-clause-kept : goal.returns-then-self-clause-kept
returns-then-self-clause-kept c =
    let list = c.args.self.now in
    let records = list.records.now in
    sym (room_left (length records) (take list.used records) (omega (arith, length-take-le list.used records list.within)))

pub loop-i-preserved : goal.loop-i-preserved
loop-i-preserved c =
    let list = c.loop-i.self in
    let records = list.records.now in
    let i = c.loop-i.i in
    let len = c.loop-i.len in
    let inv = c.loop-i.invariant in
    let none : Change = record { cell = 0; number = 0 } in
    let entry = c.args.self.now.records.now in
    let again = touches (drop (i + 1) (take list.used records)) (get_or records i none).cell in
    elim c.if-is_newest.branch [
      | then-is_newest w ↦
          rw (w.self-is, w.len-is) (
            inv.0,
            length-set records len (get_or records i none) ∙ inv.1,
            inv.2,
            omega arith,
            later records entry len (get_or records i none) inv.4,
            turn_keeps records list.used i len none list.within (omega arith) inv.3 (not-true again (sym c.is_newest.ensures ∙ w.if-is_newest.true)) ∙ inv.5,
          )
      | else-is_newest w ↦
          rw (w.self-is, w.len-is) (
            inv.0,
            inv.1,
            inv.2,
            omega arith,
            inv.4,
            turn_leaves records list.used i len none list.within (omega arith) (not-false again (sym c.is_newest.ensures ∙ w.if-is_newest.false)) ∙ inv.5,
          )
    ]

pub invariant_of-self : goal.invariant_of-self
invariant_of-self c =
    let list = c.loop-i.self in
    let records = list.records.now in
    let i = c.loop-i.i in
    let len = c.loop-i.len in
    let none : Change = record { cell = 0; number = 0 } in
    record { within = simp length-set (omega arith); sound = sound_moved records list.used i len none list.within (omega arith) (omega arith) list.sound }

over : (c : After-loop-i) → take c.loop-i.len c.loop-i.self.records.now ≡ newest (take c.args.self.now.used c.args.self.now.records.now)
over c =
    let list = c.loop-i.self in
    let entry = c.args.self.now in
    loop_over list.records.now (take entry.used entry.records.now) list.used c.loop-i.i c.loop-i.len (omega arith) c.loop-i.invariant.5

fewer : (c : After-loop-i) → c.loop-i.len < length c.loop-i.self.records.now
fewer c =
    let list = c.loop-i.self in
    let entry = c.args.self.now in
    let long = length-take-le c.loop-i.len list.records.now (omega arith) in
    let short = newest_few (cell_count (length entry.records.now)) (take entry.used entry.records.now) entry.sound in
    let same = ap length (over c) in
    let some = c.requires in omega arith

pub invariant_of-self-2 : goal.invariant_of-self-2
invariant_of-self-2 c =
    let entry = c.args.self.now in
    let few = fewer c in
    record { within = omega arith; sound = sound_kept entry.records.now c.loop-i.self.records.now entry.used c.loop-i.len (over c) c.loop-i.invariant.1 entry.sound }

pub returns : goal.returns
returns c =
    let entry = c.args.self.now in
    let records = entry.records.now in
    let b = (goal.at.returns c).After-loop-i in
    record {
      kept = over b ∙ sym (room_none (length records) (take entry.used records) (omega (arith, length-take-le entry.used records entry.within)));
      room = fewer b;
      length = c.loop-i.invariant.1;
      loan = c.loop-i.invariant.2;
      others = c.loop-i.invariant.4;
    }
