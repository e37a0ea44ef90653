use Rattle.std.proofs.Common.{length, take, arith, length-set}
use Rattle.std.proofs.lemmas.Bool.{lt-ltb}
use Rattle.store.specs.declared.change.Change.{Change}
use Rattle.change_list.specs.Lists.{cells_of}
use Rattle.change_list.specs.Records.{with_room}
use Rattle.change_list.proofs.Kept.{added, cells_added, later, length-cells, sound_added}
use Rattle.change_list.proofs.cells.ChangeListStore.set.Goals as goal

pub make_room-requires : goal.make_room-requires
make_room-requires c = let list = c.args.self.now in omega (arith, length-cells list.records.now list.used)

pub returns-clause-after : goal.returns-clause-after
returns-clause-after c =
    let list = c.args.self.now in
    let room = c.make_room.new.self in
    let made = c.make_room.ensures in
    let change : Change = record { cell = c.args.cell; number = c.args.number } in
    cells_added list.records.now room.records.now list.used room.used change made.room made.length made.kept

pub returns-clause-done : goal.returns-clause-done
returns-clause-done c =
    let list = c.args.self.now in
    let room = c.make_room.new.self in
    let made = c.make_room.ensures in
    let change : Change = record { cell = c.args.cell; number = c.args.number } in
    let inside = lt-ltb c.args.cell (length (cells_of list)) (omega arith) in
    rw inside
    (added room.records.now room.used change (with_room (length list.records.now) (take list.used list.records.now)) made.room made.kept, later room.records.now list.records.now room.used change made.others, made.loan)

pub invariant_of-self : goal.invariant_of-self
invariant_of-self c =
    let list = c.args.self.now in
    let count = length-cells list.records.now list.used in
    let room = c.make_room.new.self in
    let records = room.records.now in
    let change : Change = record { cell = c.args.cell; number = c.args.number } in
    let same = c.make_room.ensures.length in
    let free = c.make_room.ensures.room in
    record { within = simp length-set (omega arith); sound = sound_added records room.used change free (rw same (omega arith)) (omega arith) room.sound }
