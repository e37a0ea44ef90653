use Rattle.std.proofs.Common.{◌≡◌, ◌≤◌, ◌++◌, length, take, drop}
use Rattle.change_list.specs.Records.{newest}
use Rattle.change_list.proofs.ChangeList.make_room.Given as goal

abbrev pub invariant-loop-i : goal.invariant-loop-i
invariant-loop-i l =
    let list = l.self in
    let entry = l.initial.self in
    (list.used ≡ entry.used)
    × (length list.records.now ≡ length entry.records.now)
    × (list.records.ghost_name ≡ entry.records.ghost_name)
    × (l.len ≤ l.i)
    × (drop l.len list.records.now ≡ drop l.len entry.records.now)
    × (take l.len list.records.now ++ newest (drop l.i (take list.used list.records.now)) ≡ newest (take entry.used entry.records.now))
