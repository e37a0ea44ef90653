use Rattle.std.proofs.Common.{◌≡◌, length, sym, refl, ◌∙◌, arith}
use Rattle.std.proofs.lemmas.Grind.{common_steps}
use Rattle.write_back.specs.Holding.{evicted, held_in, holding, remaining, set_below}
use Rattle.std.proofs.lemmas.Bool.{le-ltb, lt-ltb}
use Rattle.store.proofs.Changes.{length-replay}
use Rattle.write_back.proofs.Layer.{replay-set}
use Rattle.write_back.proofs.WriteBackStore.set.Goals.{in-Some, in_default}
use Rattle.write_back.proofs.WriteBackStore.set.Goals as goal

pub returns-clause-after : goal.returns-clause-after
returns-clause-after g c =
    let cells = g.S.Store.cells c.args.self.now.below in
    let held = held_in c.args.self.now.held in
    let room = c.match-make_room.self in
    let below : g.S.Store.cells room.below ≡ set_below cells (evicted held c.args.cell) = grind (arith, common_steps) in
    let now-held : held_in c.put.new.self ≡ holding (remaining held c.args.cell) c.args.cell c.args.number = grind (arith, common_steps) in
    replay-set cells (g.S.Store.cells room.below) held (held_in c.put.new.self) c.args.cell c.args.number c.args.self.now.held.apart below now-held

pub returns-then-cell-count-clause-done : goal.returns-then-cell-count-clause-done
returns-then-cell-count-clause-done g c =
    let cells = g.S.Store.cells c.args.self.now.below in
    let n = length-replay cells (held_in c.args.self.now.held) in
    let beyond = le-ltb c.args.cell (length cells) (omega (arith, n, c.count.ensures.value, c.if-cell-count.true)) in
    rw beyond refl

pub returns-clause-done : goal.returns-clause-done
returns-clause-done g c =
    let cells = g.S.Store.cells c.args.self.now.below in
    let held = held_in c.args.self.now.held in
    let n = length-replay cells held in
    let inside = lt-ltb c.args.cell (length cells) (omega (arith, n, c.count.ensures.value, c.if-cell-count.false)) in
    let now-held : held_in c.put.new.self ≡ holding (remaining held c.args.cell) c.args.cell c.args.number = grind (arith, common_steps) in
    rw inside (
      now-held,
      elim c.match-make_room.branch [
        | in-Some w ↦ rw (w.self-is, sym c.make_room.ensures.value ∙ w.in-Some.is) w.set.ensures.done
        | in_default w ↦ rw (w.self-is, sym c.make_room.ensures.value ∙ w.in_default.is) refl
      ],
    )
