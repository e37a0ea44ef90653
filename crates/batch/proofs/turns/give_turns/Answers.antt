use Rattle.std.proofs.Common.{◌≡◌, ◌-◌, Ok, None, sym, ap, ◌∙◌}
use Rattle.model.specs.Calls.{OfTurn}
use Rattle.model.specs.Law.{is_idle}
use Rattle.run.specs.Runs.{state}
use Rattle.table.specs.Settings.{turn_sets}
use Rattle.batch.proofs.Playing.{turn-more, through_turn, rests, rests_through}
use Rattle.batch.proofs.turns.give_turns.Goals as goal

pub loop-preserved : goal.loop-preserved
loop-preserved g c =
    let s = state g.S.Store.cells c.loop.run in
    let s' = state g.S.Store.cells c.turn.new.self in
    let inv = c.loop.invariant in
    let turned = c.turn.ensures in
    let more = c.loop-test.true in (
      turn-more c.args.job c.args.turns c.loop.counter more s s' turned.next ∙ inv.0,
      turned.loan ∙ inv.1,
      λ t x. inv.2 t (through_turn c.args.job c.args.turns c.loop.counter more s s' turned.next g.S.Store.sets c.loop.run.store c.turn.new.self.store t turned.store x),
    )

pub returns-in-Ok-None-clause-next : goal.returns-in-Ok-None-clause-next
returns-in-Ok-None-clause-next g c =
    let s = state g.S.Store.cells c.loop.run in
    let turned = c.turn.ensures in
    let none = sym turned.answer ∙ (c.in-Ok-None.is ∙ ap Ok c.in-Ok-None.field-0-is) in
    turned.next ∙ (rests s c.args.job (ap (λ a. is_idle (OfTurn a)) none) (c.args.turns - c.loop.counter) ∙ c.loop.invariant.0)

pub returns-in-Ok-None-clause-store : goal.returns-in-Ok-None-clause-store
returns-in-Ok-None-clause-store g c =
    let s = state g.S.Store.cells c.loop.run in
    let turned = c.turn.ensures in
    let none : c.turn.result ≡ Ok None = c.in-Ok-None.is ∙ ap Ok c.in-Ok-None.field-0-is in
    let idle = ap (λ a. is_idle (OfTurn a)) (sym turned.answer ∙ none) in
    c.loop.invariant.2 c.turn.new.self.store (rests_through s c.args.job idle (c.args.turns - c.loop.counter) g.S.Store.sets c.loop.run.store c.turn.new.self.store (turned.kept (ap turn_sets none)))
