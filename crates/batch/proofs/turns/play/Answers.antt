use Rattle.std.proofs.Common.{◌+◌, drop, replicate, get_or, sym, ap, ◌∙◌, subst}
use Rattle.model.specs.Calls.{Turn, after, events_of}
use Rattle.run.specs.Runs.{state}
use Rattle.table.specs.Settings.{Through}
use Rattle.batch.specs.Runs.{turns_of}
use Rattle.batch.proofs.Playing.{next-turns, onward, through_onward}
use Rattle.batch.proofs.turns.play.Goals as goal

pub loop-next-preserved : goal.loop-next-preserved
loop-next-preserved g c =
    let s = state g.S.Store.cells c.loop-next.run in
    let s' = state g.S.Store.cells c.give_turns.new.run in
    let turns = c.args.turns.now in
    let k = c.loop-next.next-index in
    let given = c.give_turns.ensures in
    let inv = c.loop-next.invariant in
    let next = get_or turns k _ in
    let line = replicate next.turns (Turn next.job) in
    let left = turns_of (drop (k + 1) turns) in
    let split = next-turns turns k _ c.loop-next-test.true in (
      onward s s' line left given.next ∙ (sym (ap (after s) split) ∙ inv.0),
      given.loan ∙ inv.1,
      λ t x.
          inv.2 t (subst (λ cs. Through g.S.Store.sets (events_of s cs) c.loop-next.run.store t) (sym split)
          (through_onward s s' line left given.next g.S.Store.sets c.loop-next.run.store c.give_turns.new.run.store t given.store x)),
    )
