use Rattle.std.proofs.Common.{ℕ, ◌+◌, ◌-◌, sym, refl, ap, ◌∙◌, subst}
use native.Mathlib.Nat.{sub-zero}
use Rattle.model.specs.Calls.{settle_in}
use Rattle.model.specs.Rules.{State}
use Rattle.run.specs.Runs.{state}
use Rattle.run.proofs.Settling.{settle_more, settle_end, settle_free, one_turn, settled}
use Rattle.table.specs.Settings.{Through}
use Rattle.run.proofs.run.Run.settle.Goals as goal

pub loop-init : goal.loop-init
loop-init g c =
    let s = state g.S.Store.cells c.args.self.now in
    let most = sub-zero (c.len-most.result + 25) in
    (ap (λ (m : ℕ). (settle_in m s).next) most, refl, λ t x. subst (λ (m : ℕ). Through g.S.Store.sets (settle_in m s).events c.args.self.now.store t) most x)

pub loop-preserved : goal.loop-preserved
loop-preserved g c =
    let s = state g.S.Store.cells c.loop.self in
    let n = c.len-most.result + 25 in
    let holds = sym c.right.ensures ∙ c.in-Some.is in (
      ap (λ (t : State). (settle_in (n - (c.loop.counter + 1)) t).next) c.turn.ensures.next ∙ sym (ap (λ o. o.next) (settle_more s n c.loop.counter c.in-Some.holder c.loop-test.true holds)) ∙ c.loop.invariant.0,
      c.turn.ensures.loan ∙ c.loop.invariant.1,
      λ t x. c.loop.invariant.2 t (one_turn g.S.Store.sets c.loop.self.store s _ n c.loop.counter c.in-Some.holder c.turn.new.self.store t c.loop-test.true holds c.turn.ensures.next c.turn.ensures.store x),
    )

pub returns-in_default : goal.returns-in_default
returns-in_default g c =
    let s = state g.S.Store.cells c.loop.self in
    let m = c.len-most.result + 25 - c.loop.counter in
    let free = settle_free s m (sym c.right.ensures ∙ c.in_default.is) in
    let done = settled g.S.Store.sets c.args.self.now.store c.loop.self.store s (state g.S.Store.cells c.args.self.now) m c.len-most.result c.len-most.ensures.value free c.loop.invariant.0 c.loop.invariant.2 in
    record { next = done.0; loan = c.loop.invariant.1; store = done.1; kept = done.2 }

pub returns : goal.returns
returns g c =
    let s = state g.S.Store.cells c.loop.self in
    let m = c.len-most.result + 25 - c.loop.counter in
    let end = settle_end s (c.len-most.result + 25) c.loop.counter c.loop-test.false in
    let done = settled g.S.Store.sets c.args.self.now.store c.loop.self.store s (state g.S.Store.cells c.args.self.now) m c.len-most.result c.len-most.ensures.value end c.loop.invariant.0 c.loop.invariant.2 in
    record { next = done.0; loan = c.loop.invariant.1; store = done.1; kept = done.2 }
