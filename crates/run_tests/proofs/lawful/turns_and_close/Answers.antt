use Rattle.std.proofs.Common.{◌≡◌, ℕ, ◌+◌, ◌-◌, replicate, sym, ap, ◌∙◌, arith}
use Rattle.model.specs.Calls.{Turn, after}
use Rattle.model.specs.Law.{left_by}
use Rattle.model.specs.Rules.{State}
use Rattle.model.proofs.Closing.{turns_more}
use Rattle.run.specs.Runs.{state}
use Rattle.run_tests.proofs.lawful.turns_and_close.Goals as goal

pub loop-preserved : goal.loop-preserved
loop-preserved g c =
    let n = c.args.turns in
    let k = c.loop.counter in
    ap (λ (t : State). after t (replicate (n - (k + 1)) (Turn c.args.job))) c.turn-answer.ensures.next
    ∙ (sym (turns_more c.args.job n k (state g.S.Store.cells c.loop.run) c.loop-test.true) ∙ c.loop.invariant)

pub returns : goal.returns
returns g c =
    let s₀ = state g.S.Store.cells c.seal-run.result in
    let s = state g.S.Store.cells c.loop.run in
    let calls = replicate c.args.turns (Turn c.args.job) in
    let over : c.args.turns - c.loop.counter ≡ 0 = omega (arith, c.loop-test.false) in
    let reached = sym (ap (λ (m : ℕ). after s (replicate m (Turn c.args.job))) over) ∙ c.loop.invariant in
    c.close.ensures.serial s₀ calls c.seal-run.ensures.lawful reached ∙ ap (λ z. left_by z calls) c.seal-run.ensures.sealed
