use Rattle.std.proofs.Common.{◌+◌, string_bytes, refl, arith}
use Rattle.run.specs.Runs.{state}
use Rattle.batch.specs.Reports.{entry_text}
use Rattle.batch.proofs.Reporting.{one_place, all_places}
use Rattle.batch.proofs.reports.write_order.Goals as goal

pub loop-place-preserved : goal.loop-place-preserved
loop-place-preserved g c =
    let s = state g.S.Store.cells c.args.run.now in
    one_place entry_text (λ n. refl) s.order c.loop-place.place (string_bytes c.args.out.now) (string_bytes c.write_place.new.out) (string_bytes c.loop-place.out) (omega arith) c.in_ok-write_place.ensures c.loop-place.invariant

pub returns-in_ok-write_place : goal.returns-in_ok-write_place
returns-in_ok-write_place g c =
    let s = state g.S.Store.cells c.args.run.now in
    let n = c.loop-place.place in
    let before = string_bytes c.args.out.now in
    all_places entry_text (λ n. refl) s.order (n + 1) before (string_bytes c.write_place.new.out) (omega (arith, c.commits-place-end.ensures.value))
    (one_place entry_text (λ n. refl) s.order n before (string_bytes c.write_place.new.out) (string_bytes c.loop-place.out) (omega arith) c.in_ok-write_place.ensures c.loop-place.invariant)

pub returns : goal.returns
returns g c =
    let s = state g.S.Store.cells c.args.run.now in
    all_places entry_text (λ n. refl) s.order c.loop-place.place (string_bytes c.args.out.now) (string_bytes c.loop-place.out) (omega (arith, c.commits-place-end.ensures.value, c.loop-place-test.false)) c.loop-place.invariant
