use Rattle.std.proofs.Common.{◌-◌, drop, string_bytes}
use Rattle.run.specs.Runs.{state}
use Rattle.batch.specs.Reports.{order_text}
use Rattle.batch.proofs.Reporting.{Lines}
use Rattle.batch.proofs.reports.write_order.Given as goal

abbrev pub invariant-loop-place : goal.invariant-loop-place
invariant-loop-place g l =
    let order = (state g.S.Store.cells l.run).order in
    Lines (string_bytes l.out) (string_bytes l.initial.out) (order_text l.place (drop (l.place - 1) order)) (order_text 1 order)
