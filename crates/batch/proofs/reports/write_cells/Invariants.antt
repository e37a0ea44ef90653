use Rattle.std.proofs.Common.{drop, string_bytes}
use Rattle.run.specs.Runs.{state}
use Rattle.batch.specs.Reports.{cells_text}
use Rattle.batch.proofs.Reporting.{Lines}
use Rattle.batch.proofs.reports.write_cells.Given as goal

abbrev pub invariant-loop-cell : goal.invariant-loop-cell
invariant-loop-cell g l =
    let cells = (state g.S.Store.cells l.run).cells in
    Lines (string_bytes l.out) (string_bytes l.initial.out) (cells_text l.cell (drop l.cell cells)) (cells_text 0 cells)
