use Rattle.std.proofs.Common.{◌+◌, drop, string_bytes, refl, arith}
use Rattle.model.specs.Intake.{cell_answer}
use Rattle.run.specs.Runs.{state}
use Rattle.batch.specs.Reports.{answer_text, cell_text, cells_text}
use Rattle.batch.proofs.Reporting.{one_more, all_written, cells_next, numbered_over}
use Rattle.batch.proofs.reports.write_cells.Goals as goal

pub loop-cell-preserved : goal.loop-cell-preserved
loop-cell-preserved g c =
    let s = state g.S.Store.cells c.args.run.now in
    let cells = s.cells in
    let k = c.loop-cell.cell in
    one_more (string_bytes c.write_cell.new.out) (string_bytes c.loop-cell.out) (string_bytes c.args.out.now) (answer_text k (cell_answer s k)) (cells_text k (drop k cells)) (cells_text (k + 1) (drop (k + 1) cells)) (cells_text 0 cells)
    c.in_ok-write_cell.ensures (cells_next s k) c.loop-cell.invariant

pub returns-clause-text : goal.returns-clause-text
returns-clause-text g c =
    let cells = (state g.S.Store.cells c.args.run.now).cells in
    let k = c.loop-cell.cell in
    all_written (string_bytes c.loop-cell.out) (string_bytes c.args.out.now) (cells_text k (drop k cells)) (cells_text 0 cells) (numbered_over cell_text (λ n. refl) cells k k (omega (arith, c.count-cell-end.ensures.value, c.loop-cell-test.false))) c.loop-cell.invariant
