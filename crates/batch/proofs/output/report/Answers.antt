use Rattle.std.proofs.Common.{◌≡◌, ℕ, ◌≤◌, take, replicate, ap, ◌∙◌, arith}
use Rattle.std.proofs.lemmas.List.{take_all, length-replicate}
use Rattle.store.specs.Cells.{word_cells}
use Rattle.listing_reader.specs.Drafts.{script_in}
use Rattle.batch.proofs.Telling.{told_if}
use Rattle.batch.proofs.output.report.Goals as goal

-- So few words are all cells.
all_cells : (count : ℕ) → count ≤ 4096 → take 65536 (replicate {A = ℕ} count 0) ≡ replicate count 0
all_cells count few = take_all 65536 (replicate count 0) (omega (arith, length-replicate {A = ℕ} count 0))

pub report_over-table-requires : goal.report_over-table-requires
report_over-table-requires c =
    ap word_cells (c.new.ensures.words ∙ c.as_mut_slice.ensures.value ∙ c.in_ok-words.ensures ∙ ap (λ (n : ℕ). replicate n 0) c.count.ensures) ∙ all_cells c.args.script.now.count c.args.script.now.within.few_cells

pub returns-clause-told : goal.returns-clause-told
returns-clause-told c = told_if (script_in c.args.script.now) c.args.script.now.within c.report_over-table.result.1 c.report_over-table.ensures.text c.report_over-table.ensures.fit
