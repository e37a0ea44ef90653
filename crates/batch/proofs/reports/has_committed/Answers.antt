use Rattle.std.proofs.Common.{rules, tests, ◌≡◌, length, ◌∙◌}
use Rattle.std.proofs.lemmas.Iterator.Search.{any_from_yields_List}
use Rattle.model.specs.Logs.{at}
use Rattle.run.specs.Runs.{state}
use Rattle.batch.specs.Reports.{is_job}
use Rattle.batch.proofs.Counting.{all_shown}
use Rattle.batch.proofs.Reporting.{at_some_place}
use Rattle.batch.proofs.reports.has_committed.Goals as goal

pub returns : goal.returns
returns g c =
    let order = (state g.S.Store.cells c.args.run.now).order in
    let j = c.args.job in
    let end : c.new.result.end ≡ length order = c.new.ensures.end ∙ c.commits.ensures.value in
    any_from_yields_List (λ place. is_job j (at order place)) _ _ c.any.result c.any.ensures.ran (all_shown c.new.result (length order) c.new.ensures.start end c.new.ensures.exhausted) (λ x b q k. search (rules, tests))
    ∙ at_some_place order j
