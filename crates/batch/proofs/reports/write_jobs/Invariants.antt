use Rattle.std.proofs.Common.{◌≡◌, ℕ, ◌-◌, ◌^◌, ◌<◌, drop, Some, string_bytes}
use Rattle.model.specs.Logs.{at}
use Rattle.run.specs.Runs.{state}
use Rattle.batch.specs.Reports.{jobs_text, starts_in}
use Rattle.batch.proofs.Reporting.{Lines}
use Rattle.batch.proofs.reports.write_jobs.Given as goal

abbrev pub invariant-loop-job : goal.invariant-loop-job
invariant-loop-job g l =
    let s = state g.S.Store.cells l.run in
    let starts = starts_in s in
    Lines (string_bytes l.out) (string_bytes l.initial.out) (jobs_text s.order l.job (drop (l.job - 1) starts)) (jobs_text s.order 1 starts)
    × ((j n : ℕ) → j < l.job → at starts j ≡ Some n → n < 2 ^ 32)
