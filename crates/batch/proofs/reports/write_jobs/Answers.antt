use Rattle.std.proofs.Common.{◌+◌, string_bytes, refl, arith}
use Rattle.run.specs.Runs.{state}
use Rattle.batch.specs.Reports.{job_text, starts_in}
use Rattle.batch.proofs.Reporting.{one_place, all_places, one_fits, all_fit, starts-many}
use Rattle.batch.proofs.reports.write_jobs.Goals as goal

pub loop-job-preserved : goal.loop-job-preserved
loop-job-preserved g c =
    let s = state g.S.Store.cells c.args.run.now in (
      one_place (job_text s.order) (λ n. refl) (starts_in s) c.loop-job.job (string_bytes c.args.out.now) (string_bytes c.write_job.new.out) (string_bytes c.loop-job.out) (omega arith) c.in_ok-write_job.ensures.text c.loop-job.invariant.0,
      one_fits (starts_in s) c.loop-job.job c.in_ok-write_job.ensures.fit c.loop-job.invariant.1,
    )

pub returns-in_ok-write_job-clause-text : goal.returns-in_ok-write_job-clause-text
returns-in_ok-write_job-clause-text g c =
    let s = state g.S.Store.cells c.args.run.now in
    let n = c.loop-job.job in
    let before = string_bytes c.args.out.now in
    all_places (job_text s.order) (λ n. refl) (starts_in s) (n + 1) before (string_bytes c.write_job.new.out) (omega (arith, starts-many s, c.jobs-job-end.ensures.value))
    (one_place (job_text s.order) (λ n. refl) (starts_in s) n before (string_bytes c.write_job.new.out) (string_bytes c.loop-job.out) (omega arith) c.in_ok-write_job.ensures.text c.loop-job.invariant.0)

pub returns-clause-text : goal.returns-clause-text
returns-clause-text g c =
    let s = state g.S.Store.cells c.args.run.now in
    all_places (job_text s.order) (λ n. refl) (starts_in s) c.loop-job.job (string_bytes c.args.out.now) (string_bytes c.loop-job.out) (omega (arith, starts-many s, c.jobs-job-end.ensures.value, c.loop-job-test.false)) c.loop-job.invariant.0

pub returns-in_ok-write_job-clause-fit : goal.returns-in_ok-write_job-clause-fit
returns-in_ok-write_job-clause-fit g c =
    let s = state g.S.Store.cells c.args.run.now in
    all_fit (starts_in s) (c.loop-job.job + 1) (omega (arith, starts-many s, c.jobs-job-end.ensures.value)) (one_fits (starts_in s) c.loop-job.job c.in_ok-write_job.ensures.fit c.loop-job.invariant.1)

pub returns-clause-fit : goal.returns-clause-fit
returns-clause-fit g c =
    let s = state g.S.Store.cells c.args.run.now in
    all_fit (starts_in s) c.loop-job.job (omega (arith, starts-many s, c.jobs-job-end.ensures.value, c.loop-job-test.false)) c.loop-job.invariant.1
