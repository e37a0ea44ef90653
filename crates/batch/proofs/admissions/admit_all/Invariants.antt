use Rattle.std.proofs.Common.{◌≡◌, map, drop}
use Rattle.listing_reader.specs.Drafts.{steps_in}
use Rattle.batch.specs.Runs.{admit_all, intake_in}
use Rattle.batch.proofs.admissions.admit_all.Given as goal

abbrev pub invariant-loop-job : goal.invariant-loop-job
invariant-loop-job g l =
    (admit_all (intake_in g.S.Store.cells l.intake) (map steps_in (drop l.job-index l.jobs)) ≡ admit_all (intake_in g.S.Store.cells l.initial.intake) (map steps_in l.jobs))
    × (l.intake.store ≡ l.initial.intake.store)
