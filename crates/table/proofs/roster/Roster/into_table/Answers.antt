use Rattle.std.proofs.Common.{map, length, ap, arith}
use Rattle.correction.specs.Corrections.{correction_of}
use Rattle.model.specs.Intake.{sealed}
use Rattle.table.specs.Intakes.{intake_of}
use Rattle.table.specs.Shape.{unclosed}
use Rattle.table.proofs.Rostering.{as_admitted}
use Rattle.table.proofs.Tabling.{unfinished_le}
use Rattle.table.proofs.roster.Roster.into_table.Goals as goal

pub invariant_of-result : goal.invariant_of-result
invariant_of-result c =
    let r = c.args.self in
    record {
      room = omega (arith, unfinished_le r.jobs.items, ap length c.new-2.ensures, ap unclosed c.new.ensures, ap length c.new.ensures);
      few_jobs = r.few_jobs;
      few_corrections = omega (arith, ap length c.new.ensures);
    }

pub returns : goal.returns
returns c =
    let r = c.args.self in
    let jobs = as_admitted r.jobs.items r.unstarted in
    λ C n. record (sealed (intake_of C r)) { jobs = jobs n; corrections = ap (map correction_of) c.new.ensures n; order = c.new-2.ensures n }
