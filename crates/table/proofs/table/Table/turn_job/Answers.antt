use Rattle.std.proofs.Common.{get_or, refl, ap, arith}
use Rattle.job.specs.Jobs.{job_of}
use Rattle.model.specs.Rules.{with_jobs}
use Rattle.table.specs.States.{state_of}
use Rattle.table.proofs.Tabling.{row_means, row_becomes, as_many, room_kept, same_done}
use Rattle.table.proofs.table.Table.turn_job.Goals as goal

pub invariant_of-self : goal.invariant_of-self
invariant_of-self g c =
    let t = c.args.self.now in
    let s = state_of (g.S.Store.cells c.args.store.now) t in
    let xs = c.deref_mut.result.now in
    let d = c.index-deref_mut-i.result in
    let b' = c.turn.new.self in
    record {
      room = room_kept t xs c.args.i d c.deref_mut.ensures.value c.requires b' (same_done s 0 (job_of (get_or xs c.args.i d)) (job_of b') c.turn.result (c.turn.ensures s 0 refl refl));
      few_jobs = omega (arith, t.few_jobs, as_many t xs c.args.i d c.deref_mut.ensures.value c.requires b');
      few_corrections = t.few_corrections;
    }

pub returns : goal.returns
returns g c =
    let t = c.args.self.now in
    let xs = c.deref_mut.result.now in
    let d = c.index-deref_mut-i.result in
    let b' = c.turn.new.self in
    let e = row_becomes job_of t.jobs xs c.args.i d c.deref_mut.ensures.value c.requires b' (job_of b') refl in (
      job_of (get_or xs c.args.i d),
      job_of b',
      row_means job_of t.jobs xs c.args.i d c.deref_mut.ensures.value c.requires,
      (λ C. ap (with_jobs (state_of C t)) e),
      c.turn.ensures,
      as_many t xs c.args.i d c.deref_mut.ensures.value c.requires b',
    )
