use Rattle.std.proofs.Common.{ℕ, [], ◌∷◌, ◌++◌, get_or, None, ap, ◌∙◌, add-one, arith}
use Rattle.job.specs.Jobs.{job_of}
use Rattle.job.specs.Shape.{is_done}
use Rattle.model.specs.declared.Party.TheVariants.{Job}
use Rattle.table.specs.States.{state_of, done}
use Rattle.table.proofs.Tabling.{row_means, row_becomes, as_many, room_left, room_used, not_yet}
use Rattle.table.proofs.table.Table.finish.Goals as goal

pub push-requires : goal.push-requires
push-requires c =
    let t = c.args.self.now in
    let xs = c.deref_mut.result.now in
    let d = c.index-deref_mut-i.result in
    let left = room_left t xs c.args.i d c.deref_mut.ensures.value c.requires.place (not_yet t xs c.args.i d c.deref_mut.ensures.value c.requires.place c.requires.commit) in
    (omega arith, omega (arith, left, t.few_jobs, t.few_corrections))

pub invariant_of-self : goal.invariant_of-self
invariant_of-self c =
    let t = c.args.self.now in
    let xs = c.deref_mut.result.now in
    let d = c.index-deref_mut-i.result in
    let shown = c.deref_mut.ensures.value in
    let b' = c.finish.new.self in
    let used = room_used t xs c.args.i d shown c.requires.place (not_yet t xs c.args.i d shown c.requires.place c.requires.commit) b' (ap (λ b. is_done b.stage) c.finish.ensures) in
    record {
      room = omega (arith, used, c.push.ensures.len);
      few_jobs = omega (arith, t.few_jobs, as_many t xs c.args.i d shown c.requires.place b');
      few_corrections = t.few_corrections;
    }

pub returns : goal.returns
returns c =
    let t = c.args.self.now in
    let i = c.args.i in
    let xs = c.deref_mut.result.now in
    let d = c.index-deref_mut-i.result in
    let shown = c.deref_mut.ensures.value in
    let b = job_of (get_or xs i d) in
    let e = row_becomes job_of t.jobs xs i d shown c.requires.place c.finish.new.self (done b) c.finish.ensures in
    let o = c.push.ensures.items ∙ ap (λ (n : ℕ). t.order.items ++ Job n ∷ []) (add-one i) in (
      b,
      row_means job_of t.jobs xs i d shown c.requires.place,
      (λ C n. record (state_of C t) { jobs = e n; right = None; order = o n }),
    )
