use Rattle.std.proofs.Common.{suc, get_or, sym, refl, ap, ◌∙◌, subst}
use Rattle.job.specs.Jobs.{job_of}
use Rattle.job.specs.Moves.{WriteOf}
use Rattle.model.specs.Rules.{counted, with_jobs}
use Rattle.table.specs.States.{state_of, after_taking}
use Rattle.table.proofs.Tabling.{row_means, row_becomes, as_many, with_same}
use Rattle.table.proofs.table.Table.take_write.Goals as goal

pub returns-in_err-entry : goal.returns-in_err-entry
returns-in_err-entry c =
    let t = c.args.self.now in
    let i = c.args.i in
    let xs = c.deref_mut.result.now in
    let d = c.index-deref_mut-i.result in
    let b = job_of (get_or xs i d) in
    let b' = c.take_write.new.self in
    let none = subst (WriteOf b (job_of b')) c.in_err-entry.was c.take_write.ensures in
    let h = row_means job_of t.jobs xs i d c.deref_mut.ensures.value c.requires in
    let e = row_becomes job_of t.jobs xs i d c.deref_mut.ensures.value c.requires b' b none.1 in (
      b,
      b,
      h,
      subst (WriteOf b b) (sym c.from_residual.ensures) (none.0, refl),
      (λ C.
          ap (with_jobs (state_of C t)) e
          ∙ (with_same (state_of C t) i b h ∙ ap (after_taking (state_of C t) (suc i) b) (sym c.from_residual.ensures))),
      as_many t xs i d c.deref_mut.ensures.value c.requires b',
    )

pub returns : goal.returns
returns c =
    let t = c.args.self.now in
    let i = c.args.i in
    let xs = c.deref_mut.result.now in
    let d = c.index-deref_mut-i.result in
    let b' = c.take_write.new.self in
    let e = row_becomes job_of t.jobs xs i d c.deref_mut.ensures.value c.requires b' (job_of b') refl in (
      job_of (get_or xs i d),
      job_of b',
      row_means job_of t.jobs xs i d c.deref_mut.ensures.value c.requires,
      subst (WriteOf (job_of (get_or xs i d)) (job_of b')) c.in_ok-entry.was c.take_write.ensures,
      (λ C n. record (state_of C t) { jobs = e n; settings = counted t.settings }),
      as_many t xs i d c.deref_mut.ensures.value c.requires b',
    )
