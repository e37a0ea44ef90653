use Rattle.std.proofs.Common.{suc, Some, None, sym, refl, ap, ◌∙◌, subst, arith}
use Rattle.job.specs.Moves.{WriteOf}
use Rattle.job.specs.Shape.{is_done}
use Rattle.model.specs.Logs.{at}
use Rattle.table.specs.States.{state_of, with_joined}
use Rattle.table.specs.Settings.{Through}
use Rattle.table.proofs.Rules.{same_job, c1, c2, c2-events, c3}
use Rattle.table.proofs.Settings.{not_set}
use Rattle.table.proofs.table.Table.commit.Goals as goal

pub returns-in-Some : goal.returns-in-Some
returns-in-Some g c =
    let C = g.S.Store.cells c.args.store.now in
    let s = state_of C c.args.self.now in
    let b = c.requires.stage in
    let x = c1 s _ c.args.i b.0 b.1 b.2 c.in-Some.marked c.in-Some.ensures (c.unmark.ensures C) in
    record { next = x.0; answer = x.1; loan = refl; store = not_set g.S.Store.sets c.args.store.now s (suc c.args.i) _ x.0 (ap (λ z. z.settings) (c.unmark.ensures C)) }

pub returns-in-Some-take_write : goal.returns-in-Some-take_write
returns-in-Some-take_write g c =
    let C = g.S.Store.cells c.args.store.now in
    let D = g.S.Store.cells c.set.new.self in
    let s = state_of C c.args.self.now in
    let b = c.requires.stage in
    let w = c.in-Some-take_write.ensures in
    let same = same_job s c.args.i w.0 b.0 w.2 b.1 in
    let x =
    c2 s _ c.args.i b.0 b.1 b.2 w.1 c.in-Some-take_write.entry D c.in_default.ensures (subst (λ z. WriteOf z w.1 (Some c.in-Some-take_write.entry)) same w.3)
    c.set.ensures.after (w.4 D) in
    let es = c2-events s s c.args.i b.0 b.1 b.2 w.1 c.in-Some-take_write.entry c.in_default.ensures (subst (λ z. WriteOf z w.1 (Some c.in-Some-take_write.entry)) same w.3) in
    record { next = x.0; answer = x.1; loan = c.set.ensures.same; store = subst (λ es. Through g.S.Store.sets es c.args.store.now c.set.new.self) (sym es) (c.set.new.self, c.set.ensures.done, refl) }

pub finish-requires : goal.finish-requires
finish-requires g c =
    let C = g.S.Store.cells c.args.store.now in
    let b = c.requires.stage in
    let w = c.in_default-take_write.ensures in
    record {
      place = omega (arith, w.5, c.requires.place);
      commit = (b.0, ap (λ z. at z.jobs (suc c.args.i)) (w.4 C) ∙ b.1, ap is_done b.2);
    }

pub returns : goal.returns
returns g c =
    let C = g.S.Store.cells c.args.store.now in
    let s = state_of C c.args.self.now in
    let b = c.requires.stage in
    let w = c.in_default-take_write.ensures in
    let f = c.finish.ensures in
    let same = same_job s c.args.i w.0 b.0 w.2 b.1 in
    let kept = w.4 C in
    let done = same_job s c.args.i f.0 b.0 (sym (ap (λ z. at z.jobs (suc c.args.i)) kept) ∙ f.1) b.1 in
    let x =
    c3 s _ c.args.i b.0 b.1 b.2 w.1 c.in_default.ensures (subst (λ z. WriteOf z w.1 None) same w.3)
    (f.2 C ∙ (ap (λ z. with_joined z (suc c.args.i) f.0) kept ∙ ap (with_joined s (suc c.args.i)) done)) in
    record { next = x.0; answer = x.1; loan = refl; store = not_set g.S.Store.sets c.args.store.now s (suc c.args.i) _ x.0 (ap (λ z. z.settings) (f.2 C) ∙ ap (λ z. z.settings) kept) }
