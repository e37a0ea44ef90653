use Rattle.std.proofs.Common.{Err, refl, ap, ◌∙◌, arith}
use Rattle.std.proofs.lemmas.Result.{err_from_is_err_and}
use Rattle.correction.specs.Calls.{writing}
use Rattle.table.specs.Slips.{numbers}
use Rattle.table.proofs.Corrected.{as_many_opened, room-called, called, by_place, by-none}
use Rattle.table.proofs.table.Table.write.Goals as goal

pub returns-in_err-i : goal.returns-in_err-i
returns-in_err-i g c =
    let r = err_from_is_err_and c.from_residual.result c.from_residual.ensures.1 in
    by-none (writing c.args.cell c.args.number) (g.S.Store.cells c.args.store.now) c.args.self.now (numbers c.args.slip) (λ s k. refl) c.in_err-i.field-0.0 c.in_err-i.ensures c.from_residual.result (r.1 ∙ ap Err r.2)

pub invariant_of-self : goal.invariant_of-self
invariant_of-self g c =
    let t = c.args.self.now in
    let C = g.S.Store.cells c.args.store.now in
    let xs = c.deref_mut.result.now in
    let d = c.index-deref_mut-i.result in
    let p = c.in_ok-i.ensures in
    record {
      room = room-called t xs c.in_ok-i.i d c.deref_mut.ensures.value p.0 (writing c.args.cell c.args.number) C c.write.new.self c.write.result c.write.ensures (λ s k. refl);
      few_jobs = t.few_jobs;
      few_corrections = omega (arith, t.few_corrections, as_many_opened t xs c.in_ok-i.i d c.deref_mut.ensures.value p.0 c.write.new.self);
    }

pub returns : goal.returns
returns g c =
    let t = c.args.self.now in
    let C = g.S.Store.cells c.args.store.now in
    let p = c.in_ok-i.ensures in
    by_place (writing c.args.cell c.args.number) C t (numbers c.args.slip) _ c.write.result c.in_ok-i.i p
    (called t c.deref_mut.result.now c.in_ok-i.i c.index-deref_mut-i.result c.deref_mut.ensures.value p.0 (writing c.args.cell c.args.number) C c.write.new.self c.write.result c.write.ensures)
