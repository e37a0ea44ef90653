use Rattle.std.proofs.Common.{suc, get_or, Ok, Err, sym, refl, ap, ◌∙◌, subst, arith}
use Rattle.std.proofs.lemmas.Result.{err_from_is_err_and}
use Rattle.model.specs.Calls.{file_by}
use Rattle.table.specs.Slips.{numbers}
use Rattle.table.proofs.Corrected.{as_many_opened, as_many-unmarked, unfinished-unmarked, jobs-unmarked, filed_fewer, file-refused, file-accepted, file-happens, same_call, no_call, by_place, by-none}
use Rattle.correction.specs.Corrections.{correction_of}
use Rattle.table.proofs.Tabling.{row_read}
use Rattle.table.specs.Settings.{Through, changes_in}
use Rattle.table.proofs.Settings.{filed_through, untouched}
use Rattle.model.specs.declared.Party.TheVariants.{Correction}
use Rattle.table.proofs.table.Table.file.Goals as goal

pub returns-in_err-i-clause-run : goal.returns-in_err-i-clause-run
returns-in_err-i-clause-run g c =
    let r = err_from_is_err_and c.from_residual.result c.from_residual.ensures.1 in
    by-none file_by (g.S.Store.cells c.args.store.now) c.args.self.now (numbers c.args.slip) (λ s k. refl) c.in_err-i.field-0.0 c.in_err-i.ensures c.from_residual.result (r.1 ∙ ap Err r.2)

pub returns-in_err-check-clause-run : goal.returns-in_err-check-clause-run
returns-in_err-check-clause-run g c =
    let t = c.args.self.now in
    let C = g.S.Store.cells c.args.store.now in
    let here = row_read correction_of t.corrections c.deref.result.now c.in_ok-i.i c.index-deref-i.result c.deref.ensures.0 c.in_ok-i.ensures.0 c.index-deref-i.is in
    let e = file-refused C t c.in_ok-i.i c.index-deref-i.result here c.in_err-check.field-0.0 c.in_err-check.ensures in
    let r = err_from_is_err_and c.from_residual-in_err-check.result c.from_residual-in_err-check.ensures.1 in
    by_place file_by C t (numbers c.args.slip) _ c.from_residual-in_err-check.result c.in_ok-i.i c.in_ok-i.ensures (sym (ap (λ o. o.next) e), (r.1 ∙ ap Err r.2) ∙ sym (ap (λ o. o.answer) e))

pub push-requires : goal.push-requires
push-requires g c =
    let t = c.args.self.now in
    let C = g.S.Store.cells c.args.store.now in
    let here = row_read correction_of t.corrections c.deref.result.now c.in_ok-i.i c.index-deref-i.result c.deref.ensures.0 c.in_ok-i.ensures.0 c.index-deref-i.is in
    let fewer =
    filed_fewer C t c.in_ok-i.i c.index-deref-i.result here c.in_ok-check.ensures c.deref_mut.result.now c.index-deref_mut-i.result c.commit-written.new.self c.deref_mut.ensures.value c.in_ok-i.ensures.0
    c.commit-written.ensures.closed in
    (omega arith, omega (arith, fewer, t.room, t.few_jobs, t.few_corrections))

pub invariant_of-self : goal.invariant_of-self
invariant_of-self g c =
    let t = c.args.self.now in
    let C = g.S.Store.cells c.args.store.now in
    let here = row_read correction_of t.corrections c.deref.result.now c.in_ok-i.i c.index-deref-i.result c.deref.ensures.0 c.in_ok-i.ensures.0 c.index-deref-i.is in
    let fewer =
    filed_fewer C t c.in_ok-i.i c.index-deref-i.result here c.in_ok-check.ensures c.deref_mut.result.now c.index-deref_mut-i.result c.commit-written.new.self c.deref_mut.ensures.value c.in_ok-i.ensures.0
    c.commit-written.ensures.closed in
    let many = as_many-unmarked t c.as_mut_slice.result.now c.unmark_all.new.jobs c.as_mut_slice.ensures.value c.unmark_all.ensures in
    let opened = as_many_opened t c.deref_mut.result.now c.in_ok-i.i c.index-deref_mut-i.result c.deref_mut.ensures.value c.in_ok-i.ensures.0 c.commit-written.new.self in
    record {
      room = omega (arith, t.room, fewer, many, opened, unfinished-unmarked t c.as_mut_slice.result.now c.unmark_all.new.jobs c.as_mut_slice.ensures.value c.unmark_all.ensures, c.push.ensures.len);
      few_jobs = omega (arith, t.few_jobs, many);
      few_corrections = omega (arith, t.few_corrections, opened);
    }

pub returns-clause-run : goal.returns-clause-run
returns-clause-run g c =
    let t = c.args.self.now in
    let C = g.S.Store.cells c.args.store.now in
    let here = row_read correction_of t.corrections c.deref.result.now c.in_ok-i.i c.index-deref-i.result c.deref.ensures.0 c.in_ok-i.ensures.0 c.index-deref-i.is in
    by_place file_by C t (numbers c.args.slip) _ (Ok tt) c.in_ok-i.i c.in_ok-i.ensures
    (file-accepted C t c.in_ok-i.i c.index-deref-i.result here c.in_ok-check.ensures c.deref_mut.result.now c.index-deref_mut-i.result c.commit-written.new.self c.deref_mut.ensures.value c.in_ok-i.ensures.0
    c.commit-written.ensures.closed
    (g.S.Store.cells c.commit-written.new.store) c.commit-written.result _ c.push.new.self.items c.commit-written.ensures.after c.commit-written.ensures.count
    (jobs-unmarked t c.as_mut_slice.result.now c.unmark_all.new.jobs c.as_mut_slice.ensures.value c.unmark_all.ensures) c.push.ensures.items)

pub returns-in_err-i-clause-store : goal.returns-in_err-i-clause-store
returns-in_err-i-clause-store g c =
    let store = c.args.store.now in
    let e = no_call file_by (g.S.Store.cells store) c.args.self.now (numbers c.args.slip) (λ s k. refl) c.in_err-i.field-0.0 c.in_err-i.ensures in
    untouched g.S.Store.sets store _ (ap (λ o. changes_in o.events) e)

pub returns-in_err-check-clause-store : goal.returns-in_err-check-clause-store
returns-in_err-check-clause-store g c =
    let t = c.args.self.now in
    let store = c.args.store.now in
    let C = g.S.Store.cells store in
    let here = row_read correction_of t.corrections c.deref.result.now c.in_ok-i.i c.index-deref-i.result c.deref.ensures.0 c.in_ok-i.ensures.0 c.index-deref-i.is in
    let e = same_call file_by C t (numbers c.args.slip) c.in_ok-i.i c.in_ok-i.ensures ∙ file-refused C t c.in_ok-i.i c.index-deref-i.result here c.in_err-check.field-0.0 c.in_err-check.ensures in
    untouched g.S.Store.sets store _ (ap (λ o. changes_in o.events) e)

pub returns-clause-store : goal.returns-clause-store
returns-clause-store g c =
    let t = c.args.self.now in
    let store = c.args.store.now in
    let C = g.S.Store.cells store in
    let here = row_read correction_of t.corrections c.deref.result.now c.in_ok-i.i c.index-deref-i.result c.deref.ensures.0 c.in_ok-i.ensures.0 c.index-deref-i.is in
    let e =
    ap (λ o. o.events) (same_call file_by C t (numbers c.args.slip) c.in_ok-i.i c.in_ok-i.ensures)
    ∙ file-happens C t c.in_ok-i.i c.index-deref-i.result here c.in_ok-check.ensures c.deref_mut.result.now c.index-deref_mut-i.result c.commit-written.new.self c.deref_mut.ensures.value c.in_ok-i.ensures.0
    c.commit-written.ensures.closed in
    subst (λ es. Through g.S.Store.sets es store c.commit-written.new.store) (sym e)
    (filed_through g.S.Store.sets (Correction (suc c.in_ok-i.i)) (correction_of (get_or c.deref_mut.result.now c.in_ok-i.i c.index-deref_mut-i.result)).writes store c.commit-written.new.store c.commit-written.ensures.each)
