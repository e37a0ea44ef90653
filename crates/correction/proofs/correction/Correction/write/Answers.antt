use Rattle.std.proofs.Common.{◌≡◌, Err, rules}
use Rattle.correction.specs.Calls.{writing}
use Rattle.correction.specs.Corrections.{correction_of}
use Rattle.correction.proofs.Calling.{refused, written}
use Rattle.correction.proofs.correction.Correction.write.Goals as goal

pub returns-in_err-check_access : goal.returns-in_err-check_access
returns-in_err-check_access g c =
    let number = c.args.number in
    let told : c.from_residual.result ≡ Err c.in_err-check_access.field-0.0 = search rules in
    refused (writing c.args.cell number) (g.S.Store.cells c.args.store.now) (correction_of c.args.self.now) _ _ told (λ s k hc. (c.in_err-check_access.ensures.err s k hc).1 number)

pub returns : goal.returns
returns g c =
    let b = c.args.self.now in
    let here = c.in_ok-check_access.ensures.ok in
    let e = c.write.ensures in
    written (g.S.Store.cells c.args.store.now) c.args.cell b.logs b.is_open here.0 here.1 c.args.number c.write.new.self c.write.result e.answer e.ok e.err
