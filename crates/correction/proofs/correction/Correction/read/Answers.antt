use Rattle.std.proofs.Common.{◌≡◌, Err, rules}
use Rattle.correction.specs.Calls.{reading}
use Rattle.correction.specs.Corrections.{correction_of}
use Rattle.correction.proofs.Calling.{refused, found, unread}
use Rattle.correction.proofs.correction.Correction.read.Goals as goal

pub returns-in_err-check_access : goal.returns-in_err-check_access
returns-in_err-check_access g c =
    let told : c.from_residual.result ≡ Err c.in_err-check_access.field-0.0 = search rules in
    refused (reading c.args.cell) (g.S.Store.cells c.args.store.now) (correction_of c.args.self.now) _ _ told (λ s k hc. (c.in_err-check_access.ensures.err s k hc).0)

pub returns-in_err-reading : goal.returns-in_err-reading
returns-in_err-reading g c =
    let b = c.args.self.now in
    let here = c.in_ok-check_access.ensures.ok in
    let told : c.from_residual-in_err-reading.result ≡ Err c.in_err-reading.field-0.0 = search rules in
    unread (g.S.Store.cells c.args.store.now) c.args.cell b.logs b.is_open here.0 here.1 c.read.new.self _ _ told c.in_err-reading.ensures.err

pub returns : goal.returns
returns g c =
    let b = c.args.self.now in
    let here = c.in_ok-check_access.ensures.ok in
    found (g.S.Store.cells c.args.store.now) c.args.cell b.logs b.is_open here.0 here.1 c.read.new.self c.read.result _ c.in_ok-reading.was c.read.ensures.ok
