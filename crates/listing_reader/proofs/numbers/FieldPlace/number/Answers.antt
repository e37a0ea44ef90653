use Rattle.std.proofs.Common.{◌≡◌, Err, sym, ap, ◌∙◌, arith, rules}
use Rattle.listing.proofs.Numbers.{number_written, number_unwritten}
use Rattle.script.specs.Faults.{read_number, tested}
use Rattle.listing_reader.proofs.numbers.FieldPlace.number.Goals as goal

pub returns-in_err-number : goal.returns-in_err-number
returns-in_err-number c =
    let fault : c.from_residual.result ≡ Err c.fault.result = search rules in
    fault ∙ ap Err c.fault.ensures ∙ sym (ap (λ o. read_number c.args.test o c.args.self.line c.args.self.k) (number_unwritten c.args.field.now (search rules)))

pub returns-in-Some : goal.returns-in-Some
returns-in-Some c =
    let n = c.in_ok-number.number in
    let place = c.args.self in
    let read = number_written c.args.field.now n (omega arith) (search rules) in
    ap Err c.fault-in-Some.ensures
    ∙ sym (ap (λ o. read_number c.args.test o place.line place.k) read ∙ ap (λ o. tested o n place.line place.k) (sym c.cause.ensures ∙ c.in-Some.is))

pub returns-in-None : goal.returns-in-None
returns-in-None c =
    let n = c.in_ok-number.number in
    let place = c.args.self in
    let read = number_written c.args.field.now n (omega arith) (search rules) in
    sym (ap (λ o. read_number c.args.test o place.line place.k) read ∙ ap (λ o. tested o n place.line place.k) (sym c.cause.ensures ∙ c.in-None.is))
