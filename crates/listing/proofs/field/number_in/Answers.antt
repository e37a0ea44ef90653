use Rattle.std.proofs.Common.{◌≡◌, true, false, sym, ap, ◌∙◌, ⊎_elim}
use Rattle.std.proofs.lemmas.Bool.{cases_Bool, false≢true}
use Rattle.report.specs.Text.{field}
use Rattle.listing.specs.Columns.{value_from}
use Rattle.listing.proofs.Written.{value_field}
use Rattle.listing.proofs.field.number_in.Goals as goal

pub returns : goal.returns
returns c =
    ⊎_elim
    (λ (shown : c.shows.result ≡ true). rw (c.then_some.ensures, shown) (c.shows.ensures.written shown))
    (λ (other : c.shows.result ≡ false).
    rw (c.then_some.ensures, other)
    (λ n h e.
    let value = c.value-number.ensures ∙ (ap (value_from 0) e ∙ value_field n h) in
    false≢true (sym other ∙ c.shows.ensures.found (e ∙ ap field (sym value)))))
    (cases_Bool c.shows.result)
