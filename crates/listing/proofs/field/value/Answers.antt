use Rattle.std.proofs.Common.{sym, ◌∙◌, rules}
use Rattle.std.proofs.lemmas.Iterator.{YieldsList-from_slice}
use Rattle.std.proofs.lemmas.Iterator.Consumers.{fold_from_yields_List}
use borrow.Author.Tests.{tests}
use Rattle.listing.specs.Columns.{shifted}
use Rattle.listing.proofs.Written.{value-fold}
use Rattle.listing.proofs.field.value.Goals as goal

pub returns : goal.returns
returns c =
    fold_from_yields_List _ shifted 0 c.fold.result c.fold.ensures.ran (YieldsList-from_slice c.args.field.now (cc)) (λ a x b q k. search (rules, tests))
    ∙ sym (value-fold 0 c.args.field.now)
