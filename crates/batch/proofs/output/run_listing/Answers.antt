use Rattle.std.proofs.Common.{string_bytes, ap, subst}
use Rattle.batch.specs.Played.{ToldOf}
use Rattle.batch.proofs.Determined.{begins, no-report}
use Rattle.batch.proofs.output.run_listing.Goals as goal

pub returns-in_ok-fault_text-in-Err-clause-told : goal.returns-in_ok-fault_text-in-Err-clause-told
returns-in_ok-fault_text-in-Err-clause-told c =
    let text = string_bytes c.in_ok-fault_text-in-Err.field-0 in
    subst (λ o. ToldOf o text) c.in-Err.ensures.outcome (no-report text (ap (begins 33) c.in_ok-fault_text-in-Err.ensures))
