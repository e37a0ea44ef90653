use Rattle.std.proofs.Common.{ℕ, subst}
use Rattle.listing_reader.proofs.Refusing.{Bounds, bounds}
use Rattle.listing_reader.proofs.draft.Draft.job_fault.Goals as goal

pub returns-clause-bounds : goal.returns-clause-bounds
returns-clause-bounds c =
    subst (λ (n : ℕ). Bounds n c.admission_fault.result) c.len.ensures (bounds c.len.result c.args.self.now.count c.as_slice.result.now c.admission_fault.result c.admission_fault.ensures)
