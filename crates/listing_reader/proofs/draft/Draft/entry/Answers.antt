use Rattle.std.proofs.Common.{◌≡◌, rules}
use Rattle.std.proofs.lemmas.Result.{err_from_is_err_and}
use Rattle.script.specs.Lines.{group_of}
use Rattle.script.specs.declared.Group.TheVariants.{OfStep}
use Rattle.listing_reader.specs.Drafts.{progress_of}
use Rattle.listing_reader.specs.Parts.{kind_in}
use Rattle.listing_reader.proofs.Drafting.{step-read}
use Rattle.listing_reader.proofs.draft.Draft.entry.Goals as goal

pub returns-in_err-step_in-in_default : goal.returns-in_err-step_in-in_default
returns-in_err-step_in-in_default c =
    let d = c.args.self.now in
    let p = progress_of d in
    let k = kind_in c.args.content in
    let group : group_of k ≡ OfStep = search rules in
    let e = err_from_is_err_and c.from_residual-in_err-step_in-in_default.result c.from_residual-in_err-step_in-in_default.ensures.1 in
    rw (e.1, e.2) (λ fields placed. step-read p d.line k group fields c.step_in.result _ (c.step_in.ensures p fields placed) c.in_err-step_in-in_default.was)

pub returns-in_ok-step_in-in_default : goal.returns-in_ok-step_in-in_default
returns-in_ok-step_in-in_default c =
    let d = c.args.self.now in
    let p = progress_of d in
    let k = kind_in c.args.content in
    let group : group_of k ≡ OfStep = search rules in
    λ fields placed. step-read p d.line k group fields c.step_in.result _ (c.step_in.ensures p fields placed) c.in_ok-step_in-in_default.was
