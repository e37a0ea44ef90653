use Rattle.std.proofs.Common.{[], ◌∷◌, ap, ◌∙◌}
use Rattle.model.specs.Calls.{Turn, File, call}
use Rattle.model.specs.Law.{left_by}
use Rattle.run.specs.Runs.{state}
use Rattle.run.specs.Slips.{numbers_of}
use Rattle.run_tests.proofs.lawful.turn_and_file.Goals as goal

pub returns : goal.returns
returns g c =
    let slip = numbers_of c.args.slip in
    let calls = Turn c.args.job ∷ File slip ∷ [] in
    let s₀ = state g.S.Store.cells c.seal-run.result in
    c.close-store.ensures.serial s₀ calls c.seal-run.ensures.lawful (c.file-filed.ensures.next ∙ ap (λ s. (call s (File slip)).next) c.turn.ensures.next)
    ∙ ap (λ s. left_by s calls) c.seal-run.ensures.sealed
