use Rattle.std.proofs.Common.{◌≡◌, List, ap, ◌∙◌, subst}
use Rattle.listing_reader.specs.Drafts.{script_in}
use Rattle.model.specs.Calls.{after, events_of}
use Rattle.model.specs.Intake.{Intake}
use Rattle.model.specs.declared.Step.{Step}
use Rattle.run.specs.Runs.{state}
use Rattle.script.specs.declared.Allotment.{Allotment}
use Rattle.script.specs.declared.Preset.{Preset}
use Rattle.store.specs.Changes.{replay}
use Rattle.store.specs.Sets.{SetsEach}
use Rattle.table.specs.Settings.{Through}
use Rattle.batch.specs.Runs.{turns_of, preset_changes, admit_all, intake_over, intake_in}
use Rattle.batch.proofs.Admitting.{script-intake}
use Rattle.batch.proofs.Fitting.{ran, ran_through}
use Rattle.batch.proofs.running.run_fitting.Goals as goal

pub returns : goal.returns
returns g c =
    let cells = g.S.Store.cells in
    let sets = g.S.Store.sets in
    let loan = g.S.Store.loan in
    let s = script_in c.args.script.now in
    let i = intake_in cells c.admit_all.new.intake in
    let preset : cells c.preset.new.store ≡ (intake_over c.args.number (cells c.args.store) s).cells = c.preset.ensures.cells ∙ ap (λ (ps : List Preset). replay (cells c.args.store) (preset_changes ps)) c.presets.ensures in
    let admitted : i ≡ intake_over c.args.number (cells c.args.store) s =
    c.admit_all.ensures.intake
    ∙ (ap (λ (js : List (List Step)). admit_all (intake_in cells c.new-intake.result) js) c.jobs.ensures
    ∙ (ap (λ (x : Intake). admit_all x s.jobs) c.new-intake.ensures.intake ∙ script-intake s c.args.script.now.within c.args.number (cells c.args.store) (cells c.preset.new.store) c.requires preset)) in
    let played = c.play.ensures.next ∙ (ap (λ (ts : List Allotment). after (state cells c.seal-run.result) (turns_of ts)) c.turns.ensures ∙ ap (λ z. after z (turns_of s.turns)) c.seal-run.ensures.sealed) in
    let kept = c.seal-run.ensures.store ∙ (c.admit_all.ensures.store ∙ c.new-intake.ensures.store) in
    let each = subst (λ (ps : List Preset). SetsEach sets c.args.store (preset_changes ps) c.preset.new.store) c.presets.ensures c.preset.ensures.each in
    let through =
    subst (λ z. Through sets (events_of z (turns_of s.turns)) c.preset.new.store c.play.new.run.store) c.seal-run.ensures.sealed
    (subst (λ (ts : List Allotment). Through sets (events_of (state cells c.seal-run.result) (turns_of ts)) c.preset.new.store c.play.new.run.store) c.turns.ensures
    (subst (λ b. Through sets (events_of (state cells c.seal-run.result) (turns_of c.turns.result.now)) b c.play.new.run.store) kept c.play.ensures.store)) in
    record {
      state = ran s c.args.number (cells c.args.store) i (state cells c.play.new.run) (state cells c.settle.new.self) admitted played c.settle.ensures.next;
      store = ran_through s c.args.number (cells c.args.store) i (state cells c.play.new.run) (state cells c.settle.new.self) admitted played sets c.args.store c.preset.new.store c.play.new.run.store c.settle.new.self.store each through c.settle.ensures.store;
      loan = c.settle.ensures.loan ∙ (c.play.ensures.loan ∙ (ap loan kept ∙ c.preset.ensures.loan));
    }
