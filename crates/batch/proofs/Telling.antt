-- What the report of a script's run tells.
use Rattle.std.proofs.Common.{◌≡◌, ℕ, List, Ok, Err, Result, String, string_bytes, IfOk, sym, refl, ap, ◌∙◌}
use Rattle.std.proofs.lemmas.List.{length-map, length-replicate}
use Rattle.model.specs.Intake.{new_job}
use Rattle.script.specs.Scripts.{Script, Within, Words}
use Rattle.store.proofs.Changes.{length-replay}
use Rattle.batch.specs.Played.{Printable, Report, Told}
use Rattle.batch.specs.Reports.{report_lines, report_text, starts_in}
use Rattle.batch.specs.Runs.{final_state, intake_for, preset_changes, zeros}
use Rattle.batch.proofs.Determined.{one-report}
use Rattle.batch.proofs.Reporting.{starts-many}
use Rattle.batch.proofs.Serially.{at_most_16, keeps, listed, one-by-one}

module _ (s : Script) (w : Within s) (starts : Words (starts_in (final_state s))) (cells : Words (final_state s).cells) where
  pub told : (text : List ℕ) → text ≡ report_text (final_state s) → Told s text
  told text e =
      let t = final_state s in
      let one = one-by-one s w 1 (zeros s) in
      let report : Report = record { order = one.0; starts = starts_in t; cells = t.cells } in
      let printable : Printable report = (listed s.jobs one.0 (intake_for s).cells (at_most_16 s w 1 (zeros s)) one.2.end, starts, cells) in
      let tells = e ∙ ap (λ ps. report_lines ps (starts_in t) t.cells) one.1 in
      record {
        report = report;
        of_run = record { order = sym one.1; starts = refl; cells = refl };
        printable = printable;
        tells = tells;
        only = λ other fits same. one-report report other printable fits (sym same ∙ tells);
        each_job = starts-many t ∙ ((keeps s w 1 (zeros s)).jobs ∙ length-map s.jobs new_job);
        each_cell = (keeps s w 1 (zeros s)).cells ∙ (length-replay (zeros s) (preset_changes s.presets) ∙ length-replicate s.count 0);
        serial = one.2;
      }

module _ (s : Script) (w : Within s) {A E : Type 0} where
  pub told_if : (r : Result (String A) E) → IfOk r (λ t. string_bytes t ≡ report_text (final_state s)) → IfOk r (λ t. Words (starts_in (final_state s)) × Words (final_state s).cells) → IfOk r (λ t. Told s (string_bytes t))
  told_if (Ok t) e fits = told s w fits.0 fits.1 (string_bytes t) e
  told_if (Err x) e fits = tt
