-- A script within the bounds has all its jobs admitted.
use Rattle.std.proofs.Common.{◌≡◌, ℕ, suc, List, [], ◌∷◌, ◌++◌, length, sym, ap, ◌∙◌, subst, append_assoc, arith}
use Rattle.std.proofs.lemmas.List.{append-nil, length_push}
use Rattle.model.specs.Intake.{Intake, admit_unless}
use Rattle.model.specs.declared.Step.{Step}
use Rattle.script.specs.Scripts.{Script, Admitted, Within}
use Rattle.store.proofs.Changes.{length-replay}
use Rattle.batch.specs.Runs.{admit_all, intake_over, preset_changes}

abbrev pub intake : ℕ → List ℕ → List (List Step) → Intake
intake number cells programs = record { number = number; cells = cells; programs = programs }

all_admitted : (number : ℕ) (cells : List ℕ) (programs jobs : List (List Step)) → Admitted (length cells) (length programs) jobs → admit_all (intake number cells programs) jobs ≡ intake number cells (programs ++ jobs)
all_admitted number cells programs [] h = ap (intake number cells) (sym (append-nil programs))
all_admitted number cells programs (steps ∷ jobs) h =
    let more = programs ++ steps ∷ [] in
    let n : suc (length programs) ≡ length more = (let p = length_push programs steps in omega arith) in
    ap (λ o. admit_all (admit_unless (intake number cells programs) steps o).0 jobs) h.0
    ∙ (all_admitted number cells more jobs (subst (λ (m : ℕ). Admitted (length cells) m jobs) n h.1) ∙ ap (intake number cells) (append_assoc programs (steps ∷ []) jobs))

pub script-intake : (s : Script) → Within s → (number : ℕ) (cells preset : List ℕ) → length cells ≡ s.count → preset ≡ (intake_over number cells s).cells → admit_all (intake number preset []) s.jobs ≡ intake_over number cells s
script-intake s w number cells preset count e =
    let many : s.count ≡ length preset = sym count ∙ (sym (length-replay cells (preset_changes s.presets)) ∙ sym (ap length e)) in
    all_admitted number preset [] s.jobs (subst (λ (n : ℕ). Admitted n 0 s.jobs) many w.jobs) ∙ ap (λ (cs : List ℕ). intake number cs s.jobs) e
