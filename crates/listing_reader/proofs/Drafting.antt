-- What a step's line adds to a draft.
use Rattle.std.proofs.Common.{◌≡◌, ℕ, List, Ok, Err, Result, sym, refl, ap, ◌∙◌}
use Rattle.model.specs.declared.Step.{Step}
use Rattle.script.specs.Lines.{group_of}
use Rattle.script.specs.Faults.{next, Progress, tests_of, read_numbers, step_from, taken, read_fields}
use Rattle.script.specs.declared.Group.TheVariants.{OfStep}
use Rattle.script.specs.declared.Kind.{Kind}
use Rattle.script.specs.declared.ListingFault.{ListingFault}
use Rattle.listing_reader.specs.Entries.{with_entry}
use Rattle.listing_reader.specs.declared.entry.Entry.TheVariants as entry

module _ (p : Progress) (line : ℕ) (k : Kind) (group : group_of k ≡ OfStep) where
  abbrev pub stepped : Step → Result Progress ListingFault
  stepped x = Ok (with_entry p line (entry.Step x))

  step-next : (r : Result (List ℕ) ListingFault) → next r (λ ns. Ok (taken (group_of k) p line k ns)) ≡ next (next r (λ ns. Ok (step_from k ns))) stepped
  step-next (Ok ns) = ap (λ g. Ok (taken g p line k ns)) group
  step-next (Err f) = refl

  pub step-read : (fields : List ℕ) (r was : Result Step ListingFault) → r ≡ next (read_numbers (tests_of p k) line 0 fields) (λ ns. Ok (step_from k ns)) → r ≡ was →
      read_fields p line k fields ≡ next was stepped
  step-read fields r was e same = step-next (read_numbers (tests_of p k) line 0 fields) ∙ ap (λ s. next s stepped) (sym e ∙ same)
