-- A list of calls, one call further.
use Rattle.std.proofs.Common.{◌≡◌, ℕ, ◌+◌, ◌<◌, List, [], ◌∷◌, ◌++◌, map, length, take, set, sym, ap, ◌∙◌, subst}
use Rattle.std.proofs.lemmas.List.{append_assoc, map-append, take_more_set}
use Rattle.model.specs.Calls.{call, after, answers_of, events_of}
use Rattle.model.specs.Rules.{State}
use Rattle.table.specs.Settings.{Through}
use Rattle.table.proofs.Settings.{through_both}
use Rattle.run.specs.Requests.{call_of, calls_of, answer_of}
use Rattle.run.specs.declared.requests.Answer.{Answer}
use Rattle.run.specs.declared.requests.Request.{Request}

-- In s the request q is made, which gives s'; these are left then.
module _ (s s' : State) (q : Request) (left left' : List Request) (more : left ≡ q ∷ left') (next : s' ≡ (call s (call_of q)).next) where
  pub after-more : after s' (calls_of left') ≡ after s (calls_of left)
  after-more = ap (λ z. after z (calls_of left')) next ∙ sym (ap (λ rs. after s (calls_of rs)) more)

  pub answers-more : (answers : List Answer) (i : ℕ) (a : Answer) → i < length answers → answer_of a ≡ (call s (call_of q)).answer →
      map answer_of (take (i + 1) (set answers i a)) ++ answers_of s' (calls_of left') ≡ map answer_of (take i answers) ++ answers_of s (calls_of left)
  answers-more answers i a within answered =
      let given = map answer_of (take i answers) in
      let rest = answers_of s' (calls_of left') in
      ap (λ xs. map answer_of xs ++ rest) (take_more_set answers i a within)
      ∙ (ap (λ xs. xs ++ rest) (map-append answer_of (take i answers) (a ∷ []))
      ∙ (append_assoc given (answer_of a ∷ []) rest
      ∙ (ap (λ x. given ++ x ∷ rest) answered
      ∙ (ap (λ z. given ++ (call s (call_of q)).answer ∷ answers_of z (calls_of left')) next
      ∙ sym (ap (λ rs. given ++ answers_of s (calls_of rs)) more)))))

  pub through-more : {S : Type 0} (sets : S → ℕ → ℕ → S → Type 0) (a b t : S) → Through sets (call s (call_of q)).events a b → Through sets (events_of s' (calls_of left')) b t → Through sets (events_of s (calls_of left)) a t
  through-more sets a b t one rest =
      subst (λ rs. Through sets (events_of s (calls_of rs)) a t) (sym more)
      (through_both sets (call s (call_of q)).events (events_of (call s (call_of q)).next (calls_of left')) a b t one (subst (λ z. Through sets (events_of z (calls_of left')) b t) next rest))
