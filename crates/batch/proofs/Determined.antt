-- A text tells one report and no other.
use Rattle.std.proofs.Common.{◌≡◌, ℕ, suc, ◌^◌, ◌<◌, Bool, true, false, eqb, List, [], ◌∷◌, ◌++◌, map, length, Some, None, Option, sym, refl, ap, ◌∙◌, append_assoc}
use Rattle.std.proofs.lemmas.List.{append-nil}
use Rattle.std.proofs.lemmas.Bool.{both_ways}
use Rattle.listing.specs.Columns.{value_from}
use Rattle.listing.proofs.Written.{length-field, value_field}
use Rattle.model.proofs.Basics.{zero_one}
use Rattle.model.specs.declared.Party.{Party}
use Rattle.model.specs.declared.Party.TheVariants.{Job}
use Rattle.report.specs.Text.{field, one_if}
use Rattle.report.specs.declared.Line.TheVariants.{Committed}
use Rattle.script.specs.Scripts.{All}
use Rattle.batch.specs.Played.{Report, Printable, text_of}
use Rattle.batch.specs.Reports.{report_lines, closed_line, numbered, has_committed, order_text, job_text, jobs_text, cell_text, cells_text}

-- Parts of a text that begin alike.
cancel : (xs ys zs : List ℕ) → xs ++ ys ≡ xs ++ zs → ys ≡ zs
cancel [] ys zs e = e
cancel (x ∷ xs) ys zs e = cancel xs ys zs (let t : xs ++ ys ≡ xs ++ zs = cc in t)

parted : (xs ys zs ws : List ℕ) → length xs ≡ length ys → xs ++ zs ≡ ys ++ ws → (xs ≡ ys) × (zs ≡ ws)
parted [] [] zs ws l e = (refl, e)
parted [] (y ∷ ys) zs ws l e = zero_one (cc)
parted (x ∷ xs) [] zs ws l e = zero_one (cc)
parted (x ∷ xs) (y ∷ ys) zs ws l e =
    let h : x ≡ y = cc in
    let t : xs ++ zs ≡ ys ++ ws = cc in
    let k : length xs ≡ length ys = cc in
    let rest = parted xs ys zs ws k t in
    (ap (λ a. a ∷ xs) h ∙ ap (λ zs. y ∷ zs) rest.0, rest.1)

abbrev pub begins : ℕ → List ℕ → Bool
begins letter [] = false
begins letter (byte ∷ bytes) = eqb letter byte

-- Lines of one letter, each with the number of its line, a number that it tells, and what follows from the line's number.
module _ (line : ℕ → Option ℕ → List ℕ) (letter : ℕ) (back : ℕ → List ℕ) (shape : (p n : ℕ) → line p (Some n) ≡ letter ∷ (field p ++ (field n ++ back p))) (own : (bytes : List ℕ) → begins letter (letter ∷ bytes) ≡ true) where
  split : (p n : ℕ) (rest : List ℕ) → line p (Some n) ++ rest ≡ (letter ∷ field p) ++ (field n ++ (back p ++ rest))
  split p n rest =
      ap (λ bs. bs ++ rest) (shape p n) ∙ (ap (λ bs. letter ∷ bs) (append_assoc (field p) (field n ++ back p) rest) ∙ ap (λ bs. letter ∷ (field p ++ bs)) (append_assoc (field n) (back p) rest))

  same_line : (p n m : ℕ) (rest rest' : List ℕ) → n < 2 ^ 32 → m < 2 ^ 32 → line p (Some n) ++ rest ≡ line p (Some m) ++ rest' → (n ≡ m) × (rest ≡ rest')
  same_line p n m rest rest' a b e =
      let fields : field n ++ (back p ++ rest) ≡ field m ++ (back p ++ rest') = cancel (letter ∷ field p) _ _ (sym (split p n rest) ∙ (e ∙ split p m rest')) in
      let parts = parted (field n) (field m) _ _ (length-field n a ∙ sym (length-field m b)) fields in
      (sym (value_field n a) ∙ (ap (value_from 0) parts.0 ∙ value_field m b), cancel (back p) rest rest' parts.1)

  begun : (p n : ℕ) (more rest : List ℕ) → begins letter ((line p (Some n) ++ more) ++ rest) ≡ true
  begun p n more rest = ap (λ bs. begins letter ((bs ++ more) ++ rest)) (shape p n) ∙ own ((field p ++ (field n ++ back p)) ++ more ++ rest)

  same_lines : (p : ℕ) (xs ys rest rest' : List ℕ) → All (λ n. n < 2 ^ 32) xs → All (λ n. n < 2 ^ 32) ys → begins letter rest ≡ false → begins letter rest' ≡ false →
      numbered line p xs ++ rest ≡ numbered line p ys ++ rest' → (xs ≡ ys) × (rest ≡ rest')
  same_lines p [] [] rest rest' a b o o' e = (refl, e)
  same_lines p [] (y ∷ ys) rest rest' a b o o' e = absurd (both_ways (begins letter rest) o (ap (begins letter) e ∙ begun p y (numbered line (suc p) ys) rest'))
  same_lines p (x ∷ xs) [] rest rest' a b o o' e = absurd (both_ways (begins letter rest') o' (ap (begins letter) (sym e) ∙ begun p x (numbered line (suc p) xs) rest))
  same_lines p (x ∷ xs) (y ∷ ys) rest rest' a b o o' e =
      let e' : line p (Some x) ++ (numbered line (suc p) xs ++ rest) ≡ line p (Some y) ++ (numbered line (suc p) ys ++ rest') =
      sym (append_assoc (line p (Some x)) (numbered line (suc p) xs) rest) ∙ (e ∙ append_assoc (line p (Some y)) (numbered line (suc p) ys) rest') in
      let first = same_line p x y _ _ a.0 b.0 e' in
      let others = same_lines (suc p) xs ys rest rest' a.1 b.1 o o' first.1 in
      (ap (λ z. z ∷ xs) first.0 ∙ ap (λ zs. y ∷ zs) others.0, others.1)

-- The three kinds of lines.
abbrev place : ℕ → Option ℕ → List ℕ
place p None = []
place p (Some j) = closed_line (Committed p j)

places : (p : ℕ) (order : List ℕ) → order_text p (map Job order) ≡ numbered place p order
places p [] = refl
places p (j ∷ order) = ap (λ bs. closed_line (Committed p j) ++ bs) (places (suc p) order)

place_shape : (p n : ℕ) → place p (Some n) ≡ 68 ∷ (field p ++ (field n ++ 10 ∷ []))
place_shape p n = ap (λ bs. 68 ∷ bs) (append_assoc (field p) (field n) (10 ∷ []))

job_shape : (order : List Party) (p n : ℕ) → job_text order p (Some n) ≡ 78 ∷ (field p ++ (field n ++ (field (one_if (has_committed order p)) ++ 10 ∷ [])))
job_shape order p n =
    let flag = field (one_if (has_committed order p)) in
    ap (λ bs. 78 ∷ bs) (append_assoc (field p) (field n ++ flag) (10 ∷ [])) ∙ ap (λ bs. 78 ∷ (field p ++ bs)) (append_assoc (field n) flag (10 ∷ []))

cell_shape : (p n : ℕ) → cell_text p (Some n) ≡ 67 ∷ (field p ++ (field n ++ 10 ∷ []))
cell_shape p n = ap (λ bs. 67 ∷ bs) (append_assoc (field p) (field n) (10 ∷ []))

no_place : (order : List Party) (starts cells : List ℕ) → begins 68 (jobs_text order 1 starts ++ cells_text 0 cells) ≡ false
no_place order [] [] = refl
no_place order [] (c ∷ cells) = refl
no_place order (n ∷ starts) cells = refl

no_job : (cells : List ℕ) → begins 78 (cells_text 0 cells) ≡ false
no_job [] = refl
no_job (c ∷ cells) = refl

-- The three lists of a report are told one after the other.
module _ (r q : Report) (fits : Printable r) (fits' : Printable q) (same : text_of q ≡ text_of r) where
  abbrev rest : Report → List ℕ
  rest x = jobs_text (map Job x.order) 1 x.starts ++ cells_text 0 x.cells

  orders : (q.order ≡ r.order) × (rest q ≡ rest r)
  orders =
      same_lines place 68 (λ p. 10 ∷ []) place_shape (λ bs. refl) 1 q.order r.order (rest q) (rest r) fits'.0 fits.0 (no_place (map Job q.order) q.starts q.cells) (no_place (map Job r.order) r.starts r.cells)
      (ap (λ bs. bs ++ rest q) (sym (places 1 q.order)) ∙ (same ∙ ap (λ bs. bs ++ rest r) (places 1 r.order)))

  jobs : (q.starts ≡ r.starts) × (cells_text 0 q.cells ≡ cells_text 0 r.cells)
  jobs =
      let order = map Job r.order in
      same_lines (job_text order) 78 (λ p. field (one_if (has_committed order p)) ++ 10 ∷ []) (job_shape order) (λ bs. refl) 1 q.starts r.starts _ _ fits'.1 fits.1 (no_job q.cells) (no_job r.cells)
      (ap (λ o. jobs_text (map Job o) 1 q.starts ++ cells_text 0 q.cells) (sym orders.0) ∙ orders.1)

  cells : q.cells ≡ r.cells
  cells =
      (same_lines cell_text 67 (λ p. 10 ∷ []) cell_shape (λ bs. refl) 0 q.cells r.cells [] [] fits'.2 fits.2 refl refl
      (append-nil (cells_text 0 q.cells) ∙ (jobs.1 ∙ sym (append-nil (cells_text 0 r.cells))))).0

  pub one-report : q ≡ r
  one-report =
      ap (λ (o : List ℕ). record q { order = o }) orders.0
      ∙ (ap (λ (n : List ℕ). record q { order = r.order; starts = n }) jobs.0 ∙ ap (λ (c : List ℕ). record r { cells = c }) cells)

-- A line with the letter of a fault begins no report.
pub no_fault_begins : (r : Report) → begins 33 (text_of r) ≡ false
no_fault_begins r = no_fault_from r.order r.starts r.cells
  where
    no_fault_from : (order starts ns : List ℕ) → begins 33 (report_lines (map Job order) starts ns) ≡ false
    no_fault_from [] [] [] = refl
    no_fault_from [] [] (n ∷ ns) = refl
    no_fault_from [] (n ∷ starts) ns = refl
    no_fault_from (j ∷ order) starts ns = refl

pub no-report : (text : List ℕ) → begins 33 text ≡ true → (r : Report) → text ≡ text_of r → ⊥
no-report text b r e = both_ways (begins 33 text) (ap (begins 33) e ∙ no_fault_begins r) b
