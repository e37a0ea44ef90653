use Rattle.std.proofs.Common.{◌≡◌, ℕ, ◌<◌, suc, ◌-◌, ◌/◌, ◌++◌, [], ◌∷◌, get_or, length, take, sym, ap, ◌∙◌, subst, arith}
use Rattle.std.proofs.lemmas.Iterator.Adapters.{YieldsList-from_rev_slice}
use Rattle.std.proofs.lemmas.Iterator.Consumers.{YieldsList-turn}
use Rattle.std.proofs.lemmas.List.{length_push}
use Rattle.listing.proofs.Written.{Leaves, length-field, column_at, first, other_last, next, other-column}
use Rattle.listing.proofs.field.shows.Goals.{In-Some}
use Rattle.listing.proofs.field.shows.Goals as goal

pub returns-then-field-ne-COLUMNS-clause-found : goal.returns-then-field-ne-COLUMNS-clause-found
returns-then-field-ne-COLUMNS-clause-found c = λ e. absurd (c.if-field-ne-COLUMNS.true (ap length e ∙ length-field c.args.number (omega arith)))

pub returns-then-field-number-clause-found : goal.returns-then-field-number-clause-found
returns-then-field-number-clause-found c = λ e. absurd (other_last c.args.field.now c.args.number 0 c.if-field-ne-COLUMNS.false (omega arith) c.if-field-number.true e)

pub loop-column-init : goal.loop-column-init
loop-column-init c = first c.args.field.now c.args.number 0 c.if-field-ne-COLUMNS.false (omega arith) c.if-field-number.false

-- The column that the loop has come to.
here : (c : In-Some) → (length c.loop-column.yielded < 10) × (c.in-Some.column.now ≡ get_or c.args.field.now (9 - length c.loop-column.yielded) c.in-Some.column.now)
here c =
    let bytes = c.args.field.now in
    let column = c.in-Some.column in
    let turn = YieldsList-turn (YieldsList-from_rev_slice (take 10 bytes) (cc)) c.loop-column.yielded _ c.loop-column.yielded_by _ _ column c.in-Some.is c.next.ensures.steps in
    let at = column_at bytes (length c.loop-column.yielded) column.now c.if-field-ne-COLUMNS.false turn.0 in
    (at.0, turn.1 ∙ at.1)

so-far : (c : In-Some) → Leaves c.args.field.now c.args.number (suc (9 - length c.loop-column.yielded)) c.loop-column.rest
so-far c =
    let more = (here c).0 in
    subst (λ (m : ℕ). Leaves c.args.field.now c.args.number m c.loop-column.rest) (omega arith) c.loop-column.invariant

pub returns-then-column-left_of-clause-found : goal.returns-then-column-left_of-clause-found
returns-then-column-left_of-clause-found c =
    let h = (goal.at.returns-then-column-left_of-clause-found c).In-Some in
    let k = length c.loop-column.yielded in
    λ e. absurd (other-column c.args.field.now c.args.number (9 - k) c.loop-column.rest c.in-Some.column.now (omega (arith, c.if-field-ne-COLUMNS.false)) (so-far h) (λ same. c.if-column-left_of.true ((here h).1 ∙ same ∙ sym c.left_of.ensures)) e)

pub loop-column-preserved : goal.loop-column-preserved
loop-column-preserved c =
    let h = (goal.at.loop-column-preserved c).In-Some in
    let k = length c.loop-column.yielded in
    let more = (here h).0 in
    let column = c.in-Some.column.now in
    let then : 9 - k ≡ 10 - length (c.loop-column.yielded ++ c.in-Some.column ∷ []) = omega (arith, length_push c.loop-column.yielded c.in-Some.column) in
    let left = next c.args.field.now c.args.number (9 - k) c.loop-column.rest column (omega (arith, c.if-field-ne-COLUMNS.false)) (so-far h) (sym (here h).1 ∙ c.if-column-left_of.false ∙ c.left_of.ensures) in
    subst (λ (m : ℕ). Leaves c.args.field.now c.args.number m (c.loop-column.rest / 10)) then left
