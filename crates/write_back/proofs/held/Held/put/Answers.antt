use Rattle.std.proofs.Common.{◌≡◌, ℕ, ◌<◌, true, List, ◌^◌, ◌++◌, [], ◌∷◌, set, ap, ◌∙◌, arith, length-set}
use Rattle.arrayvec.proofs.ArrayVecLemmas.{items-with_items}
use Rattle.store.specs.declared.change.Change.{Change}
use Rattle.store.specs.Changes.{distinct, sound}
use Rattle.write_back.specs.Holding.{held_in, holding}
use Rattle.write_back.proofs.Layer.{distinct-holding}
use Rattle.write_back.proofs.Places.{put_at_end, put_in_place, room, sound-holding}
use Rattle.write_back.proofs.held.Held.put.Goals.{In-Some, In-None}
use Rattle.write_back.proofs.held.Held.put.Goals as goal

replaced : (c : In-Some) → set (held_in c.args.self.now) c.in-Some.i (record { cell = c.args.cell; number = c.args.number }) ≡ holding (held_in c.args.self.now) c.args.cell c.args.number
replaced c = put_in_place (held_in c.args.self.now) c.in-Some.i c.args.cell c.args.number c.in-Some.ensures

added : (c : In-None) → held_in c.args.self.now ++ record { cell = c.args.cell; number = c.args.number } ∷ [] ≡ holding (held_in c.args.self.now) c.args.cell c.args.number
added c = (put_at_end (held_in c.args.self.now) c.args.cell c.args.number c.in-None.ensures).1

kept : (cs now : List Change) (cell number : ℕ) → now ≡ holding cs cell number → cell < 2 ^ 32 → number < 2 ^ 32 → distinct cs ≡ true → sound (2 ^ 32) cs ≡ true → (distinct now ≡ true) × (sound (2 ^ 32) now ≡ true)
kept cs now cell number e c n apart fit = (ap distinct e ∙ distinct-holding cs cell number apart, ap (sound (2 ^ 32)) e ∙ sound-holding (2 ^ 32) cs cell number c n fit)

pub push-requires : goal.push-requires
push-requires c =
    let held = held_in c.args.self.now in
    let less = room held c.args.cell c.requires (put_at_end held c.args.cell c.args.number c.in-None.ensures).0 in
    (omega arith, omega arith)

pub invariant_of-self : goal.invariant_of-self
invariant_of-self c =
    let table = c.args.self.now in
    let change : Change = record { cell = c.args.cell; number = c.args.number } in
    let h = (goal.at.invariant_of-self c).In-Some in
    let shown = items-with_items table.changes (set table.changes.items c.in-Some.i change) (length-set table.changes.items c.in-Some.i change) ∙ replaced h in
    let both = kept (held_in table) _ c.args.cell c.args.number shown (omega arith) (omega arith) table.apart table.sound in
    rw c.deref_mut.ensures.value (record { apart = both.0; sound = both.1 })

pub invariant_of-self-in-None : goal.invariant_of-self-in-None
invariant_of-self-in-None c =
    let table = c.args.self.now in
    let shown = c.push.ensures.items ∙ added (goal.at.invariant_of-self-in-None c).In-None in
    let both = kept (held_in table) c.push.new.self.items c.args.cell c.args.number shown (omega arith) (omega arith) table.apart table.sound in
    record { apart = both.0; sound = both.1 }

pub returns-in-Some : goal.returns-in-Some
returns-in-Some c =
    let held = c.args.self.now.changes in
    let change : Change = record { cell = c.args.cell; number = c.args.number } in
    let h = (goal.at.returns-in-Some c).In-Some in
    rw c.deref_mut.ensures.value (items-with_items held (set held.items c.in-Some.i change) (length-set held.items c.in-Some.i change) ∙ replaced h)

pub returns-in-None : goal.returns-in-None
returns-in-None c = c.push.ensures.items ∙ added (goal.at.returns-in-None c).In-None
