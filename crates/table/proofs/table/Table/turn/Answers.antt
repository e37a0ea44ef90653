use Rattle.std.proofs.Common.{◌≡◌, ℕ, List, sym, refl, ap, ◌∙◌, subst, arith}
use Rattle.job.specs.declared.moves.Move.{Move}
use Rattle.table.specs.Settings.{Through}
use Rattle.table.specs.States.{JobTurns, state_of}
use Rattle.table.specs.declared.table.Table.{Table}
use Rattle.table.proofs.Rules.{moved}
use Rattle.table.proofs.Settings.{not_set}
use Rattle.table.proofs.table.Table.turn.Goals as goal

pub commit-requires : goal.commit-requires
commit-requires g c =
    let w = c.turn_job.ensures in
    let m = moved (g.S.Store.cells c.args.store.now) c.args.self.now c.turn_job.new.self c.args.job c.in_ok-i.i _ _ c.in_ok-i.ensures.0 c.in-Commits.is w in
    record { place = omega (arith, c.in_ok-i.ensures.1, w.5); stage = m.0 }

-- The job's own part of a turn counts no setting.
same_settings : (C : List ℕ) (t t' : Table) (i : ℕ) (m : Move) → JobTurns C t t' i m → (state_of C t').settings ≡ (state_of C t).settings
same_settings C t t' i m w = ap (λ z. z.settings) (w.3 C)

pub returns-in-NoRule : goal.returns-in-NoRule
returns-in-NoRule g c =
    let C = g.S.Store.cells c.args.store.now in
    let t = c.args.self.now in
    let x = moved C t c.turn_job.new.self c.args.job c.in_ok-i.i _ _ c.in_ok-i.ensures.0 c.in-NoRule.is c.turn_job.ensures in
    record { next = x.0; answer = x.1; loan = refl; store = not_set g.S.Store.sets c.args.store.now (state_of C t) c.args.job _ x.0 (same_settings C t c.turn_job.new.self c.in_ok-i.i c.turn_job.result c.turn_job.ensures) }

pub returns-in-Applies : goal.returns-in-Applies
returns-in-Applies g c =
    let C = g.S.Store.cells c.args.store.now in
    let t = c.args.self.now in
    let x = moved C t c.turn_job.new.self c.args.job c.in_ok-i.i _ _ c.in_ok-i.ensures.0 c.in-Applies.is c.turn_job.ensures in
    record { next = x.0; answer = x.1; loan = refl; store = not_set g.S.Store.sets c.args.store.now (state_of C t) c.args.job _ x.0 (same_settings C t c.turn_job.new.self c.in_ok-i.i c.turn_job.result c.turn_job.ensures) }

pub returns-in-Takes : goal.returns-in-Takes
returns-in-Takes g c =
    let C = g.S.Store.cells c.args.store.now in
    let t = c.args.self.now in
    let x = moved C t c.turn_job.new.self c.args.job c.in_ok-i.i _ _ c.in_ok-i.ensures.0 c.in-Takes.is c.turn_job.ensures _ (c.take_right.ensures C) in
    let same = ap (λ z. z.settings) (c.take_right.ensures C) ∙ same_settings C t c.turn_job.new.self c.in_ok-i.i c.turn_job.result c.turn_job.ensures in
    record { next = x.0; answer = x.1; loan = refl; store = not_set g.S.Store.sets c.args.store.now (state_of C t) c.args.job _ x.0 same }

pub returns-in-Commits : goal.returns-in-Commits
returns-in-Commits g c =
    let m = moved (g.S.Store.cells c.args.store.now) c.args.self.now c.turn_job.new.self c.args.job c.in_ok-i.i _ _ c.in_ok-i.ensures.0 c.in-Commits.is c.turn_job.ensures in
    let x = m.1 _ _ (c.commit.ensures.next, c.commit.ensures.answer) in
    let through = subst (λ es. Through g.S.Store.sets es c.args.store.now c.commit.new.store) (sym m.2) c.commit.ensures.store in
    record { next = x.0; answer = x.1; loan = c.commit.ensures.loan; store = through }
