use Rattle.std.proofs.Common.{◌+◌, refl, arith}
use Rattle.model.specs.declared.Step.TheVariants.{Read}
use Rattle.cell_log.specs.Rows.{entries_of}
use Rattle.job.specs.Programs.{steps_in}
use Rattle.job.proofs.Placing.{placed_at, after_reading}
use Rattle.job.proofs.Standing.{standing}
use Rattle.job.proofs.job.Job.read.Goals as goal

pub bounds-self-register : goal.bounds-self-register
bounds-self-register g c = (standing c.args.self.now c.args.n (Read c.args.register c.args.cell) c.requires.stage c.requires.step).registers

pub invariant_of-self-clause-placed : goal.invariant_of-self-clause-placed
invariant_of-self-clause-placed g c =
    let b = c.args.self.now in
    let n = c.args.n in
    let new = c.read.new.self in
    let here = standing b n (Read c.args.register c.args.cell) c.requires.stage c.requires.step in
    let few = after_reading (g.S.Store.cells c.args.store.now) c.args.cell n b.logs new c.read.result c.unwrap-reading.result c.unwrap-reading.ensures c.read.ensures.ok here.reads here.writes in
    placed_at (n + 1) (steps_in b.program) (entries_of new.reads) (entries_of new.writes) (omega (arith, (here.goes refl).1)) (omega (arith, few.0)) (omega (arith, few.1))
