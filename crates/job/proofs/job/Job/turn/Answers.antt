use Rattle.std.proofs.Common.{◌∙◌}
use Rattle.job.proofs.job.Job.turn.Goals as goal

pub returns-in-Start-default-default : goal.returns-in-Start-default-default
returns-in-Start-default-default g c = c.start.ensures (g.S.Store.cells c.args.store.now) c.args.right

pub returns-in-At-Read-default : goal.returns-in-At-Read-default
returns-in-At-Read-default g c = c.read.ensures c.args.right

pub returns-in-At-Write-default : goal.returns-in-At-Write-default
returns-in-At-Write-default g c = c.write.ensures (g.S.Store.cells c.args.store.now) c.args.right

pub returns-in-At-JumpIfLess-default : goal.returns-in-At-JumpIfLess-default
returns-in-At-JumpIfLess-default g c = c.jump.ensures (g.S.Store.cells c.args.store.now) c.args.right

pub returns-in-At-Wait-default : goal.returns-in-At-Wait-default
returns-in-At-Wait-default g c = c.wait.ensures c.args.right

pub returns-in-Rollback-default-default : goal.returns-in-Rollback-default-default
returns-in-Rollback-default-default g c = c.to_start.ensures (g.S.Store.cells c.args.store.now) c.args.right

pub returns-in-At-End-None : goal.returns-in-At-End-None
returns-in-At-End-None g c = λ s j hc hr. c.end.ensures (g.S.Store.cells c.args.store.now) s j hc (hr ∙ c.in-At-End-None.is-2)

pub returns-in-At-Load-default : goal.returns-in-At-Load-default
returns-in-At-Load-default g c = c.put.ensures (g.S.Store.cells c.args.store.now) c.args.right

pub returns-in-At-Add-default : goal.returns-in-At-Add-default
returns-in-At-Add-default g c = c.put-in-At-Add-default.ensures (g.S.Store.cells c.args.store.now) c.args.right

pub returns-in-At-Subtract-default : goal.returns-in-At-Subtract-default
returns-in-At-Subtract-default g c = c.put-in-At-Subtract-default.ensures (g.S.Store.cells c.args.store.now) c.args.right
