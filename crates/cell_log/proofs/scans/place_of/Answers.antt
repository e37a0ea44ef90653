use Rattle.cell_log.proofs.Places.{first_is, first_over, none_over}
use Rattle.cell_log.proofs.Soundness.{ascends_ascending}
use Rattle.cell_log.proofs.scans.place_of.Goals as goal

pub returns-in-Some : goal.returns-in-Some
returns-in-Some c = first_is c.args.entries.now c.args.cell (ascends_ascending c.args.entries.now c.requires) c.in-Some.i c.in-Some.ensures c.if-entries-i.true

pub returns-in-Some-2 : goal.returns-in-Some-2
returns-in-Some-2 c = first_over c.args.entries.now c.args.cell (ascends_ascending c.args.entries.now c.requires) c.in-Some.i c.in-Some.ensures c.if-entries-i.false

pub returns-in-None : goal.returns-in-None
returns-in-None c = none_over c.args.entries.now c.args.cell (ascends_ascending c.args.entries.now c.requires) c.in-None.ensures
