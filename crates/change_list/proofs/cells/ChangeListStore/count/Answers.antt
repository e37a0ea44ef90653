use Rattle.std.proofs.Common.{arith}
use Rattle.change_list.proofs.Kept.{fit_cells, length-cells}
use Rattle.change_list.proofs.cells.ChangeListStore.count.Goals as goal

pub returns-clause-value : goal.returns-clause-value
returns-clause-value c = let list = c.args.self.now in omega (arith, length-cells list.records.now list.used)

pub returns-clause-fit : goal.returns-clause-fit
returns-clause-fit c = let list = c.args.self.now in fit_cells list.records.now list.used list.sound
