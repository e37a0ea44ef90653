use Rattle.std.proofs.Common.{rules}
use Rattle.model.specs.Logs.{any}
use Rattle.cell_log.proofs.Lowest.{least}
use Rattle.cell_log.proofs.lookups.Lookups.lowest.Goals as goal

pub returns-clause-first : goal.returns-clause-first
returns-clause-first g c = search rules

pub returns-clause-least : goal.returns-clause-least
returns-clause-least g c = least any (g.Self.Lookups.list c.args.self.now) c.entries.result.now c.map.result c.entries.ensures.value c.entries.ensures.ordered (returns-clause-first g c)
