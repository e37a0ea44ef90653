use Rattle.cell_log.proofs.Lowest.{set_once}
use Rattle.cell_log.proofs.lookups.Lookups.set_all.Goals as goal

pub returns-clause-once : goal.returns-clause-once
returns-clause-once g c = set_once (g.Self.Lookups.list c.args.self.now) c.entries-logged-items.result.now c.entries-logged-items.ensures.value c.entries-logged-items.ensures.ordered
