use Rattle.std.proofs.Common.{rules, tests}
use Rattle.std.proofs.lemmas.Iterator.{YieldsList-from_slice}
use Rattle.std.proofs.lemmas.Iterator.Search.{find_from_yields_List}
use Rattle.model.specs.Logs.{current}
use Rattle.cell_log.proofs.Lowest.{least}
use Rattle.cell_log.proofs.Scanning.{lowest_found}
use Rattle.cell_log.proofs.lookups.Lookups.lowest_current.Goals as goal

pub returns-clause-first : goal.returns-clause-first
returns-clause-first g c =
    let log = g.Self.Lookups.list c.args.self.now in
    let test = current (g.S.Store.cells c.args.store.now) in
    let found = find_from_yields_List test _ _ c.find-first.result c.find-first.ensures.ran (YieldsList-from_slice log (cc)) (λ x b q k. search (rules, tests)) in
    rw (lowest_found test log, ← found) (search rules)

pub returns-clause-least : goal.returns-clause-least
returns-clause-least g c = least (current (g.S.Store.cells c.args.store.now)) (g.Self.Lookups.list c.args.self.now) c.entries.result.now c.map.result c.entries.ensures.value c.entries.ensures.ordered (returns-clause-first g c)
