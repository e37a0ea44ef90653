use Rattle.std.proofs.Common.{◌≡◌, ℕ, Option, ap, ◌∙◌, arith, rules}
use Rattle.std.specs.Option.{option_or}
use Rattle.store.specs.Cells.{cell_at}
use Rattle.write_back.specs.Holding.{held_in}
use Rattle.write_back.proofs.Layer.{get_layer}
use Rattle.write_back.proofs.WriteBackStore.get.Goals as goal

pub returns : goal.returns
returns g c =
    let cells = g.S.Store.cells c.args.self.now.below in
    let read : c.or_else.result ≡ option_or c.number_of-held.result (cell_at cells c.args.cell) = search rules in
    read ∙ ap (λ (o : Option ℕ). option_or o (cell_at cells c.args.cell)) c.number_of-held.ensures ∙ get_layer cells (held_in c.args.self.now.held) c.args.cell (omega arith)
