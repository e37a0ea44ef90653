use Rattle.std.proofs.Common.{◌≡◌, take, unwrap_or, Some, ap, ◌∙◌, arith}
use Rattle.store.specs.Changes.{newest_number}
use Rattle.change_list.proofs.Kept.{get_inside}
use Rattle.change_list.proofs.cells.ChangeListStore.get.Goals as goal

pub returns : goal.returns
returns c =
    let list = c.args.self.now in
    let read : c.unwrap_or.result ≡ unwrap_or (newest_number (take list.used list.records.now) c.args.cell) 0 = cc in
    ap Some read ∙ get_inside list.records.now list.used c.args.cell (omega arith)
