use Rattle.std.proofs.Common.{sym, ◌∙◌, arith}
use Rattle.cell_log.proofs.Soundness.{sound_len, put-sound}
use Rattle.cell_log.proofs.log.Log.put.Goals as goal

pub invariant_of-result : goal.invariant_of-result
invariant_of-result c =
    let log = c.args.self in
    let made = c.replace.ensures.value ∙ sym (c.in-Ok.ensures.1.puts c.args.number) in
    let few = sound_len log.row log.ordered in
    record { ordered = put-sound log.row c.replace.result c.args.cell c.args.number log.ordered (omega arith) made }

pub invariant_of-result-in-Err : goal.invariant_of-result-in-Err
invariant_of-result-in-Err c =
    let log = c.args.self in
    let made = c.insert.ensures.value ∙ sym (c.in-Err.ensures.1.puts c.args.number) in
    record { ordered = put-sound log.row c.insert.result c.args.cell c.args.number log.ordered (omega arith) made }
