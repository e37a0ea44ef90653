use Rattle.std.proofs.Common.{refl, arith}
use Rattle.listing_reader.proofs.Ending.{part-unclosed, part-line}
use Rattle.listing_reader.proofs.reader.Reader.next_bytes.Goals as goal

pub returns-in_err-len : goal.returns-in_err-len
returns-in_err-len c =
    rw c.from_residual.ensures (record { split = part-unclosed c.args.self.now.bytes.now c.args.self.now.place.at (omega arith) c.in_err-len.ensures.value; bytes = refl })

pub returns : goal.returns
returns c =
    let p = part-line c.args.self.now.bytes.now c.args.self.now.place.at c.in_ok-len.len c.in_ok-len.ensures.value in
    record { split = (p.0, omega arith, p.1, p.2, p.3); bytes = refl }
