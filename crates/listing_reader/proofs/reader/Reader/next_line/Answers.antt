use Rattle.std.proofs.Common.{rules}
use Rattle.listing_reader.proofs.Heading.{line_read}
use Rattle.listing_reader.proofs.reader.Reader.next_line.Goals as goal

pub returns-clause-read : goal.returns-clause-read
returns-clause-read c =
    let reader = c.args.self.now in
    line_read reader.bytes.now c.in_ok-bytes.bytes.now reader.place c.next_bytes.new.self.place c.args.section c.line_from.result (search rules) c.line_from.ensures
