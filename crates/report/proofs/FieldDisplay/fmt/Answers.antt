use Rattle.report.proofs.Padded.{padded_field}
use Rattle.report.proofs.FieldDisplay.fmt.Goals as goal

pub returns-clause-writes : goal.returns-clause-writes
returns-clause-writes g c plain ok = rw (c.laid_out.ensures, padded_field c.args.self.now.0) at (c.write.ensures.writes plain ok)
