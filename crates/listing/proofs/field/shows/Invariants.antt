use Rattle.std.proofs.Common.{◌-◌, length}
use Rattle.listing.proofs.Written.{Leaves}
use Rattle.listing.proofs.field.shows.Given as goal

abbrev pub invariant-loop-column : goal.invariant-loop-column
invariant-loop-column l = Leaves l.field l.number (10 - length l.yielded) l.rest
