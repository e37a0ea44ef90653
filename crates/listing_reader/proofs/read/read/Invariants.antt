use Rattle.std.proofs.Common.{◌≡◌, ◌-◌, length}
use Rattle.listing_reader.proofs.Lining.{Underway}
use Rattle.listing_reader.proofs.read.read.Given as goal

abbrev pub invariant-loop-reader : goal.invariant-loop-reader
invariant-loop-reader l = (l.reader.bytes.now ≡ l.listing) × Underway l.listing l.draft l.reader.place

abbrev pub decreases-loop-reader : goal.decreases-loop-reader
decreases-loop-reader l = length l.listing - l.reader.place.at
