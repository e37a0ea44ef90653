use Rattle.script.proofs.Complete.{law}
use Rattle.script.proofs.law_of_listings.Goals as goal

pub returns : goal.returns
returns c = law
