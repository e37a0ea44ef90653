-- What the model's turn makes of a job that starts.
use Rattle.std.proofs.Common.{◌≡◌, ℕ, List, None, Option}
use Rattle.model.specs.Logs.{lowest, any}
use Rattle.model.specs.Rules.{JobState, started}
use Rattle.model.specs.declared.Rule.TheVariants.{S3}
use Rattle.model.specs.declared.Stage.TheVariants.{Start}
use Rattle.job.specs.Moves.{Moves}
use Rattle.job.specs.declared.moves.Move.TheVariants.{Applies}

pub s3_moves : (C : List ℕ) (right : Option ℕ) (b : JobState) → b.stage ≡ Start → lowest any b.writes ≡ None → lowest any b.reads ≡ None → Moves C right b (started b) (Applies (record { rule = S3; cell = None }))
s3_moves C right b h e f s j hc hr = (rw (h, e, f), rw (h, e, f), rw h)
