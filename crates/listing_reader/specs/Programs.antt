-- What the lists of a script in memory mean. Assumes nothing.
use Rattle.std.specs.Prelude.{ℕ, map, vec_items}
use Rattle.script.specs.Scripts.{Script}
use Rattle.listing_reader.specs.declared.lists.Lists.{Lists}
pub use Rattle.job.specs.Programs.{steps_in}

-- The script of so many cells with these lists.
abbrev pub script_with : ℕ → Lists → Script
script_with count l = record { count = count; presets = vec_items l.presets; jobs = map steps_in (vec_items l.jobs); turns = vec_items l.turns }
