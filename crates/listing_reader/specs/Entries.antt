-- What a line says, and what is read once it is taken in. Assumes nothing.
use Rattle.std.specs.Prelude.{ℕ, [], ◌∷◌, ◌++◌, Ok, Err, Result}
use Rattle.script.specs.Faults.{Progress, progress}
use Rattle.script.specs.declared.ListingFault.{ListingFault}
use Rattle.script.specs.declared.Section.TheVariants.{InCells, InJob, InTurns}
use Rattle.listing_reader.specs.declared.entry.Entry.{Entry}
use Rattle.listing_reader.specs.declared.entry.Entry.TheVariants.{Size, Preset, Job, Step, Turns}

abbrev pub with_entry : Progress → ℕ → Entry → Progress
with_entry p line (Size count) = progress InCells count p.presets p.jobs p.turns p.job_line p.steps
with_entry p line (Preset x) = progress InCells p.count (p.presets ++ x ∷ []) p.jobs p.turns p.job_line p.steps
with_entry p line Job = progress InJob p.count p.presets p.jobs p.turns line []
with_entry p line (Step x) = progress InJob p.count p.presets p.jobs p.turns p.job_line (p.steps ++ x ∷ [])
with_entry p line (Turns x) = progress InTurns p.count p.presets p.jobs (p.turns ++ x ∷ []) p.job_line p.steps

-- The same, unless there was a fault.
abbrev pub entered : Progress → ℕ → Result Entry ListingFault → Result Progress ListingFault
entered p line (Ok entry) = Ok (with_entry p line entry)
entered p line (Err fault) = Err fault
