-- What a draft and a script in memory mean. Assumes nothing.
use Rattle.std.specs.Prelude.{◌≡◌, ℕ, ◌≤◌, Bool, false, [], map, Some, None, Ok, Err, vec_items, vec_capacity, Option, Result}
use Rattle.script.specs.Lines.{kind_of}
use Rattle.script.specs.Scripts as scripts
use Rattle.script.specs.Faults.{Progress, script_of, is_step}
use Rattle.script.specs.declared.ListingFault.{ListingFault}
pub use Rattle.listing_reader.specs.Programs.{steps_in, script_with}
use Rattle.listing_reader.specs.declared.draft.Draft.{Draft}
use Rattle.listing_reader.specs.declared.room.Room.{Room}
use Rattle.listing_reader.specs.declared.script_read.Script.{Script}

abbrev pub progress_of : Draft → Progress
progress_of d =
    record {
      section = d.section;
      count = d.count;
      presets = vec_items d.lists.presets;
      jobs = map steps_in (vec_items d.lists.jobs);
      turns = vec_items d.lists.turns;
      job_line = d.job_line;
      steps = vec_items d.steps;
    }

-- Room that holds nothing, for a script of whatever listing.
pub record Unused (r : Room) : Type 0 where
  pub presets : vec_items r.lists.presets ≡ []
  pub jobs : vec_items r.lists.jobs ≡ []
  pub turns : vec_items r.lists.turns ≡ []
  pub steps : vec_items r.steps ≡ []
  pub cells : 32768 ≤ vec_capacity r.lists.presets
  pub programs : 16 ≤ vec_capacity r.lists.jobs
  pub allotments : 32768 ≤ vec_capacity r.lists.turns
  pub lines : 32768 ≤ vec_capacity r.steps

-- The draft holds what was to be read, unless there was a fault.
abbrev pub Reads : Result Progress ListingFault → Result (Unit {0}) ListingFault → Draft → Type 0
Reads outcome (Ok done) d = outcome ≡ Ok (progress_of d)
Reads outcome (Err f) d = outcome ≡ Err f

abbrev pub script_in : Script → scripts.Script
script_in s = script_with s.count s.lists

-- What was read, as the definition has it.
abbrev pub finished_as : Result Draft ListingFault → Result scripts.Script ListingFault
finished_as (Ok d) = Ok (script_of (progress_of d))
finished_as (Err f) = Err f

abbrev pub read_as : Result Script ListingFault → Result scripts.Script ListingFault
read_as (Ok s) = Ok (script_in s)
read_as (Err f) = Err f

abbrev pub is_step_letter : Option ℕ → Bool
is_step_letter None = false
is_step_letter (Some letter) = is_step (kind_of letter)
