-- What opening the machine of a run returns.
use Rattle.std.specs.Prelude.{ℕ, ◌≡◌, ◌≤◌, List, map, Option, Result, Ok, Err}
use Rattle.cloak_base.specs.Random.{Random}
use Rattle.cloak_model.specs.declared.image.Bundle.{Bundle}
use Rattle.command_words.specs.Command as spec
use Rattle.cloak_model.specs.Opening.{RunEdge, opening}
use Rattle.cloak_model.specs.Run.{first_moment, most_steps}
use Rattle.cloak_machine.specs.Standing.{StandsForMoment, placings_of}
use Rattle.cloak_machine.specs.declared.machine.Machine.{Machine}
use Rattle.range_law.specs.Writing.{IsOfBytes, IsStreamOfBytes}
use Rattle.joint_machine.specs.Placings.{placing}
use Rattle.command_parts.specs.declared.refusal.Refusal.{Refusal}
use Rattle.command_parts.specs.NoRun.{AsksBundle, NoRun}
use Rattle.command_parts.specs.Streams.{IsStream}
use Rattle.command_parts.specs.Files.{ReadsFile}
use Rattle.command_parts.specs.Outside.{FilesOutside, OnlyRead}

-- a random stream of bytes, or why it was not read
abbrev pub ReadsStream : (List ℕ → Option (List ℕ)) → spec.Randomness → ℕ → ℕ → Result Random Refusal → Type 0
ReadsStream held randomness before now (Ok stream) =
    (now ≡ before) × IsStream held randomness stream × IsStreamOfBytes stream
ReadsStream held randomness before now (Err other) = ReadsFile {A = Random} before now (Err other)

-- The run that is asked for opens so, and the machine is that of its first moment, which knows where the image's programs
-- are placed. Image and stream are of bytes, and the steps are not more than a run may have.
pub record IsPrepared (asked : spec.Asked) (held : List ℕ → Option (List ℕ)) (record_name : Option (List ℕ))
    (steps : ℕ) (machine : Machine) : Type 0 where
  pub bundle : Bundle
  pub stream : Random
  pub asks : AsksBundle asked held record_name steps bundle stream
  pub opened : RunEdge
  pub opens : opening bundle stream ≡ Ok opened
  pub stands : StandsForMoment machine (first_moment bundle opened.joint)
  pub placings : placings_of machine ≡ map placing bundle.programs
  pub few_steps : steps ≤ most_steps
  pub image_bytes : IsOfBytes bundle
  pub stream_bytes : IsStreamOfBytes stream

-- a run that can begin, or why there is none; the files were at most read
abbrev pub Prepares : {S : Type 0} → spec.Asked → FilesOutside S → FilesOutside S → Option (List ℕ) → ℕ →
    Result Machine Refusal → Type 0
Prepares asked before after record_name steps (Ok machine) =
    OnlyRead before after × IsPrepared asked before.held record_name steps machine
Prepares asked before after record_name steps (Err refused) = NoRun asked refused before after
