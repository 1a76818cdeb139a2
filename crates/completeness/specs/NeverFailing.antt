-- Files and an output on which no call fails.
use Rattle.std.specs.Prelude.{ℕ, ◌⊎◌, List}
use Rattle.cloak_base.specs.Random.{Random}
use Rattle.cloak_model.specs.declared.image.Bundle.{Bundle}
use Rattle.cloak_model.specs.Run.{joint_run}
use Rattle.command_words.specs.Command as spec
use Rattle.io_traits.specs.declared.shelf.Shelf as shelves
use Rattle.io_traits.specs.declared.sink.Sink as sinks
use Rattle.command_parts.specs.declared.status.Status.{Status}
use Rattle.command_parts.specs.Outside.{NothingRose, outside}
use Rattle.command_parts.specs.Streams.{IsToldStream}
use Rattle.run_command.specs.Answering.{RunAnswers}
use Rattle.completeness.specs.Asked.{IsBundleFile, WantsMemory}
use Rattle.completeness.specs.Runs.{ComesTo}

-- from no state to no other
abbrev pub NothingEverRises : {S O : Type 0} → shelves.Ghosts S → sinks.Ghosts O → Type 0
NothingEverRises {S} {O} shelf sink =
    (s s' : S) (o o' : O) → NothingRose (outside shelf sink s o) (outside shelf sink s' o')

-- If these words ask for the run of this bundle under this stream, it was made and written whole, or there was no
-- memory to begin with.
abbrev pub RunsNeverFail : {S O : Type 0} → shelves.Ghosts S → sinks.Ghosts O → Type 0
RunsNeverFail {S} {O} shelf sink =
    (bundle_name record_name : List ℕ) (steps : ℕ) (randomness : spec.Randomness) (answer : Status)
    (s s' : S) (o o' : O) →
    RunAnswers (spec.Run bundle_name record_name steps randomness) (outside shelf sink s o) (outside shelf sink s' o')
    answer →
    (b : Bundle) (stream : Random) → IsBundleFile (shelf.held s) bundle_name b →
    IsToldStream (shelf.held s) randomness stream →
    WantsMemory answer (outside shelf sink s o) (outside shelf sink s' o')
    ⊎ ComesTo record_name (joint_run b stream steps) answer (outside shelf sink s o) (outside shelf sink s' o')
