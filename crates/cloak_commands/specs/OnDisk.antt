-- What becomes of a disk and an output on which the program runs, by their own bytes.
use Rattle.std.specs.Prelude.{ℕ, ◌≡◌, ◌⊎◌, List, Option, Some, None}
use Rattle.std.specs.Io.KnownBytes.{append_known}
use Rattle.cloak_base.specs.Random.{Random}
use Rattle.cloak_model.specs.declared.image.Bundle.{Bundle}
use Rattle.cloak_model.specs.Run.{joint_run}
use Rattle.io_traits.specs.Told.{SameFiles}
use Rattle.system_io.specs.Files.{OutputState, ShelfState}
use Rattle.command_words.specs.Command as spec
use Rattle.command_parts.specs.declared.status.Status.{Status}
use Rattle.command_parts.specs.declared.status.Status.TheVariants as status
use Rattle.command_parts.specs.Outside.{Outside}
use Rattle.command_parts.specs.Streams.{IsToldStream}
use Rattle.completeness.specs.Asked.{IsBundleFile, WantsMemory}
use Rattle.completeness.specs.Runs.{ComesTo}
use Rattle.cloak_commands.specs.declared.words.ProgramWords.{ProgramWords}
use Rattle.cloak_commands.specs.Program.{IsNoFault, asked_by}

-- a shelf over a disk and a sink over an output, with what they tell
abbrev pub Over : Type 0 → Type 0
Over D = Outside (ShelfState D) OutputState

-- A shelf and a sink over a disk and an output with these bytes, and no call was made on them.
pub record IsFresh {D : Type 0} (told : List ℕ → Option (List ℕ)) (shown : Option (List ℕ)) (at : Over D) : Type 0 where
  pub held : SameFiles told at.files.held
  pub reading : at.files.reading ≡ 0
  pub unread : at.files.unread ≡ None
  pub writing : at.files.writing ≡ 0
  pub taken : at.output.taken ≡ shown
  pub faults : at.output.faults ≡ 0

-- The disk has the bytes of each file, and the output all bytes that it is due.
pub record IsLeft {D : Type 0} (done : Over D) (told : List ℕ → Option (List ℕ)) (shown : Option (List ℕ)) : Type 0 where
  pub files : SameFiles done.files.held told
  pub output : shown ≡ done.output.taken

-- After what the disk has of a file, and what the output has, some bytes may be missing.
pub record IsLeftInPart {D : Type 0} (done : Over D) (told : List ℕ → Option (List ℕ)) (shown : Option (List ℕ)) : Type 0
  where
    pub files : (name : List ℕ) → (rest : List ℕ) × (done.files.held name ≡ append_known (told name) rest)
    pub output : (rest : List ℕ) × (done.output.taken ≡ append_known shown rest)

-- On a disk and an output with these bytes something was done, and answered by these answers. They have what was done, and
-- this status is the answer; or it is the write fault, and they have it in part.
pub record RunsOver {D : Type 0} (answers_so : Over D → Over D → Status → Type 0) (told : List ℕ → Option (List ℕ))
    (shown : Option (List ℕ)) (told' : List ℕ → Option (List ℕ)) (shown' : Option (List ℕ)) (given : Status) : Type 0
  where
    pub before : Over D
    pub fresh : IsFresh told shown before
    pub done : Over D
    pub answer : Status
    pub answers : answers_so before done answer
    pub left : ((given ≡ answer) × IsLeft done told' shown') ⊎ ((given ≡ status.WriteFault) × IsLeftInPart done told' shown')

-- The run of a bundle.

-- what the files of a disk and an output tell
abbrev pub told_outside : (List ℕ → Option (List ℕ)) → Option (List ℕ) → Outside (Unit {0}) (Unit {0})
told_outside told shown = record {
  files = record { shelf = tt; held = told; reading = 0; unread = None; writing = 0 };
  output = record { out = tt; taken = shown; faults = 0 };
}

-- If the words ask for the run of this bundle under this stream, and the status is none of those for faults, the disk itself
-- has the record of the joint run, and the output what is shown of it, unless pages clash; or the opening lacks a draw, or
-- there was no memory to begin with.
abbrev pub HasRunOnDisk : ProgramWords → (List ℕ → Option (List ℕ)) → Option (List ℕ) → (List ℕ → Option (List ℕ)) →
    Option (List ℕ) → Status → Type 0
HasRunOnDisk words told shown told' shown' given =
    (bundle_name record_name : List ℕ) (steps : ℕ) (randomness : spec.Randomness) (b : Bundle) (s : Random) →
    asked_by words ≡ Some (spec.Run bundle_name record_name steps randomness) → IsBundleFile told bundle_name b →
    IsToldStream told randomness s → IsNoFault given →
    WantsMemory given (told_outside told shown) (told_outside told' shown')
    ⊎ ComesTo record_name (joint_run b s steps) given (told_outside told shown) (told_outside told' shown')
