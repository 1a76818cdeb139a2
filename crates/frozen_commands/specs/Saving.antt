-- The state of a machine is saved, or there are too few vectors for it.
use Rattle.std.specs.Prelude.{ℕ, ◌≡◌, ◌≤◌, ◌⊎◌, false, List, ◌++◌, codes, length, Option, Some, None}
use Rattle.cloak_model.specs.Joint.{Moment}
use Rattle.cloak_machine.specs.Standing.{StandsForMoment}
use Rattle.cloak_machine.specs.declared.machine.Machine.{Machine}
use Rattle.frozen_run.specs.Shapes.{HasShape}
use Rattle.frozen_state.specs.declared.frozen.Frozen.{Frozen}
use Rattle.frozen_state.specs.FrozenState.{frozen_bytes, frozen_of}
use Rattle.joint_machine.specs.Freezing.{HasRoom}
use Rattle.io_traits.specs.Told.{Grows, GrowsByFront, OtherFiles, Rose, Tells}
use Rattle.command_parts.specs.declared.status.Status.{Status}
use Rattle.command_parts.specs.declared.status.Status.TheVariants as status
use Rattle.command_parts.specs.Outside.{Outside, Output}
use Rattle.frozen_commands.specs.declared.freezing.ForSaving.{ForSaving}
use Rattle.command_parts.specs.Files.{TellsFront}

-- the rest of the console's line, and the line that says why
abbrev pub lacking_line : List ℕ
lacking_line = codes "\nrandom: freeze\n"

-- it was shown, or a front of it
abbrev pub ShowsLackingLine : {O : Type 0} → Output O → Output O → Status → Type 0
ShowsLackingLine before after given =
    ((given ≡ status.NoRandom) × (Grows before.taken after.taken lacking_line × (after.faults ≡ before.faults)))
    ⊎ ((given ≡ status.WriteFault)
    × (GrowsByFront before.taken after.taken lacking_line × Rose before.faults after.faults))

-- there is no state
pub record ShowsLacking {S O : Type 0} (before after : Outside S O) (given : Status) : Type 0 where
  pub files : after.files ≡ before.files
  pub outcome : ShowsLackingLine before.output after.output given

-- the file of this name is that of the state; or it has its bytes, or a front of these, and writing failed
abbrev pub SavesBytes : {S O : Type 0} → List ℕ → List ℕ → Outside S O → Outside S O → Status → Type 0
SavesBytes bytes name before after given =
    ((given ≡ status.Frozen)
    × (Tells (after.files.held name) bytes × (after.files.writing ≡ before.files.writing)))
    ⊎ ((given ≡ status.WriteFault)
    × (((after.files.held name ≡ before.files.held name) ⊎ TellsFront (after.files.held name) bytes)
    × Rose before.files.writing after.files.writing))

-- a state: its file was written, or a front of it
pub record SavesState {S O : Type 0} (f : Frozen) (digest name : List ℕ) (before after : Outside S O) (given : Status) :
    Type 0 where
  pub shape : HasShape f
  pub few : length f.recorded ≤ 65536
  pub output : after.output ≡ before.output
  pub others : OtherFiles name before.files.held after.files.held
  pub reading : after.files.reading ≡ before.files.reading
  pub outcome : SavesBytes (frozen_bytes f digest) name before after given

abbrev pub Leaves : {S O : Type 0} → Option Frozen → List ℕ → List ℕ → Outside S O → Outside S O → Status → Type 0
Leaves None digest name before after given = ShowsLacking before after given
Leaves (Some f) digest name before after given = SavesState f digest name before after given

-- Some state was left so, or none; for a machine that stands for a moment it is the one that the vectors give.
pub record LeavesState {S O : Type 0} (machine : Machine) (left : ForSaving) (name : List ℕ)
    (before after : Outside S O)
    (given : Status) : Type 0 where
  pub state : Option Frozen
  pub leaves : Leaves state left.digest name before after given
  pub is : (m : Moment) → StandsForMoment machine m → m.joint.memory.ledger.missed ≡ false →
      HasRoom (length m.joint.harts) (length m.joint.memory.ram) (length m.joint.domains) left.room →
      state ≡ frozen_of m.joint m.steps left.vectors
