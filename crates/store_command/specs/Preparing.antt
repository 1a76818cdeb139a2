-- What the files that the words of `store` name are read as, and the machine that is made of them.
use Rattle.std.specs.Prelude.{ℕ, ◌≡◌, ◌≢◌, ◌≤◌, ◌<◌, ◌+◌, List, [], length, map, Option, IfSome, Some, Result, Ok, Err}
use Rattle.std.specs.List.{flat_map}
use Rattle.cloak_model.specs.declared.image.Bundle.{Bundle}
use Rattle.cloak_model.specs.Beginning.{Beginning, opening_from}
use Rattle.cloak_model.specs.Bundle.{segment_bytes}
use Rattle.cloak_model.specs.Opening.{RunEdge}
use Rattle.cloak_model.specs.Run.{first_moment}
use Rattle.cloak_model.specs.StoreFault.{largest_store}
use Rattle.cloak_machine.specs.Standing.{OpensStored, StandsForMoment, placings_of}
use Rattle.cloak_machine.specs.declared.machine.Machine.{Machine}
use Rattle.command_words.specs.Command as spec
use Rattle.range_law.specs.Writing.{IsOfBytes, IsStreamOfBytes}
use Rattle.joint_machine.specs.declared.opened.StoredFault.{StoredFault}
use Rattle.joint_machine.specs.declared.opened.StoredFault.TheVariants as fault
use Rattle.joint_machine.specs.Placings.{placing}
use Rattle.command_parts.specs.declared.refusal.Refusal.{Refusal}
use Rattle.command_parts.specs.declared.refusal.Refusal.TheVariants as refusal
use Rattle.command_parts.specs.NoRun.{NoRun}
use Rattle.command_parts.specs.Outside.{FilesOutside, OnlyRead}
use Rattle.command_parts.specs.Storing.{AsksStored, StoreSources}
use Rattle.store_command.specs.declared.prepare.ForStoring.{ForStoring}
use Rattle.store_command.specs.declared.prepare.PreparedStore.{PreparedStore}

-- The machine.

-- where the disk begins in the bytes of a bundle
abbrev pub disk_at : Bundle → ℕ
disk_at b = 40 + length b.kernel.schedule + length (flat_map segment_bytes b.kernel.segments)

-- why it does not open
abbrev pub refused_by : StoredFault → Refusal
refused_by fault.NoRandom = refusal.NoPageDraw
refused_by (fault.NoRoom domain) = refusal.NoRoom domain
refused_by fault.NoMemory = refusal.NoMemory

-- There is room for what is known at the end, and there are no files yet.
pub record CanEnd (left : ForStoring) : Type 0 where
  pub empty : left.table ≡ []
  pub room : largest_store ≤ length left.room.items
  pub place : left.disk_from ≤ left.disk_end
  pub within : left.disk_end ≤ length left.next.items

-- the files of the end are made of these sources
pub record IsForStoring (s : StoreSources) (left : ForStoring) : Type 0 where
  pub mac : left.mac ≡ s.secret.mac
  pub next : left.next.items ≡ s.bytes
  pub from : left.disk_from ≡ disk_at s.bundle
  pub to : left.disk_end ≡ disk_at s.bundle + length s.bundle.kernel.disk

-- The words ask for a run from these sources. For all contents that the table stands for, it opens, and the machine is
-- that of its first moment. Image and stream are of bytes.
pub record IsPrepared (names : spec.StoreNames) (counter : ℕ) (randomness : spec.Randomness)
    (held : List ℕ → Option (List ℕ)) (prepared : PreparedStore) : Type 0 where
  pub sources : StoreSources
  pub asks : AsksStored names counter randomness held sources
  pub opens : OpensStored sources.bundle sources.secret.keys sources.stream sources.table (Ok prepared.machine)
  pub placings : placings_of prepared.machine ≡ map placing sources.bundle.programs
  pub left : IsForStoring sources prepared.left
  pub image_bytes : IsOfBytes sources.bundle
  pub stream_bytes : IsStreamOfBytes sources.stream

-- a run that can begin, or why there is none; the files were at most read
abbrev pub PreparesStored : {S : Type 0} → spec.StoreNames → (counter steps : ℕ) → spec.Randomness → FilesOutside S →
    FilesOutside S → Result PreparedStore Refusal → Type 0
PreparesStored names counter steps randomness before after (Ok prepared) =
    OnlyRead before after × IsPrepared names counter randomness before.held prepared
PreparesStored names counter steps randomness before after (Err refused) =
    NoRun (spec.Store names counter steps randomness) refused before after

-- The run of this bundle opens so, the machine is that of its first moment, and what is left has a place for its disk.
pub record OpensRun (machine : Machine) (left : ForStoring) (b : Bundle) (from : Beginning) (o : RunEdge) : Type 0 where
  pub opens : opening_from b from ≡ Ok o
  pub placings : placings_of machine ≡ map placing b.programs
  pub stands : StandsForMoment machine (first_moment b o.joint)
  pub disk : left.disk_end ≡ left.disk_from + length b.kernel.disk
