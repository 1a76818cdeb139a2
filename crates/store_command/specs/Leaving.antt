-- What a run over cloaked files leaves: record, console and report as every run, and then a store file and a bundle for
-- the next one to go on from.
use Rattle.std.specs.Prelude.{ℕ, ◌≡◌, ◌≢◌, ◌≤◌, ◌+◌, ◌⊎◌, List, [], ◌∷◌, ◌++◌, length, take, codes, Option}
use Rattle.cloak_base.specs.declared.causes.Stop.TheVariants as stop
use Rattle.cloak_model.specs.declared.image.Bundle.{Bundle}
use Rattle.cloak_model.specs.Beginning.{AreContents}
use Rattle.cloak_model.specs.Bundle.{bundle_bytes}
use Rattle.cloak_model.specs.Exchange.{Piece, recorded, recorded_bytes, shown_bytes, record_magic, item_pieces}
use Rattle.cloak_model.specs.Run.{Run, due, closing_pieces, report_of, turns_pieces}
use Rattle.cloak_model.specs.StoredFiles.{store_bytes, table_of}
use Rattle.cloak_model.specs.StoredRun.{contents_of}
use Rattle.command_words.specs.Command as spec
use Rattle.io_traits.specs.Told.{Tells, Grows, OtherFiles}
use Rattle.command_parts.specs.declared.status.Status.{Status}
use Rattle.command_parts.specs.Outside.{Outside, Raised}
use Rattle.command_parts.specs.Storing.{StoreSources}
use Rattle.run_command.specs.Outlet.{Cut, pieces_left, FailedAt}
use Rattle.run_command.specs.Running.{run_status}
use Rattle.command_parts.specs.Files.{TellsFront}

-- The files.

-- a bundle with another disk
abbrev pub with_disk : List ℕ → Bundle → Bundle
with_disk disk b = record b { kernel = record b.kernel { disk = disk } }

-- The store file: what the cloaked files hold at the end, with the next counter.
abbrev pub new_bytes : StoreSources → ℕ → Run → List ℕ
new_bytes s counter r = store_bytes s.secret.mac (counter + 1) (table_of (contents_of r.closed.joint))

-- The bundle, in the version that it had, with the disk of the end.
abbrev pub next_bytes : StoreSources → Run → List ℕ
next_bytes s r = bundle_bytes s.version (with_disk r.closed.joint.disk s.bundle)

-- They are written, and what the cloaked files hold can be told by a store file and is sealed under the keys of the run, so
-- that the next one can go on from it.
pub record HasFiles (names : spec.StoreNames) (counter : ℕ) (s : StoreSources) (r : Run)
    (held : List ℕ → Option (List ℕ)) : Type 0 where
  pub new : Tells (held names.new_name) (new_bytes s counter r)
  pub next : Tells (held names.next_name) (next_bytes s r)
  pub fit : AreContents r.closed.joint.memory.ledger.keys (contents_of r.closed.joint)

-- no other file than these three has other bytes
abbrev pub OtherThanStored : spec.StoreNames → (List ℕ → Option (List ℕ)) → (List ℕ → Option (List ℕ)) → Type 0
OtherThanStored names old new =
    (other : List ℕ) → other ≢ names.record_name → other ≢ names.new_name → other ≢ names.next_name →
    new other ≡ old other

-- The order: first the record and the console; then, unless a random draw was missing, the store file and the bundle; last
-- the rest of the console's line and the report.

abbrev pub first_due : Run → List Piece
first_due r = recorded record_magic ∷ (item_pieces r.opened.items ++ (turns_pieces 1 r.turns ++ closing_pieces r))

abbrev pub last_due : Run → List ℕ
last_due r = codes "\n" ++ report_of r

-- All of it was written, and the answer is the status of the run.
pub record LeavesAll {S O : Type 0} (names : spec.StoreNames) (counter : ℕ) (s : StoreSources) (r : Run) (given : Status)
    (before after : Outside S O) : Type 0 where
  pub status : given ≡ run_status r
  pub file : Tells (after.files.held names.record_name) (recorded_bytes (due r))
  pub output : Grows before.output.taken after.output.taken (shown_bytes (due r))
  pub stored : r.stop ≢ stop.NoRandom → HasFiles names counter s r after.files.held
  pub unstored : r.stop ≡ stop.NoRandom → OtherFiles names.record_name before.files.held after.files.held

-- When writing broke off, nothing more was done.

-- the record could not be begun: it has its bytes, or none
pub record BeginsNoRecord {S O : Type 0} (names : spec.StoreNames) (before after : Outside S O) : Type 0 where
  pub file : (after.files.held names.record_name ≡ before.files.held names.record_name)
      ⊎ TellsFront (after.files.held names.record_name) []
  pub others : OtherFiles names.record_name before.files.held after.files.held
  pub untouched : after.output ≡ before.output
  pub writing : Raised before.files.writing after.files.writing

-- in the record or on the console: both have what is left of the one list of what is due first when it is cut at one
-- place
pub record BreaksOffFirst {S O : Type 0} (names : spec.StoreNames) (r : Run) (before after : Outside S O) : Type 0 where
  pub cut : Cut (first_due r)
  pub file : Tells (after.files.held names.record_name) (recorded_bytes (pieces_left cut))
  pub output : Grows before.output.taken after.output.taken (shown_bytes (pieces_left cut))
  pub others : OtherFiles names.record_name before.files.held after.files.held
  pub fault : FailedAt Raised cut.piece before after

-- what is due first was written whole
pub record HasFirst {S O : Type 0} (names : spec.StoreNames) (r : Run) (before after : Outside S O) : Type 0 where
  pub file : Tells (after.files.held names.record_name) (recorded_bytes (first_due r))
  pub output : Grows before.output.taken after.output.taken (shown_bytes (first_due r))

-- a file has the bytes that it had, as it could not be begun, or a front of these
abbrev pub HasOldOrFront : List ℕ → List ℕ → (List ℕ → Option (List ℕ)) → (List ℕ → Option (List ℕ)) → Type 0
HasOldOrFront name bytes held held' = (held' name ≡ held name) ⊎ TellsFront (held' name) bytes

-- in the store file
pub record BreaksOffInNew {S O : Type 0} (names : spec.StoreNames) (counter : ℕ) (s : StoreSources) (r : Run)
    (before after : Outside S O) : Type 0 where
  pub due_files : r.stop ≢ stop.NoRandom
  pub first : HasFirst names r before after
  pub new : HasOldOrFront names.new_name (new_bytes s counter r) before.files.held after.files.held
  pub next : after.files.held names.next_name ≡ before.files.held names.next_name
  pub writing : Raised before.files.writing after.files.writing
  pub faults : after.output.faults ≡ before.output.faults

-- in the bundle
pub record BreaksOffInNext {S O : Type 0} (names : spec.StoreNames) (counter : ℕ) (s : StoreSources) (r : Run)
    (before after : Outside S O) : Type 0 where
  pub due_files : r.stop ≢ stop.NoRandom
  pub first : HasFirst names r before after
  pub new : Tells (after.files.held names.new_name) (new_bytes s counter r)
  pub next : HasOldOrFront names.next_name (next_bytes s r) before.files.held after.files.held
  pub writing : Raised before.files.writing after.files.writing
  pub faults : after.output.faults ≡ before.output.faults

-- in the lines at the end
pub record BreaksOffLast {S O : Type 0} (names : spec.StoreNames) (counter : ℕ) (s : StoreSources) (r : Run)
    (before after : Outside S O) : Type 0 where
  pub file : Tells (after.files.held names.record_name) (recorded_bytes (first_due r))
  pub bytes : ℕ
  pub few : bytes ≤ length (last_due r)
  pub output : Grows before.output.taken after.output.taken (shown_bytes (first_due r) ++ take bytes (last_due r))
  pub stored : r.stop ≢ stop.NoRandom → HasFiles names counter s r after.files.held
  pub unstored : r.stop ≡ stop.NoRandom → OtherFiles names.record_name before.files.held after.files.held
  pub writing : after.files.writing ≡ before.files.writing
  pub faults : Raised before.output.faults after.output.faults

abbrev pub BreaksOff : {S O : Type 0} → spec.StoreNames → ℕ → StoreSources → Run → Outside S O → Outside S O → Type 0
BreaksOff names counter s r before after =
    BreaksOffFirst names r before after ⊎ (BreaksOffInNew names counter s r before after
    ⊎ (BreaksOffInNext names counter s r before after ⊎ BreaksOffLast names counter s r before after))
