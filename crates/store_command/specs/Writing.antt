-- What the functions of a run over cloaked files write, one after another.
use Rattle.std.specs.Prelude.{ℕ, ◌≡◌, ◌≢◌, ◌+◌, ◌⊎◌, Bool, true, false, is_none, List, ◌++◌, length, take, drop, Option, Some, None, IfSome, Result, Ok, Err, IsOk}
use Rattle.cloak_base.specs.declared.causes.Failed.{Failed}
use Rattle.cloak_base.specs.declared.causes.Stop.{Stop}
use Rattle.cloak_base.specs.declared.causes.Stop.TheVariants as stop
use Rattle.cloak_model.specs.Beginning.{AreContents}
use Rattle.cloak_model.specs.Exchange.{Piece, Emits}
use Rattle.cloak_model.specs.Joint.{Moment}
use Rattle.cloak_model.specs.Opening.{RunEdge}
use Rattle.cloak_model.specs.Run.{Run, is_refused, report_of}
use Rattle.cloak_model.specs.StoredFiles.{table_of}
use Rattle.cloak_model.specs.StoredRun.{contents_of}
use Rattle.cloak_machine.specs.declared.end.RunEnd.{RunEnd}
use Rattle.cloak_machine.specs.Ending.{end_is_refused, end_report}
use Rattle.cloak_machine.specs.Standing.{FinishesAs}
use Rattle.command_words.specs.Command as spec
use Rattle.io_traits.specs.Told.{Rose, Tells, OtherFiles}
use Rattle.command_parts.specs.Outside.{FilesOutside, Outside}
use Rattle.run_command.specs.Outlet.{Writes}
use Rattle.store_command.specs.declared.prepare.ForStoring.{ForStoring}
use Rattle.store_command.specs.Leaving.{HasOldOrFront, first_due}

-- What is due first.

-- these bytes stand at a place of others
abbrev pub with_bytes_at : ℕ → List ℕ → List ℕ → List ℕ
with_bytes_at at bytes all = take at all ++ (bytes ++ drop (at + length bytes) all)

-- the key and the room stay
pub record KeepsRoom (old new : ForStoring) : Type 0 where
  pub mac : new.mac ≡ old.mac
  pub room : length new.room.items ≡ length old.room.items

-- The machine of this moment was closed so, and what is left tells of its files and its disk then.
pub record Finishes {E : Type 0} (gave : E → E → List Piece → Type 0) (e e' : E) (old new : ForStoring) (end : RunEnd)
    (stopped : Stop) (m : Moment) (closed : RunEdge) : Type 0 where
  pub finishes : FinishesAs gave e e' end stopped m closed
  pub table : end.stop ≢ stop.NoRandom → new.table ≡ table_of (contents_of closed.joint)
  pub fit : end.stop ≢ stop.NoRandom → AreContents m.joint.memory.ledger.keys (contents_of closed.joint)
  pub next : new.next.items ≡ with_bytes_at old.disk_from closed.joint.disk old.next.items

-- The end of a machine is that of a run, and what is left tells of its files and its disk as it was closed.
pub record EndsAs (old new : ForStoring) (end : RunEnd) (r : Run) : Type 0 where
  pub table : r.stop ≢ stop.NoRandom → new.table ≡ table_of (contents_of r.closed.joint)
  pub fit : r.stop ≢ stop.NoRandom → AreContents r.closed.joint.memory.ledger.keys (contents_of r.closed.joint)
  pub stop : end.stop ≡ r.stop
  pub refused : end_is_refused end ≡ is_refused r
  pub report : end_report end ≡ report_of r
  pub next : new.next.items ≡ with_bytes_at old.disk_from r.closed.joint.disk old.next.items

-- there is an end unless the outlet failed
abbrev pub EndsUnless : Bool → Option RunEnd → Type 0
EndsUnless failed None = failed ≡ true
EndsUnless failed (Some end) = failed ≡ false

-- what is due first of a run was given
pub record WritesFirst {E : Type 0} (gave : E → E → List Piece → Type 0) (e e' : E) (old new : ForStoring)
    (given : Option RunEnd) (r : Run) : Type 0 where
  pub emits : Emits gave e e' (first_due r)
  pub ends : IfSome given (λ end. EndsAs old new end r)

-- some pieces were written, or a front of them if there is no end
abbrev pub WritesSome : {S O : Type 0} → List ℕ → Option RunEnd → Outside S O → Outside S O → Type 0
WritesSome name given before after = (pieces : List Piece) × Writes (is_none given) name before after pieces

-- what is due first of a run was written, or a front of it if there is no end
pub record RecordsFirst {S O : Type 0} (name : List ℕ) (before after : Outside S O) (old new : ForStoring)
    (given : Option RunEnd) (r : Run) : Type 0 where
  pub writes : Writes (is_none given) name before after (first_due r)
  pub ends : IfSome given (λ end. EndsAs old new end r)

-- The files.

-- both were written whole
pub record WroteFiles {S : Type 0} (names : spec.StoreNames) (new next : List ℕ) (before after : FilesOutside S) : Type 0
  where
    pub new_file : Tells (after.held names.new_name) new
    pub next_file : Tells (after.held names.next_name) next
    pub others : (other : List ℕ) → other ≢ names.new_name → other ≢ names.next_name → after.held other ≡ before.held other
    pub writing : after.writing ≡ before.writing
    pub reading : after.reading ≡ before.reading

-- writing the first one failed
pub record BrokeInNew {S : Type 0} (names : spec.StoreNames) (new : List ℕ) (before after : FilesOutside S) : Type 0 where
  pub new_file : HasOldOrFront names.new_name new before.held after.held
  pub others : OtherFiles names.new_name before.held after.held
  pub writing : Rose before.writing after.writing
  pub reading : after.reading ≡ before.reading

-- writing the second one failed
pub record BrokeInNext {S : Type 0} (names : spec.StoreNames) (new next : List ℕ) (before after : FilesOutside S) : Type 0
  where
    pub new_file : Tells (after.held names.new_name) new
    pub next_file : HasOldOrFront names.next_name next before.held after.held
    pub others : (other : List ℕ) → other ≢ names.new_name → other ≢ names.next_name → after.held other ≡ before.held other
    pub writing : Rose before.writing after.writing
    pub reading : after.reading ≡ before.reading

abbrev pub WritesFiles : {S : Type 0} → spec.StoreNames → List ℕ → List ℕ → FilesOutside S → FilesOutside S →
    Result Unit Failed → Type 0
WritesFiles names new next before after (Ok done) = WroteFiles names new next before after
WritesFiles names new next before after (Err e) =
    BrokeInNew names new before after ⊎ BrokeInNext names new next before after

-- nothing is done after a missing draw
abbrev pub LeavesFiles : {S : Type 0} → Stop → spec.StoreNames → List ℕ → List ℕ → FilesOutside S → FilesOutside S →
    Result Unit Failed → Type 0
LeavesFiles stop.NoRandom names new next before after result = (after ≡ before) × IsOk result
LeavesFiles stop.Budget names new next before after result = WritesFiles names new next before after result
LeavesFiles (stop.Halt value) names new next before after result = WritesFiles names new next before after result
