-- Two runs that two calls of `store` made agree in a part of which they have the image and the half of the record.
use Rattle.std.specs.Prelude.{ℕ, ◌≡◌, List, slice_get, Some}
use Rattle.chain_law.specs.Chain.{MadeRun}
use Rattle.cloak_model.specs.declared.image.Bundle.{Bundle}
use Rattle.cloak_model.specs.declared.image.Program.{Program}
use Rattle.cloak_model.specs.Beginning.{Beginning, Stored}
use Rattle.cloak_model.specs.DomainAlone.{part_from}
use Rattle.cloak_model.specs.Items.{Item}
use Rattle.cloak_model.specs.Record.{IsRecord}
use Rattle.cloak_model.specs.Run.{NoClash, Run, exchange, run_inward_half, run_outward_half}
use Rattle.cloak_model.specs.StoredFiles.{FileContents}
use Rattle.command_parts.specs.declared.status.Status.{Status}
use Rattle.command_parts.specs.Outside.{Outside}
use Rattle.command_parts.specs.Storing.{AreFiles, StoreSources}
use Rattle.command_words.specs.Command as spec
use Rattle.domain_isolation.specs.Isolation.{AgreeInDomain}
use Rattle.kernel_isolation.specs.Isolation.{AgreeInKernel}
use Rattle.store_command.specs.Answering.{HasStored}
use Rattle.store_command.specs.Recording.{run_over}

-- A call of `store` that made its run: what its words ask for, the status that it returned, and the outside before and
-- after it.
pub record Call (S O : Type 0) : Type 0 where
  pub asked : spec.Asked
  pub answer : Status
  pub before : Outside S O
  pub after : Outside S O
  pub stored : HasStored asked answer before after

-- what it read from the files that its words name
abbrev pub sources_of : {S O : Type 0} → Call S O → StoreSources
sources_of call = call.stored.sources

-- The table of its store file stands for these contents.
abbrev pub Over : {S O : Type 0} → Call S O → List FileContents → Type 0
Over call files = AreFiles (sources_of call) files

-- its run over them, and what this begins with
abbrev pub run_made : {S O : Type 0} (call : Call S O) (files : List FileContents) → Over call files → Run
run_made call files over = (call.stored.becomes.leaves files over).made

abbrev pub beginning_of : {S O : Type 0} → Call S O → List FileContents → Beginning
beginning_of call files = Stored (sources_of call).secret.keys (sources_of call).stream files

-- the run with what it came from
abbrev pub made_run : {S O : Type 0} (call : Call S O) (files : List FileContents) → Over call files → MadeRun
made_run call files over = run_over (sources_of call) call.stored.steps files (run_made call files over)

abbrev pub image_read : {S O : Type 0} → Call S O → Bundle
image_read call = (sources_of call).bundle

-- The kernel: whatever the programs, secrets, files, streams and budgets of two calls are, if their images have one kernel
-- and their runs one outward half, the runs have as many steps, and the kernel's part is one after each step and at the
-- end.
abbrev pub KernelsAgree : (S O : Type 0) → Type 0
KernelsAgree S O =
    (one other : Call S O) (files files' : List FileContents) (over : Over one files) (over' : Over other files') →
    (image_read other).kernel ≡ (image_read one).kernel →
    run_outward_half (run_made other files' over') ≡ run_outward_half (run_made one files over) →
    AgreeInKernel (run_made one files over) (run_made other files' over')

-- A program: whatever the kernels, the other programs and their files, secrets, streams and budgets are, if the images
-- have one schedule and this program at number d, it begins with the same files, and the runs have one inward half for
-- it, the same is true of its part.
abbrev pub ProgramsAgree : (S O : Type 0) → Type 0
ProgramsAgree S O =
    (one other : Call S O) (files files' : List FileContents) (over : Over one files) (over' : Over other files')
    (d : ℕ) (p : Program) → slice_get (image_read one).programs d ≡ Some p →
    slice_get (image_read other).programs d ≡ Some p →
    (image_read other).kernel.schedule ≡ (image_read one).kernel.schedule →
    part_from d (beginning_of other files') p ≡ part_from d (beginning_of one files) p →
    run_inward_half d (run_made other files' over') ≡ run_inward_half d (run_made one files over) →
    AgreeInDomain d (run_made one files over) (run_made other files' over')

-- These are the items of the record that a call left, if its file tells its bytes.
pub record HasItems {S O : Type 0} (call : Call S O) (items : List Item) : Type 0 where
  pub file : List ℕ
  pub told : call.after.files.held call.stored.names.record_name ≡ Some file
  pub is_record : IsRecord file items

-- The record that a call left has the items of its run, so their halves are those of the run, if no pages clashed in it.
abbrev pub RecordsTellRuns : (S O : Type 0) → Type 0
RecordsTellRuns S O =
    (call : Call S O) (files : List FileContents) (over : Over call files) → NoClash (run_made call files over) →
    (items : List Item) → HasItems call items → items ≡ exchange (run_made call files over)
