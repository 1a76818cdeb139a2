-- Two runs that two calls of `run` made agree in a part of which they have the image and the half of the record.
use Rattle.std.specs.Prelude.{ℕ, ◌≡◌, List, slice_get, Some}
use Rattle.cloak_model.specs.declared.image.Bundle.{Bundle}
use Rattle.cloak_model.specs.declared.image.Program.{Program}
use Rattle.cloak_model.specs.Items.{Item}
use Rattle.cloak_model.specs.Record.{IsRecord}
use Rattle.cloak_model.specs.Run.{Run, exchange, run_inward_half, run_outward_half}
use Rattle.domain_isolation.specs.Isolation.{AgreeInDomain}
use Rattle.kernel_isolation.specs.Isolation.{AgreeInKernel}
use Rattle.command_words.specs.Command as spec
use Rattle.command_parts.specs.declared.status.Status.{Status}
use Rattle.command_parts.specs.Outside.{Outside}
use Rattle.run_command.specs.Answering.{HasRun}
use Rattle.cloak_model.specs.Run.{NoClash}

-- A call of `run` that made its run: what its words ask for, the status that it returned, and the outside before and
-- after it.
pub record Call (S O : Type 0) : Type 0 where
  pub asked : spec.Asked
  pub answer : Status
  pub before : Outside S O
  pub after : Outside S O
  pub ran : HasRun asked answer before after

-- its run, and the image of that
abbrev pub run_made : {S O : Type 0} → Call S O → Run
run_made call = call.ran.made

abbrev pub image_read : {S O : Type 0} → Call S O → Bundle
image_read call = call.ran.asks.bundle

-- The kernel: whatever the programs, streams and budgets of two calls are, if their images have one kernel and their
-- runs one outward half, the runs have as many steps, and the kernel's part is one after each step and at the end.
abbrev pub KernelsAgree : (S O : Type 0) → Type 0
KernelsAgree S O =
    (one other : Call S O) → (image_read other).kernel ≡ (image_read one).kernel →
    run_outward_half (run_made other) ≡ run_outward_half (run_made one) →
    AgreeInKernel (run_made one) (run_made other)

-- A program: whatever the kernels, the other programs, streams and budgets are, if the images have one schedule and this
-- program at number d, and the runs one inward half for it, the same is true of its part.
abbrev pub ProgramsAgree : (S O : Type 0) → Type 0
ProgramsAgree S O =
    (one other : Call S O) (d : ℕ) (p : Program) → slice_get (image_read one).programs d ≡ Some p →
    slice_get (image_read other).programs d ≡ Some p →
    (image_read other).kernel.schedule ≡ (image_read one).kernel.schedule →
    run_inward_half d (run_made other) ≡ run_inward_half d (run_made one) →
    AgreeInDomain d (run_made one) (run_made other)

-- These are the items of the record that a call left, if its file tells its bytes.
pub record HasItems {S O : Type 0} (call : Call S O) (items : List Item) : Type 0 where
  pub file : List ℕ
  pub told : call.after.files.held call.ran.record_name ≡ Some file
  pub is_record : IsRecord file items

-- The record that a call left has the items of its run, so their halves are those of the run, if no pages clashed in it.
abbrev pub RecordsTellRuns : (S O : Type 0) → Type 0
RecordsTellRuns S O =
    (call : Call S O) → NoClash (run_made call) → (items : List Item) → HasItems call items →
    items ≡ exchange (run_made call)
