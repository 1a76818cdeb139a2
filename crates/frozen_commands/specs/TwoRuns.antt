-- Two runs that two calls of `freeze` made agree in a part of which they have the image and the half of what was written.
use Rattle.std.specs.Prelude.{ℕ, ◌≡◌, ◌≤◌, length, slice_get, Some}
use Rattle.cloak_model.specs.declared.image.Bundle.{Bundle}
use Rattle.cloak_model.specs.declared.image.Program.{Program}
use Rattle.cloak_model.specs.Halves.{inward_half, outward_half}
use Rattle.cloak_model.specs.Parts.{domain_part, kernel_part}
use Rattle.cloak_model.specs.Run.{Run, run_inward_half, run_outward_half}
use Rattle.command_parts.specs.declared.status.Status.{Status}
use Rattle.command_parts.specs.declared.status.Status.TheVariants as status
use Rattle.command_parts.specs.Freezing.{FreezeSources}
use Rattle.command_parts.specs.Outside.{Outside}
use Rattle.command_words.specs.Command as spec
use Rattle.domain_isolation.specs.Isolation.{AgreeInDomain}
use Rattle.kernel_isolation.specs.Isolation.{AgreeInKernel, items_until, joint_until}
use Rattle.frozen_commands.specs.FreezeAnswering.{HasEnded, HasFrozen, HasLacked}

-- A run was made, and no call failed: it was frozen, or a step stopped it, or the vectors were too few.
pub data HasMade {S O : Type 0} (asked : spec.Asked) (given : Status) (before after : Outside S O) : Type 0 where
  Froze : given ≡ status.Frozen → HasFrozen asked before after → HasMade asked given before after
  Ended : HasEnded asked given before after → HasMade asked given before after
  Lacked : given ≡ status.NoRandom → HasLacked asked before after → HasMade asked given before after

-- A call of `freeze` that made its run: what its words ask for, the status that it returned, and the outside before and
-- after it.
pub record Call (S O : Type 0) : Type 0 where
  pub asked : spec.Asked
  pub answer : Status
  pub before : Outside S O
  pub after : Outside S O
  pub made : HasMade asked answer before after

abbrev pub sources_in : {S O : Type 0} {asked : spec.Asked} {given : Status} {before after : Outside S O} →
    HasMade asked given before after → FreezeSources
sources_in (Froze is ran) = ran.freezes.sources
sources_in (Ended ran) = ran.freezes.sources
sources_in (Lacked is ran) = ran.freezes.sources

abbrev pub run_in : {S O : Type 0} {asked : spec.Asked} {given : Status} {before after : Outside S O} →
    HasMade asked given before after → Run
run_in (Froze is ran) = ran.freezes.made
run_in (Ended ran) = ran.freezes.made
run_in (Lacked is ran) = ran.freezes.made

-- its run, over the steps that the words name, and the image of that
abbrev pub run_made : {S O : Type 0} → Call S O → Run
run_made call = run_in call.made

abbrev pub image_read : {S O : Type 0} → Call S O → Bundle
image_read call = (sources_in call.made).bundle

-- Whole runs, with their closing.

-- The kernel, as with two calls of `run`: if the images have one kernel and the runs one outward half, the runs have as
-- many steps, and the kernel's part is one after each step and at the end.
abbrev pub KernelsAgree : (S O : Type 0) → Type 0
KernelsAgree S O =
    (one other : Call S O) → (image_read other).kernel ≡ (image_read one).kernel →
    run_outward_half (run_made other) ≡ run_outward_half (run_made one) →
    AgreeInKernel (run_made one) (run_made other)

-- A program: if the images have one schedule and this program at number d, and the runs one inward half for it, the same
-- is true of its part.
abbrev pub ProgramsAgree : (S O : Type 0) → Type 0
ProgramsAgree S O =
    (one other : Call S O) (d : ℕ) (p : Program) → slice_get (image_read one).programs d ≡ Some p →
    slice_get (image_read other).programs d ≡ Some p →
    (image_read other).kernel.schedule ≡ (image_read one).kernel.schedule →
    run_inward_half d (run_made other) ≡ run_inward_half d (run_made one) →
    AgreeInDomain d (run_made one) (run_made other)

-- What was written up to a step, as it stands in the record of a run that is frozen.

-- The kernel: if the images have one kernel, and what both wrote up to step n has one outward half, the kernel's part is
-- one after this step. After the last step it is that of the state that is saved.
abbrev pub KernelsAgreeSoFar : (S O : Type 0) → Type 0
KernelsAgreeSoFar S O =
    (one other : Call S O) (n : ℕ) → n ≤ length (run_made one).turns → n ≤ length (run_made other).turns →
    (image_read other).kernel ≡ (image_read one).kernel →
    outward_half (items_until n (run_made other)) ≡ outward_half (items_until n (run_made one)) →
    kernel_part (joint_until n (run_made other)) ≡ kernel_part (joint_until n (run_made one))

-- a program
abbrev pub ProgramsAgreeSoFar : (S O : Type 0) → Type 0
ProgramsAgreeSoFar S O =
    (one other : Call S O) (n d : ℕ) (p : Program) → n ≤ length (run_made one).turns →
    n ≤ length (run_made other).turns → slice_get (image_read one).programs d ≡ Some p →
    slice_get (image_read other).programs d ≡ Some p →
    (image_read other).kernel.schedule ≡ (image_read one).kernel.schedule →
    inward_half d (items_until n (run_made other)) ≡ inward_half d (items_until n (run_made one)) →
    domain_part (joint_until n (run_made other)) d ≡ domain_part (joint_until n (run_made one)) d
