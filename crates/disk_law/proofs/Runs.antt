-- The disk of a run keeps its size.
use Rattle.std.proofs.Common.{◌≡◌, ◌∙◌, ℕ, zero, suc, List, length, Option, Some, None, Ok, refl, ap}
use Rattle.std.specs.List.{AllByRecursion}
use Rattle.std.proofs.lemmas.List.Elements.{All-from_recursion}
use Rattle.cloak_base.specs.declared.causes.Stop.{Stop}
use Rattle.cloak_model.specs.declared.image.Bundle.{Bundle}
use Rattle.cloak_model.specs.declared.image.KernelImage.{KernelImage}
use Rattle.cloak_model.specs.Beginning.{Beginning, opening_from}
use Rattle.cloak_model.specs.Joint.{Moment, Turn, after_turn, joint_step, stop_of}
use Rattle.cloak_model.specs.Opening.{RunEdge, started_kernel}
use Rattle.cloak_model.specs.Parts.{Joint, KernelPart}
use Rattle.cloak_model.specs.Run.{closing, first_moment, joint_after, run_of, turns_from, unless_stopped}
use Rattle.kernel_isolation.proofs.Isolated.{of_opened}
use Rattle.kernel_isolation.proofs.Opened.{is_opened}
use Rattle.reservation_law.proofs.Moments.{IsOrderly, step_orderly}
use Rattle.reservation_law.proofs.Runs.{opened_orderly}
use Rattle.disk_law.specs.Disks.{DisksStay, HasDiskOf, KeepsDisk}
use Rattle.disk_law.proofs.Turns.{step_keeps}

-- As it opens.

started_disk : (image : KernelImage) → (started_kernel image).disk ≡ image.disk
unfolding started_kernel
started_disk image = refl

opened_disk : (b : Bundle) (from : Beginning) (o : RunEdge) → opening_from b from ≡ Ok o → HasDiskOf b o.joint
opened_disk b from o opens =
    let opened = is_opened b from o opens in
    ap (λ (p : KernelPart). length p.disk) opened.part
    ∙ ap (λ (disk : List ℕ). length disk) (started_disk b.kernel)

-- The steps.

record StepsKeep (n : ℕ) (j : Joint) (turns : List Turn) : Type 0 where
  pub each : AllByRecursion (λ (t : Turn). length t.joint.disk ≡ n) turns
  pub last : length (joint_after j turns).disk ≡ n

following : (n : ℕ) (stopped : Option Stop) (later : Moment → List Turn) (m : Moment) → length m.joint.disk ≡ n →
    StepsKeep n m.joint (later m) → StepsKeep n m.joint (unless_stopped stopped later m)
unfolding joint_after
following n None later m here rest = rest
following n (Some cause) later m here rest = record { each = tt; last = here }

steps_keep : (n budget : ℕ) (m : Moment) → IsOrderly m.joint → length m.joint.disk ≡ n →
    StepsKeep n m.joint (turns_from budget m)
unfolding turns_from joint_after
steps_keep n zero m orderly here = record { each = tt; last = here }
steps_keep n (suc budget) m orderly here =
    let t : Turn = joint_step m in
    let next = step_keeps m orderly.whole orderly.chained ∙ here in
    let rest = following n (stop_of t) (turns_from budget) (after_turn m t) next
    (steps_keep n budget (after_turn m t) (step_orderly m orderly) next) in
    record { each = (next, rest.each); last = rest.last }

run_keeps : (b : Bundle) (from : Beginning) (o : RunEdge) → opening_from b from ≡ Ok o → (steps : ℕ) →
    StepsKeep (length b.kernel.disk) o.joint (turns_from steps (first_moment b o.joint))
run_keeps b from o opens steps =
    steps_keep (length b.kernel.disk) steps (first_moment b o.joint) (opened_orderly b from o opens)
    (opened_disk b from o opens)

pub disk_stays : (b : Bundle) (from : Beginning) (o : RunEdge) → opening_from b from ≡ Ok o → (steps : ℕ) →
    HasDiskOf b (joint_after o.joint (turns_from steps (first_moment b o.joint)))
disk_stays b from o opens steps = (run_keeps b from o opens steps).last

-- The run.

run_of_keeps : (b : Bundle) (from : Beginning) (steps : ℕ) (o : RunEdge) → opening_from b from ≡ Ok o →
    KeepsDisk b (run_of b steps o)
unfolding run_of closing
run_of_keeps b from steps o opens =
    let keeps = run_keeps b from o opens steps in
    record {
      opened = opened_disk b from o opens;
      steps = All-from_recursion (λ (t : Turn). HasDiskOf b t.joint) _ keeps.each;
      closed = keeps.last;
    }

pub disks_stay : DisksStay
disks_stay b from budget r is = of_opened b budget (KeepsDisk b) (opening_from b from) r is (run_of_keeps b from budget)
