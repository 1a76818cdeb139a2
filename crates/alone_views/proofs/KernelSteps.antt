-- The plain step of a hart, and the step of a number.
use Rattle.std.proofs.Common.{◌≡◌, ◌-◌, ◌%◌, ℕ, Bool, true, false, List, length, slice_index, if◌then◌else◌, refl, sym, ◌∙◌, ap, subst}
use Rattle.cloak_model.specs.Asking.{Told, Follows}
use Rattle.cloak_model.specs.Hart.{Hart}
use Rattle.cloak_model.specs.HostCalls.{SteppedKernel}
use Rattle.cloak_model.specs.KernelAlone as model
use Rattle.cloak_model.specs.KernelAlone.{kernel_hart, kernel_seen, kernel_unfit, plain_step, take_kernel_step, kernel_step_begun, after_plain_step, has_halted}
use Rattle.cloak_model.specs.KernelStep.{kernel_step}
use Rattle.cloak_model.specs.Memory.{Seen}
use Rattle.cloak_model.specs.World.{World, Flat}
use Rattle.cloak_model.specs.declared.outcome.Kernel.{Kernel}
use Rattle.cloak_model.proofs.Later.{unclashed_after_flat}
use Rattle.step_parts.proofs.Same.{same_step}
use Rattle.step_parts.proofs.StepLater.{later_step_in_parts}
use Rattle.cloak_model.proofs.Later.{IsLater}
use Rattle.alone_views.specs.KernelChanges.{ChangesTo}
use Rattle.alone_views.specs.KernelEnding.{EndsAs, ending_in, plain_ending}
use Rattle.alone_views.specs.KernelStages.{stood_stage}
use Rattle.alone_views.specs.KernelStanding.{StandsForKernel, state_with}
use Rattle.alone_views.specs.declared.kernel.KernelAlone.{KernelAlone}
use Rattle.alone_views.specs.declared.kernel_ram.FlatRam.{FlatRam}
use Rattle.alone_views.specs.KernelWorld.{IsWorld, seen_by}
use Rattle.alone_views.proofs.KernelRam.{told_as}

-- what a step told, of this hart, disk and ending, and these frames and reservations
abbrev pub told_of : Hart → List ℕ → Kernel → Seen → Told SteppedKernel
told_of h disk k seen = record { answer = record { hart = h; disk = disk; ending = k }; world = Flat seen }

later_kernel_step : (h : Hart) (disk : List ℕ) (w : World) → IsLater w (kernel_step h disk w).world
later_kernel_step h disk w =
    subst (λ (t : Told SteppedKernel). IsLater w t.world) (sym (same_step h disk w)) (later_step_in_parts h disk w)

-- the step over frames without cloaked pages
pub step_over_ram : (old new : FlatRam) (h h' : Hart) (disk disk' : List ℕ) (k : Kernel) →
    Follows IsWorld old new
    (record { hart = h'; disk = disk'; ending = k }) (kernel_step h disk) →
    kernel_step h disk (Flat (seen_by old)) ≡ told_of h' disk' k (seen_by new)
step_over_ram old new h h' disk disk' k follows =
    let followed = follows old (Flat (seen_by old)) refl
    (unclashed_after_flat (seen_by old) _ (later_kernel_step h disk (Flat (seen_by old)))) in
    told_as _ _ _ (sym followed.answer) followed.stands

pub stepped_plainly : (s : model.KernelAlone) (number : ℕ) (h h' : Hart) (disk : List ℕ) (k : Kernel)
    (seen : Seen) (halts : Bool) → kernel_hart s.kernel number ≡ h →
    kernel_step h s.kernel.disk (Flat (kernel_seen s.kernel)) ≡ told_of h' disk k seen → halts ≡ has_halted k →
    plain_step number s ≡ record s {
      kernel = after_plain_step s.kernel number (told_of h' disk k seen);
      stage = model.Between;
      halted = halts;
    }
unfolding plain_step
stepped_plainly s number h h' disk k seen halts is made halted =
    ap (λ (told : Told SteppedKernel). let t : model.KernelAlone = record s {
      kernel = after_plain_step s.kernel number told;
      stage = model.Between;
      halted = has_halted told.answer.ending;
    } in t) (ap (λ (x : Hart). kernel_step x s.kernel.disk (Flat (kernel_seen s.kernel))) is ∙ made)
    ∙ ap (λ (b : Bool). let t : model.KernelAlone = record s {
      kernel = after_plain_step s.kernel number (told_of h' disk k seen);
      stage = model.Between;
      halted = b;
    } in t) (sym halted)

-- the hart of the step with this number
abbrev turn_in : List ℕ → ℕ → ℕ
turn_in schedule number = slice_index schedule ((number - 1) % length schedule)

-- no step follows one that halted
pub step_halted : (old new : KernelAlone) (schedule : List ℕ) (number : ℕ) → old.halted ≡ true →
    ChangesTo old new kernel_unfit → ChangesTo old new (take_kernel_step schedule number)
unfolding take_kernel_step
step_halted old new schedule number halted becomes = record {
  state = λ console. becomes.state console ∙ sym (unfit_then (state_with old console) halted);
  console = becomes.console;
  schedule = becomes.schedule;
}
  where
    unfit_then : (s : model.KernelAlone) → s.halted ≡ true → take_kernel_step schedule number s ≡ kernel_unfit s
    unfit_then s is = ap (λ (b : Bool). let t : model.KernelAlone = if b then kernel_unfit s
        else kernel_step_begun (turn_in schedule number) (kernel_hart s.kernel (turn_in schedule number)).inside
        (record s { steps = number }) in t) is

pub step_taken : (s : model.KernelAlone) (schedule : List ℕ) (number hart : ℕ) → s.halted ≡ false →
    hart ≡ turn_in schedule number → take_kernel_step schedule number s
    ≡ kernel_step_begun hart (kernel_hart s.kernel hart).inside (record s { steps = number })
unfolding take_kernel_step
step_taken s schedule number hart on turn =
    let begun : ℕ → model.KernelAlone =
    λ h. kernel_step_begun h (kernel_hart s.kernel h).inside (record s { steps = number }) in
    ap (λ (b : Bool). let t : model.KernelAlone = if b then kernel_unfit s else begun (turn_in schedule number) in t) on
    ∙ ap begun (sym turn)

-- How a plain step ended.

pub ended_plainly : (s : model.KernelAlone) (number : ℕ) (h h' : Hart) (disk : List ℕ) (k : Kernel) (seen : Seen) →
    kernel_hart s.kernel number ≡ h → kernel_step h s.kernel.disk (Flat (kernel_seen s.kernel)) ≡ told_of h' disk k seen →
    k ≡ plain_ending number s
ended_plainly s number h h' disk k seen is made =
    sym (ap (λ (x : Hart). (kernel_step x s.kernel.disk (Flat (kernel_seen s.kernel))).answer.ending) is
    ∙ ap (λ (t : Told SteppedKernel). t.answer.ending) made)

-- the number of a hart outside
abbrev pub outside_hart : model.KernelStage → ℕ
outside_hart (model.Outside number) = number
outside_hart other = 0

abbrev pub is_outside : model.KernelStage → Bool
is_outside (model.Outside number) = true
is_outside other = false

-- the step of a hart outside was made
pub ends_as : (old new : KernelAlone) (hart : ℕ) → stood_stage old.stage ≡ model.Outside hart →
    ((turns : List ℕ) (s : model.KernelAlone) → StandsForKernel old turns s → ending_in new ≡ plain_ending hart s) →
    EndsAs old new
ends_as old new hart is ends = λ turns s stands number at.
    ends turns s stands
    ∙ ap (λ (n : ℕ). plain_ending n s) (ap outside_hart (sym is ∙ (ap (λ (t : model.KernelAlone). t.stage) (sym stands.state) ∙ at)))

-- no step of a hart outside is open
pub ends_none : (old new : KernelAlone) (stage : model.KernelStage) → stood_stage old.stage ≡ stage →
    is_outside stage ≡ false → EndsAs old new
ends_none old new stage is not_outside = λ turns s stands number at.
    absurd (let clash : false ≡ true = sym not_outside
    ∙ ap is_outside (sym is ∙ (ap (λ (t : model.KernelAlone). t.stage) (sym stands.state) ∙ at)) in cc)
