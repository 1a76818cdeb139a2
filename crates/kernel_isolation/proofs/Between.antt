-- The kernel alone between two steps.
use Rattle.std.proofs.Common.{◌≡◌, ◌∙◌, ℕ, suc, ◌-◌, ◌%◌, Bool, false, List, ◌∷◌, length, slice_index, None, refl, sym, ap, subst}
use Rattle.cloak_model.specs.Items.{Item}
use Rattle.cloak_model.specs.Items as item
use Rattle.cloak_model.specs.KernelAlone.{KernelAlone, KernelStage, Between, Outside, kernel_takes, take_kernel_item, take_kernel_step, kernel_step_ended, plain_step, kernel_taken}
use Rattle.cloak_model.specs.Parts.{KernelPart}
use Rattle.kernel_isolation.proofs.Ignoring.{taken_fit}

-- n steps were made, and this is the kernel's part
pub record KernelRests (s : KernelAlone) (n : ℕ) (k : KernelPart) : Type 0 where
  pub same : s.kernel ≡ k
  pub steps : s.steps ≡ n
  pub stage : s.stage ≡ Between
  pub fits : s.unfit ≡ None

-- The last of them halted only if it stopped the run.
pub record KernelGoesOn (s : KernelAlone) (n : ℕ) (k : KernelPart) (stops : Bool) : Type 0 where
  pub rests : KernelRests s n k
  pub halted : stops ≡ false → s.halted ≡ false

-- After n steps, the marker and the items of the next step, and its end, give the kernel's part after it.
abbrev pub KernelStepIsAlone : List ℕ → ℕ → KernelPart → List Item → KernelPart → Bool → Type 0
KernelStepIsAlone schedule n before items after stops =
    (s : KernelAlone) → KernelGoesOn s n before false →
    let s' = kernel_taken schedule s (item.Step (suc n) ∷ items) in
    KernelGoesOn (kernel_step_ended s'.stage s') (suc n) after stops

-- the hart of the step after n others, as the kernel alone has it
abbrev pub hart_behind : List ℕ → ℕ → ℕ
hart_behind schedule n = slice_index schedule ((suc n - 1) % length schedule)

-- The end of a step.

pub ended_unfit : (p : KernelStage) (s : KernelAlone) → (kernel_step_ended p s).unfit ≡ s.unfit
unfolding kernel_step_ended plain_step
ended_unfit (Outside number) s = refl
ended_unfit _ s = refl

pub ended_between : (p : KernelStage) (s : KernelAlone) → p ≡ Between → kernel_step_ended p s ≡ s
unfolding kernel_step_ended
ended_between Between s e = refl
ended_between _ s e = absurd cc

-- a marker is read from where the step before it has not been made yet, or from after its end

step_taken_same : (schedule : List ℕ) (n : ℕ) (s : KernelAlone) → s.unfit ≡ None →
    (kernel_step_ended s.stage s).stage ≡ Between →
    take_kernel_item schedule s (item.Step n) ≡ take_kernel_item schedule (kernel_step_ended s.stage s) (item.Step n)
unfolding kernel_takes
step_taken_same schedule n s fits rests =
    let r : KernelAlone = kernel_step_ended s.stage s in
    taken_fit schedule s (item.Step n) fits
    ∙ ap (take_kernel_step schedule n) (sym (ended_between r.stage r rests))
    ∙ sym (taken_fit schedule r (item.Step n) (ended_unfit s.stage s ∙ fits))

pub step_same : (schedule : List ℕ) (n : ℕ) (items : List Item) (s : KernelAlone) → s.unfit ≡ None →
    (kernel_step_ended s.stage s).stage ≡ Between →
    kernel_taken schedule (kernel_step_ended s.stage s) (item.Step n ∷ items)
    ≡ kernel_taken schedule s (item.Step n ∷ items)
unfolding kernel_taken
step_same schedule n items s fits rests =
    ap (λ t. kernel_taken schedule t items) (sym (step_taken_same schedule n s fits rests))

-- Close ends the step before it
pub close_taken : (schedule : List ℕ) (n : ℕ) (rest : List Item) (s : KernelAlone) → s.unfit ≡ None →
    kernel_taken schedule s (item.Close n ∷ rest) ≡ kernel_taken schedule (kernel_step_ended s.stage s) rest
unfolding kernel_taken kernel_takes
close_taken schedule n rest s fits =
    ap (λ t. kernel_taken schedule t rest) (taken_fit schedule s (item.Close n) fits)

-- If the last step is not made yet, its end is as it is told.
pub record HasRead (s : KernelAlone) (n : ℕ) (k : KernelPart) (stops : Bool) : Type 0 where
  pub fits : s.unfit ≡ None
  pub goes : KernelGoesOn (kernel_step_ended s.stage s) n k stops

pub next_read : (schedule : List ℕ) (n : ℕ) (before after : KernelPart) (items : List Item) (stops : Bool)
    (s : KernelAlone) → HasRead s n before false → KernelStepIsAlone schedule n before items after stops →
    HasRead (kernel_taken schedule s (item.Step (suc n) ∷ items)) (suc n) after stops
next_read schedule n before after items stops s read step =
    let r : KernelAlone = kernel_step_ended s.stage s in
    let s' : KernelAlone = kernel_taken schedule s (item.Step (suc n) ∷ items) in
    let goes : KernelGoesOn (kernel_step_ended s'.stage s') (suc n) after stops =
    subst (λ (t : KernelAlone). KernelGoesOn (kernel_step_ended t.stage t) (suc n) after stops)
    (step_same schedule (suc n) items s read.fits read.goes.rests.stage) (step r read.goes) in
    record { fits = sym (ended_unfit s'.stage s') ∙ goes.rests.fits; goes = goes }
