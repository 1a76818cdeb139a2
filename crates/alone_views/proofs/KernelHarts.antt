-- What single items make of a hart: it begins a step, or leaves its context.
use Rattle.std.proofs.Common.{◌≡◌, ◌<◌, ◌==◌, ℕ, Bool, true, false, List, length, slice_index_or, Option, None, Some, sym, ◌∙◌, ap}
use Rattle.std.proofs.lemmas.List.{get_or_default}
use Rattle.cloak_base.specs.declared.causes.Shown.{Shown}
use Rattle.cloak_model.specs.Hart.{Hart, started}
use Rattle.cloak_model.specs.KernelAlone as model
use Rattle.cloak_model.specs.KernelAlone.{kernel_hart, kernel_unfit, fits_if, take_leave, kernel_step_begun, with_kernel_hart}
use Rattle.cloak_model.specs.KernelStep.{ticked}
use Rattle.cloak_model.specs.Memory.{with_mark}
use Rattle.cloak_model.specs.Leaving.{leave}
use Rattle.alone_views.specs.KernelChanges.{ChangesTo}
use Rattle.alone_views.specs.declared.kernel.KernelAlone.{KernelAlone}
use Rattle.alone_views.proofs.KernelFits.{fits_not}

pub hart_there : (harts : List Hart) (number : ℕ) (h : Hart) → number < length harts →
    h ≡ slice_index_or harts number h → slice_index_or harts number (started 0 0) ≡ h
hart_there harts number h there is = get_or_default harts number (started 0 0) h there ∙ sym is

-- a hart has left, and is this; these are the reservations
abbrev pub has_left : ℕ → Hart → List (Option ℕ) → model.KernelAlone → model.KernelAlone
has_left number h marks s =
    record s { kernel = with_kernel_hart number h (record s.kernel { marks = marks }); stage = model.Left }

-- a step of a hart that runs this context, and is this, has begun
abbrev pub is_inside : ℕ → ℕ → Hart → model.KernelAlone → model.KernelAlone
is_inside number ctx h s = record s { kernel = with_kernel_hart number h s.kernel; stage = model.Inside number ctx }

-- the hart leaves its context
pub left_context : (s : model.KernelAlone) (number ctx : ℕ) (h h' : Hart) (marks : List (Option ℕ)) (shown : Shown) →
    kernel_hart s.kernel number ≡ h → h' ≡ leave h shown → marks ≡ with_mark number None s.kernel.marks →
    (shown.ctx == ctx) ≡ true → take_leave (model.Inside number ctx) shown s ≡ has_left number h' marks s
unfolding take_leave
left_context s number ctx h h' marks shown is left none same =
    let unmarked = with_mark number None s.kernel.marks in
    ap (λ (b : Bool). fits_if b s (has_left number (leave (kernel_hart s.kernel number) shown) unmarked s)) same
    ∙ ap (λ (x : Hart). has_left number x unmarked s) (ap (λ (x : Hart). leave x shown) is ∙ sym left)
    ∙ ap (λ (m : List (Option ℕ)). has_left number h' m s) (sym none)

-- it runs another context
pub left_other : (old new : KernelAlone) (number ctx : ℕ) (shown : Shown) → (shown.ctx == ctx) ≡ false →
    ChangesTo old new kernel_unfit → ChangesTo old new (take_leave (model.Inside number ctx) shown)
unfolding take_leave
left_other old new number ctx shown other becomes =
    fits_not old new (λ s. shown.ctx == ctx)
    (λ s. has_left number (leave (kernel_hart s.kernel number) shown) (with_mark number None s.kernel.marks) s)
    (λ console. other) becomes

-- a step of a hart outside begins
pub begun_outside : (s : model.KernelAlone) (number : ℕ) (h : Hart) → kernel_hart s.kernel number ≡ h →
    h.inside ≡ None →
    kernel_step_begun number (kernel_hart s.kernel number).inside s ≡ record s { stage = model.Outside number }
unfolding kernel_step_begun
begun_outside s number h is outside =
    ap (λ (ctx : Option ℕ). kernel_step_begun number ctx s) (ap (λ (x : Hart). x.inside) is ∙ outside)

-- a step of a hart inside begins: its timer counts
pub begun_inside : (s : model.KernelAlone) (number ctx : ℕ) (h h' : Hart) → kernel_hart s.kernel number ≡ h →
    h.inside ≡ Some ctx → h' ≡ ticked h → kernel_step_begun number (kernel_hart s.kernel number).inside s
    ≡ is_inside number ctx h' s
unfolding kernel_step_begun
begun_inside s number ctx h h' is inside counts =
    ap (λ (c : Option ℕ). kernel_step_begun number c s) (ap (λ (x : Hart). x.inside) is ∙ inside)
    ∙ ap (λ (x : Hart). is_inside number ctx x s)
    (ap ticked is ∙ sym counts)
