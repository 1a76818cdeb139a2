-- Each kind of items, taken.
use Rattle.std.proofs.Common.{◌≡◌, ℕ, Bool, true, false, List, if◌then◌else◌, refl, sym, ◌∙◌, ap, subst}
use Rattle.std.specs.Prelude.{is_some}
use Rattle.cloak_base.specs.declared.causes.Shown.{Shown}
use Rattle.cloak_model.specs.Exchange.{Piece}
use Rattle.cloak_model.specs.KernelAlone as model
use Rattle.cloak_model.specs.KernelAlone.{take_cipher, take_put, kernel_takes, take_kernel_item, kernel_step_ended, take_leave, take_kernel_step}
use Rattle.cloak_model.specs.Record.{IsItem}
use Rattle.cloak_model.specs.Effect.{IsWidth}
use Rattle.cloak_model.specs.Items.{Item}
use Rattle.cloak_model.specs.Items as item
use Rattle.alone_views.specs.KernelChanges.{ChangesTo}
use Rattle.alone_views.specs.KernelStanding.{Gains, StandsForKernel, turns_of, unfit_step}
use Rattle.alone_views.specs.declared.kernel.KernelAlone.{KernelAlone}
use Rattle.alone_views.proofs.KernelGains.{gains_nothing, gains_then}

pub takes_cipher : {E : Type 0} (gave : E → E → List Piece → Type 0) (e : E) (old new : KernelAlone) (turns : List ℕ)
    (s : model.KernelAlone) (i : Item) (f : ℕ) (bytes : List ℕ) → i ≡ item.Cipher f bytes →
    ChangesTo old new (λ s. take_cipher s.stage f bytes s) → StandsForKernel old turns s →
    Gains gave e e new turns s (kernel_takes turns i s)
unfolding kernel_takes
takes_cipher {E} gave e old new turns s i f bytes is becomes stands =
    subst (λ (x : Item). Gains gave e e new turns s (kernel_takes turns x s)) (sym is)
    (gains_nothing gave e old new turns s (λ s. take_cipher s.stage f bytes s) becomes stands)

pub takes_put : {E : Type 0} (gave : E → E → List Piece → Type 0) (e : E) (old new : KernelAlone) (turns : List ℕ)
    (s : model.KernelAlone) (i : Item) (address width value : ℕ) → i ≡ item.Put address width value → IsItem i →
    (IsWidth width → ChangesTo old new (λ s. take_put s.stage address width value s)) →
    StandsForKernel old turns s → Gains gave e e new turns s (kernel_takes turns i s)
unfolding kernel_takes
takes_put {E} gave e old new turns s i address width value is ranges becomes stands =
    let ranges_of = subst IsItem is ranges in
    subst (λ (x : Item). Gains gave e e new turns s (kernel_takes turns x s)) (sym is)
    (gains_nothing gave e old new turns s (λ s. take_put s.stage address width value s) (becomes ranges_of.1) stands)

pub takes_leave : {E : Type 0} (gave : E → E → List Piece → Type 0) (e : E) (old new : KernelAlone) (turns : List ℕ)
    (s : model.KernelAlone) (i : Item) (shown : Shown) → i ≡ item.Leave shown →
    ChangesTo old new (λ s. take_leave s.stage shown s) → StandsForKernel old turns s →
    Gains gave e e new turns s (kernel_takes turns i s)
unfolding kernel_takes
takes_leave {E} gave e old new turns s i shown is becomes stands =
    subst (λ (x : Item). Gains gave e e new turns s (kernel_takes turns x s)) (sym is)
    (gains_nothing gave e old new turns s (λ s. take_leave s.stage shown s) becomes stands)

pub takes_step : {E : Type 0} (gave : E → E → List Piece → Type 0) (e e' : E) (mid new : KernelAlone) (turns : List ℕ)
    (s : model.KernelAlone) (i : Item) (number : ℕ) → i ≡ item.Step number →
    Gains gave e e' mid turns s (kernel_step_ended s.stage s) →
    ChangesTo mid new (take_kernel_step (turns_of mid) number) → Gains gave e e' new turns s (kernel_takes turns i s)
unfolding kernel_takes
takes_step {E} gave e e' mid new turns s i number is gains becomes =
    subst (λ (x : Item). Gains gave e e' new turns s (kernel_takes turns x s)) (sym is)
    (gains_then gave e e' mid new turns s (kernel_step_ended s.stage s) (take_kernel_step turns number) gains
    (subst (λ (t : List ℕ). ChangesTo mid new (take_kernel_step t number)) gains.stands.schedule becomes))

pub takes_close : {E : Type 0} (gave : E → E → List Piece → Type 0) (e e' : E) (new : KernelAlone) (turns : List ℕ)
    (s : model.KernelAlone) (i : Item) (steps : ℕ) → i ≡ item.Close steps →
    Gains gave e e' new turns s (kernel_step_ended s.stage s) → Gains gave e e' new turns s (kernel_takes turns i s)
unfolding kernel_takes
takes_close {E} gave e e' new turns s i steps is gains =
    subst (λ (x : Item). Gains gave e e' new turns s (kernel_takes turns x s)) (sym is) gains

-- the state stays
pub stays_so : {E : Type 0} (gave : E → E → List Piece → Type 0) (e : E) (old : KernelAlone) (turns : List ℕ)
    (s next : model.KernelAlone) → next ≡ s → StandsForKernel old turns s → Gains gave e e old turns s next
stays_so {E} gave e old turns s next same stands =
    subst (λ (t : model.KernelAlone). Gains gave e e old turns s t) (sym same)
    (gains_nothing gave e old old turns s (λ s. s) (record { state = λ console. refl; console = refl; schedule = refl })
    stands)

-- an item that is ignored
pub ignores : {E : Type 0} (gave : E → E → List Piece → Type 0) (e : E) (old : KernelAlone) (turns : List ℕ)
    (s : model.KernelAlone) (i x : Item) → i ≡ x → kernel_takes turns x s ≡ s → StandsForKernel old turns s →
    Gains gave e e old turns s (kernel_takes turns i s)
ignores {E} gave e old turns s i x is same stands =
    stays_so gave e old turns s (kernel_takes turns i s) (ap (λ (y : Item). kernel_takes turns y s) is ∙ same) stands

unfit_stood : (old : KernelAlone) (turns : List ℕ) (s : model.KernelAlone) (b : Bool) → StandsForKernel old turns s →
    b ≡ is_some (unfit_step old) → is_some s.unfit ≡ b
unfit_stood old turns s b stands is = ap (λ (t : model.KernelAlone). is_some t.unfit) stands.state ∙ sym is

pub takes_none : {E : Type 0} (gave : E → E → List Piece → Type 0) (e : E) (old : KernelAlone) (turns : List ℕ)
    (s : model.KernelAlone) (i : Item) → true ≡ is_some (unfit_step old) → StandsForKernel old turns s →
    Gains gave e e old turns s (take_kernel_item turns s i)
unfolding take_kernel_item
takes_none {E} gave e old turns s i is stands =
    stays_so gave e old turns s (take_kernel_item turns s i)
    (ap (λ (b : Bool). let t : model.KernelAlone = if b then s else kernel_takes turns i s in t)
    (unfit_stood old turns s true stands is)) stands

pub takes_fit : {E : Type 0} (gave : E → E → List Piece → Type 0) (e e' : E) (old new : KernelAlone) (turns : List ℕ)
    (s : model.KernelAlone) (i : Item) → false ≡ is_some (unfit_step old) → StandsForKernel old turns s →
    Gains gave e e' new turns s (kernel_takes turns i s) → Gains gave e e' new turns s (take_kernel_item turns s i)
unfolding take_kernel_item
takes_fit {E} gave e e' old new turns s i is stands gains =
    let fit : take_kernel_item turns s i ≡ kernel_takes turns i s =
    ap (λ (b : Bool). let t : model.KernelAlone = if b then s else kernel_takes turns i s in t)
    (unfit_stood old turns s false stands is) in
    subst (λ (t : model.KernelAlone). Gains gave e e' new turns s t) (sym fit) gains
