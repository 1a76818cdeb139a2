-- The kernel alone ignores inward items.
use Rattle.std.proofs.Common.{◌≡◌, ℕ, Bool, true, false, cond, List, [], ◌∷◌, ◌++◌, None, refl, sym, ap, ◌∙◌}
use Rattle.std.specs.Option.{is_some}
use Rattle.std.specs.List.{AllByRecursion}
use Rattle.cloak_model.specs.Items.{Item}
use Rattle.cloak_model.specs.Items as item
use Rattle.cloak_model.specs.Halves.{is_outward, outward_half}
use Rattle.cloak_model.specs.KernelAlone.{KernelAlone, opened_kernel, kernel_takes, take_kernel_item, kernel_taken}
use Rattle.kernel_isolation.specs.Isolation.{OutwardHalfSuffices}

-- items that are read one after another
pub kernel_append : (schedule : List ℕ) (s : KernelAlone) (a b : List Item) →
    kernel_taken schedule s (a ++ b) ≡ kernel_taken schedule (kernel_taken schedule s a) b
unfolding kernel_taken
kernel_append schedule s [] b = refl
kernel_append schedule s (i ∷ a) b = kernel_append schedule (take_kernel_item schedule s i) a b

-- an item that is read when none was unfit
pub taken_fit : (schedule : List ℕ) (s : KernelAlone) (i : Item) → s.unfit ≡ None →
    take_kernel_item schedule s i ≡ kernel_takes schedule i s
unfolding take_kernel_item
taken_fit schedule s i fits = rw fits refl

pub either_same : {A : Type 0} (b : Bool) (x y : A) → y ≡ x → cond b x y ≡ x
either_same true x y e = refl
either_same false x y e = e

ignores : (schedule : List ℕ) (s : KernelAlone) (i : Item) → is_outward i ≡ false → kernel_takes schedule i s ≡ s
unfolding kernel_takes
ignores schedule s (item.Ok domain) is = refl
ignores schedule s (item.Absent domain cause) is = refl
ignores schedule s (item.Word domain value) is = refl
ignores schedule s (item.Timer domain) is = refl
ignores schedule s (item.Resume domain ctx answer) is = refl
ignores schedule s (item.Stopped domain) is = refl
ignores schedule s (item.Ended domain) is = refl
ignores schedule s i is = absurd cc

-- an inward item leaves all
inward_kept : (schedule : List ℕ) (s : KernelAlone) (i : Item) → is_outward i ≡ false →
    take_kernel_item schedule s i ≡ s
unfolding take_kernel_item
inward_kept schedule s i is =
    either_same (is_some s.unfit) s (kernel_takes schedule i s) (ignores schedule s i is)

-- items that are not outward leave all
pub others_kept : (schedule : List ℕ) (s : KernelAlone) (others : List Item) →
    AllByRecursion (λ i. is_outward i ≡ false) others → kernel_taken schedule s others ≡ s
unfolding kernel_taken
others_kept schedule s [] all = refl
others_kept schedule s (i ∷ others) all =
    ap (λ t. kernel_taken schedule t others) (inward_kept schedule s i all.0)
    ∙ others_kept schedule s others all.1

one_more : (schedule : List ℕ) (s : KernelAlone) (i : Item) (items half : List Item) (test : Bool) →
    is_outward i ≡ test → ((t : KernelAlone) → kernel_taken schedule t half ≡ kernel_taken schedule t items) →
    kernel_taken schedule s (cond test (i ∷ half) half) ≡ kernel_taken schedule s (i ∷ items)
unfolding kernel_taken
one_more schedule s i items half true is others = others (take_kernel_item schedule s i)
one_more schedule s i items half false is others =
    others s ∙ ap (λ t. kernel_taken schedule t items) (sym (inward_kept schedule s i is))

half_taken : (schedule : List ℕ) (s : KernelAlone) (items : List Item) →
    kernel_taken schedule s (outward_half items) ≡ kernel_taken schedule s items
half_taken schedule s [] = refl
half_taken schedule s (i ∷ items) =
    one_more schedule s i items (outward_half items) (is_outward i) refl (λ t. half_taken schedule t items)

pub outward_half_suffices : OutwardHalfSuffices
outward_half_suffices k items = half_taken k.schedule (opened_kernel k) items
