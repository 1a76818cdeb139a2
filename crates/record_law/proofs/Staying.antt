-- Once an item was unfit for a machine that runs alone, it stays so.
use Rattle.std.proofs.Common.{◌≡◌, ℕ, List, [], ◌∷◌, ◌++◌, Some, refl}
use Rattle.cloak_model.specs.Items.{Item}
use Rattle.cloak_model.specs.DomainAlone.{DomainAlone, domain_taken, take_domain_item}
use Rattle.cloak_model.specs.KernelAlone.{KernelAlone, kernel_taken, take_kernel_item}

kernel_same : (schedule : List ℕ) (s : KernelAlone) (items : List Item) (step : ℕ) → s.unfit ≡ Some step →
    (kernel_taken schedule s items).unfit ≡ Some step
unfolding kernel_taken take_kernel_item
kernel_same schedule s [] step is = is
kernel_same schedule s (i ∷ items) step is = kernel_same schedule (take_kernel_item schedule s i) items step (rw is refl)

pub kernel_stays : (schedule : List ℕ) (s : KernelAlone) (front more : List Item) (step : ℕ) →
    (kernel_taken schedule s front).unfit ≡ Some step → (kernel_taken schedule s (front ++ more)).unfit ≡ Some step
unfolding kernel_taken
kernel_stays schedule s [] more step is = kernel_same schedule s more step is
kernel_stays schedule s (i ∷ front) more step is =
    kernel_stays schedule (take_kernel_item schedule s i) front more step is

program_same : (d : ℕ) (schedule : List ℕ) (s : DomainAlone) (items : List Item) (step : ℕ) → s.unfit ≡ Some step →
    (domain_taken d schedule s items).unfit ≡ Some step
unfolding domain_taken take_domain_item
program_same d schedule s [] step is = is
program_same d schedule s (i ∷ items) step is =
    program_same d schedule (take_domain_item d schedule s i) items step (rw is refl)

pub program_stays : (d : ℕ) (schedule : List ℕ) (s : DomainAlone) (front more : List Item) (step : ℕ) →
    (domain_taken d schedule s front).unfit ≡ Some step → (domain_taken d schedule s (front ++ more)).unfit ≡ Some step
unfolding domain_taken
program_stays d schedule s [] more step is = program_same d schedule s more step is
program_stays d schedule s (i ∷ front) more step is =
    program_stays d schedule (take_domain_item d schedule s i) front more step is
