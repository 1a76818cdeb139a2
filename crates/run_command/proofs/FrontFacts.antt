-- If no item of a record is unfit, none is on the way: a machine alone whose item was unfit stays that way.
use Rattle.std.proofs.Common.{◌≡◌, ◌∙◌, ℕ, List, ◌++◌, Option, Some, None, refl, sym}
use Rattle.cloak_model.specs.declared.image.KernelImage.{KernelImage}
use Rattle.cloak_model.specs.Items.{Item}
use Rattle.cloak_model.specs.DomainAlone.{domain_alone_from, opened_with_part}
use Rattle.cloak_model.specs.Parts.{DomainPart}
use Rattle.cloak_model.specs.KernelAlone.{kernel_alone, opened_kernel}
use Rattle.record_law.proofs.Staying.{kernel_stays, program_stays}

kernel_by : (k : KernelImage) (front more : List Item) (o : Option ℕ) → (kernel_alone k front).unfit ≡ o →
    (kernel_alone k (front ++ more)).unfit ≡ None → o ≡ None
kernel_by k front more None is fits = refl
kernel_by k front more (Some step) is fits =
    let whole = kernel_stays k.schedule (opened_kernel k) front more step is in
    let clash : None ≡ Some step = sym fits ∙ whole in absurd cc

pub kernel_front_fits : (k : KernelImage) (front more : List Item) → (kernel_alone k (front ++ more)).unfit ≡ None →
    (kernel_alone k front).unfit ≡ None
kernel_front_fits k front more fits = kernel_by k front more (kernel_alone k front).unfit refl fits

domain_by : (d : ℕ) (schedule : List ℕ) (p : DomainPart) (front more : List Item) (o : Option ℕ) →
    (domain_alone_from d schedule p front).unfit ≡ o → (domain_alone_from d schedule p (front ++ more)).unfit ≡ None →
    o ≡ None
domain_by d schedule p front more None is fits = refl
domain_by d schedule p front more (Some step) is fits =
    let whole = program_stays d schedule (opened_with_part p) front more step is in
    let clash : None ≡ Some step = sym fits ∙ whole in absurd cc

pub domain_front_fits : (d : ℕ) (schedule : List ℕ) (p : DomainPart) (front more : List Item) →
    (domain_alone_from d schedule p (front ++ more)).unfit ≡ None → (domain_alone_from d schedule p front).unfit ≡ None
domain_front_fits d schedule p front more fits =
    domain_by d schedule p front more (domain_alone_from d schedule p front).unfit refl fits
