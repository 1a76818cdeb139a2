use Rattle.std.proofs.Common.{◌≡◌, ◌≢◌, List, ℕ, Result, Ok, Err, Some, None, IfOk, IfErr, MatchResult, subst, sym, ◌∙◌}
use Rattle.cloak_model.specs.Bundle.{IsBundle}
use Rattle.cloak_model.specs.declared.image.Bundle.{Bundle}
use Rattle.cloak_model.specs.declared.fault.BundleFault.{BundleFault}
use Rattle.cloak_model.specs.declared.fault.BundleFault.TheVariants.{NoMemory}
use Rattle.guest_bundle.specs.Fields.{Gives}
use Rattle.cloak_model.specs.BundleFault.{bundle_fault}
use Rattle.guest_bundle.specs.Reading.{bundle_at}
use Rattle.guest_bundle.proofs.Loop.{failed}
use Rattle.guest_bundle.proofs.Steps.{ok_is}
use Rattle.guest_bundle.proofs.Found.{bundle_takes}
use Rattle.guest_bundle.proofs.Only.{bundle_again}
use Rattle.guest_bundle.proofs.Tells.{Tells}
use Rattle.guest_bundle.proofs.Faulty.{bundle_tells}
use Rattle.guest_bundle.proofs.reading.read.Goals as goal
use Rattle.cloak_base.proofs.Lists.{IsBytes}

is_found : (file : List ℕ) (r : Result Bundle BundleFault) → IsBytes file → Gives (λ x. x) r (bundle_at file) →
    IfOk r (λ bundle. IsBundle file bundle)
is_found file (Ok b) fits given = bundle_takes file b fits given
is_found file (Err e) fits given = tt

is_refused : (file : List ℕ) (r : Result Bundle BundleFault) → Gives (λ x. x) r (bundle_at file) →
    IfErr r (λ e. e ≢ NoMemory → (bundle : Bundle) → IsBundle file bundle → ⊥)
is_refused file (Ok b) given = tt
is_refused file (Err e) given = λ other bundle is.
    let fault : bundle_at file ≡ Err e = failed e (bundle_at file) other given in
    let read : bundle_at file ≡ Ok bundle = bundle_again file bundle is in
    cc

is_only : (file : List ℕ) (r : Result Bundle BundleFault) → Gives (λ x. x) r (bundle_at file) → (bundle : Bundle) →
    IsBundle file bundle → IfOk r (λ x. x ≡ bundle)
is_only file (Ok b) given bundle is = ok_is b bundle (sym given ∙ bundle_again file bundle is)
is_only file (Err e) given bundle is = tt

is_first : (file : List ℕ) (r : Result Bundle BundleFault) → Gives (λ x. x) r (bundle_at file) →
    MatchResult r (λ _. bundle_fault file ≡ None) (λ e. e ≢ NoMemory → bundle_fault file ≡ Some e)
is_first file (Ok b) given = subst (λ read. Tells read (bundle_fault file)) given (bundle_tells file)
is_first file (Err e) given = λ other. subst (λ read. Tells read (bundle_fault file))
    (failed e (bundle_at file) other given) (bundle_tells file)

pub returns-clause-ok : goal.returns-clause-ok
returns-clause-ok c = is_found c.args.file.items c.bundle.result (subst IsBytes c.as_slice.ensures.value c.are_bytes.ensures) c.bundle.ensures

pub returns-clause-err : goal.returns-clause-err
returns-clause-err c = is_refused c.args.file.items c.bundle.result c.bundle.ensures

pub returns-clause-only : goal.returns-clause-only
returns-clause-only c = is_only c.args.file.items c.bundle.result c.bundle.ensures

pub returns-clause-fault : goal.returns-clause-fault
returns-clause-fault c = is_first c.args.file.items c.bundle.result c.bundle.ensures
