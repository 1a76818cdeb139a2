use Rattle.std.proofs.Common.{◌≡◌, ◌∙◌, ℕ, ◌<◌, List, length, Result, Ok, Err, IfOk, sym, ap, subst, arith}
use Rattle.std.proofs.lemmas.List.Elements.{All-from_get_or}
use Rattle.cloak_model.specs.declared.image.KernelImage.{KernelImage}
use Rattle.cloak_model.specs.StoreFault.{body_of}
use Rattle.frozen_state.specs.declared.fault.FrozenFault.{FrozenFault}
use Rattle.frozen_state.specs.declared.frozen.Frozen.{Frozen}
use Rattle.frozen_state.specs.FrozenFault.{form_fault, frozen_fault}
use Rattle.frozen_state.specs.Ranges.{IsFrozen}
use Rattle.field_facts.proofs.Stands.{AreBytes}
use Rattle.frozen_run.specs.Reading.{TellsFirst, frozen_in}
use Rattle.frozen_run.specs.Shapes.{HasShape}
use Rattle.frozen_run.proofs.Whole.{is_frozen}
use Rattle.frozen_run.proofs.Laws.{read_again}
use Rattle.frozen_run.proofs.reading.read_frozen.Goals as goal

is_state : (k : KernelImage) (programs : ℕ) (bundle file body : List ℕ) (r : Result Frozen FrozenFault) → AreBytes file →
    frozen_fault bundle k programs file ≡ form_fault body k programs → body ≡ body_of file →
    TellsFirst r (form_fault body k programs) → IfOk r (λ f. f ≡ frozen_in body k programs) →
    IfOk r (IsFrozen k programs bundle file)
is_state k programs bundle file body (Ok f) are same is none value =
    subst (IsFrozen k programs bundle file) (sym (value ∙ ap (λ (b : List ℕ). frozen_in b k programs) is))
    (is_frozen k programs bundle file are (same ∙ none))
is_state k programs bundle file body (Err e) are same is none value = tt

is_only : (k : KernelImage) (programs : ℕ) (bundle file body : List ℕ) (r : Result Frozen FrozenFault) →
    length bundle ≡ 32 → body ≡ body_of file → IfOk r (λ f. f ≡ frozen_in body k programs) → (f : Frozen) → HasShape f →
    IsFrozen k programs bundle file f → IfOk r (λ read. read ≡ f)
is_only k programs bundle file body (Ok g) long is value f shape state =
    value ∙ ap (λ (b : List ℕ). frozen_in b k programs) is ∙ read_again k programs bundle file f shape long state
is_only k programs bundle file body (Err e) long is value f shape state = tt

pub returns-clause-state : goal.returns-clause-state
returns-clause-state c =
    is_state c.args.k.now c.args.programs c.args.bundle.now c.args.b.now c.in_ok-body.body.now c.form.result
    (All-from_get_or (λ b. b < 256) c.args.b.now 0 (λ i _. (c.type_inv.b i).fits))
    (c.in_ok-body.ensures.fault c.args.k.now c.args.programs) c.in_ok-body.ensures.body c.form.ensures.fault
    c.form.ensures.value

pub returns-clause-only : goal.returns-clause-only
returns-clause-only c = λ f shape state.
    let long : length c.args.bundle.now ≡ 32 = omega (arith, c.told-bundle) in
    is_only c.args.k.now c.args.programs c.args.bundle.now c.args.b.now c.in_ok-body.body.now c.form.result long
    c.in_ok-body.ensures.body c.form.ensures.value f shape state
