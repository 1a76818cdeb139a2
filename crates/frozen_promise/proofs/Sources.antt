-- What two commands take from the files that their words name is one.
use Rattle.std.proofs.Common.{◌≡◌, ℕ, List, Option, Some, None, sym, ap, subst}
use Rattle.std.specs.Prelude.{IfSome, option_and_then, option_map}
use Rattle.cloak_base.specs.Random.{Random}
use Rattle.cloak_model.specs.declared.image.Bundle.{Bundle}
use Rattle.cloak_model.specs.Bundle.{IsBundleIn}
use Rattle.cloak_model.specs.Parts.{Joint}
use Rattle.command_words.specs.Command as spec
use Rattle.frozen_state.specs.declared.frozen.Frozen.{Frozen}
use Rattle.frozen_state.specs.declared.frozen.FrozenDomain.{FrozenDomain}
use Rattle.frozen_state.specs.declared.frozen.FrozenFrame.{FrozenFrame}
use Rattle.frozen_state.specs.FrozenState.{frames_from, frozen_of, frozen_with}
use Rattle.guest_bundle.proofs.Only.{one_bundle}
use Rattle.command_parts.specs.Bundles.{IsInFileAs}

-- The words say what is asked for.

-- An image that is told is one.
pub one_image : {version other : ℕ} {told : Option (List ℕ)} {image bytes : List ℕ} {b c : Bundle} → told ≡ Some image →
    IsBundleIn version image b → IsInFileAs other told bytes c → (bytes ≡ image) × (c ≡ b)
one_image {version} {other} {told} {image} {bytes} {b} {c} tells is_image file =
    let same : bytes ≡ image =
    sym (subst (λ (o : Option (List ℕ)). IfSome o (λ known. known ≡ bytes)) tells file.file) in
    let is : IsBundleIn other image c = subst (λ (l : List ℕ). IsBundleIn other l c) same file.is in
    (same, one_bundle image c b (other, is) (version, is_image))

-- The number of steps is in the state.

steps_with : (j : Joint) (n : ℕ) (f : Frozen) (domains : List FrozenDomain) (x : Option (List FrozenFrame × Random)) →
    option_map (λ (frames : List FrozenFrame × Random). frozen_with j n domains frames.0) x ≡ Some f → f.steps ≡ n
unfolding frozen_with
steps_with j n f domains None is = absurd (let clash : None ≡ Some f = is in cc)
steps_with j n f domains (Some frames) is =
    let same : f ≡ frozen_with j n domains frames.0 = cc in ap (λ (g : Frozen). g.steps) same

steps_after : (j : Joint) (n : ℕ) (f : Frozen) (x : Option (List FrozenDomain × Random)) →
    option_and_then (λ (domains : List FrozenDomain × Random).
    option_map (λ (frames : List FrozenFrame × Random). frozen_with j n domains.0 frames.0)
    (frames_from j.memory 0 j.memory.ram domains.1)) x ≡ Some f → f.steps ≡ n
steps_after j n f None is = absurd (let clash : None ≡ Some f = is in cc)
steps_after j n f (Some domains) is =
    steps_with j n f domains.0 (frames_from j.memory 0 j.memory.ram domains.1) is

pub steps_in : (j : Joint) (n : ℕ) (ivs : Random) (f : Frozen) → frozen_of j n ivs ≡ Some f → f.steps ≡ n
unfolding frozen_of
steps_in j n ivs f is = steps_after j n f _ is
