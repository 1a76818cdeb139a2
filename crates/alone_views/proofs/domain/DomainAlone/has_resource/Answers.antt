use Rattle.std.proofs.Common.{◌≡◌, ◌∙◌, ℕ, Option, Some, None, is_some, option_map, refl, ap, sym}
use Rattle.cloak_model.specs.DomainState.{Control}
use Rattle.cloak_model.specs.Resources.{resource_at}
use Rattle.cloak_model.specs.declared.resource.Resource.{Resource}
use Rattle.alone_views.proofs.domain.DomainAlone.has_resource.Goals as goal

still_there : (held : Option Resource) → is_some (option_map (λ (r : Resource). r.pages) held) ≡ is_some held
still_there None = refl
still_there (Some held) = refl

pub returns : goal.returns
returns c = λ number schedule s stands fits.
    c.is_some.ensures
    ∙ (ap (λ (o : Option ℕ). is_some o) c.pages.ensures
    ∙ (still_there _
    ∙ ap (λ (d : Control). is_some (resource_at d.resources c.args.resource))
    (sym (stands.state.while_fit fits).part.domain.control)))
