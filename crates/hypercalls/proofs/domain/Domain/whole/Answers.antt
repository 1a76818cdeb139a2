use Rattle.std.proofs.Common.{◌≡◌, ap, subst}
use Rattle.std.specs.Prelude.{option_map}
use Rattle.cloak_model.specs.DomainState.{Control}
use Rattle.cloak_model.specs.Resources.{page_at, page_id, lookup}
use Rattle.hypercalls.specs.Standing.{number_of}
use Rattle.hypercalls.proofs.domain.Domain.whole.Goals as goal

pub returns : goal.returns
unfolding page_at
returns c va other page =
    ap (option_map (page_id (number_of c.args.self.now)))
    (subst (λ (d : Control). lookup d.resources c.args.space other ≡ lookup d.resources c.args.space va) c.control.view_is (c.whole.ensures va other page))
