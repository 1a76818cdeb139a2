use Rattle.std.proofs.lemmas.Bool.{true≢false}
use Rattle.hypercalls.proofs.Paged.{fits_read, read_as}
use Rattle.hypercalls.proofs.control.Control.from_state.Goals as goal

pub invariant_of-result : goal.invariant_of-result
invariant_of-result c =
    (fits_read c.args.number _ _ c.args.ended c.requires (c.in_ok-contexts.ensures.page c.args.number).program.limits, λ e. absurd (true≢false e))

pub returns : goal.returns
returns c = read_as c.args.number c.args.b.now _ _ c.args.ended c.in_ok-contexts.ensures
