use Rattle.std.proofs.Common.{◌<◌, ℕ, sym, subst}
use Rattle.cloaked_side.proofs.Ended.{asked_end}
use Rattle.cloaked_side.proofs.Sided.{within_of}
use Rattle.cloaked_side.proofs.side.Side.end_domain.Goals as goal

pub drop_resources-requires-clause-domain : goal.drop_resources-requires-clause-domain
drop_resources-requires-clause-domain g c =
    let kept = within_of g.E.Emit.gave c.args.self.now c.settle_owed.new.self c.settle_owed.ensures.keeps in
    subst (λ (k : ℕ). c.args.domain < k) (sym kept.stays.size.domains) c.requires.there

pub returns-clause-told : goal.returns-clause-told
returns-clause-told g c first w sees =
    asked_end g.E.Emit.gave first c.args.self.now c.settle_owed.new.self c.drop_resources.new.self c.args.domain w sees
    (λ v seen. c.settle_owed.ensures.sees first v seen) (λ v seen. c.drop_resources.ensures.told first v seen)
