use Rattle.std.proofs.Common.{refl}
use Rattle.alone_views.proofs.SideFollows.{forget_follows}
use Rattle.alone_views.proofs.side.HandedSidePageSide.forget.Goals as goal

pub returns-clause-follows : goal.returns-clause-follows
returns-clause-follows c = forget_follows c.args.self.now _ c.args.arg2 c.args.resource c.requires.domain (record { same_domain = refl; answers = refl; unfit = refl }) c.wipe.ensures.inside c.wipe.ensures.below c.wipe.ensures.above
