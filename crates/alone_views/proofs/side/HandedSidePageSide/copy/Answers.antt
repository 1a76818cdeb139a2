use Rattle.std.proofs.Common.{refl}
use Rattle.alone_views.proofs.SideFollows.{copy_follows}
use Rattle.alone_views.proofs.side.HandedSidePageSide.copy.Goals as goal

pub returns-clause-follows : goal.returns-clause-follows
returns-clause-follows c = copy_follows c.args.self.now _ c.args.arg2 c.args.from c.args.to c.requires.domain c.requires.cleared c.requires.to (record { same_domain = refl; answers = refl; unfit = refl })
    c.copy.ensures.inside c.copy.ensures.below c.copy.ensures.above
