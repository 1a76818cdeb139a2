use Rattle.alone_views.proofs.SideFollows.{clear_follows}
use Rattle.alone_views.proofs.side.HandedSidePageSide.clear.Goals as goal

pub returns-clause-follows : goal.returns-clause-follows
returns-clause-follows c = clear_follows c.args.self.now c.take.new.self c.take.result _ _ c.take.ensures.follows
