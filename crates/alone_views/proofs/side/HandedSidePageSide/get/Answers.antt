use Rattle.alone_views.proofs.SideFollows.{get_follows, takes_noted}
use Rattle.alone_views.proofs.side.HandedSidePageSide.get.Goals as goal

pub returns-clause-follows : goal.returns-clause-follows
returns-clause-follows c = get_follows c.args.self.now c.take-taken.new.self c.take-taken.result c.of_width.result _ _ c.of_width.ensures
    (takes_noted c.args.self.now c.note.new.self c.take-taken.new.self c.take-taken.result _ c.note.ensures.pages c.note.ensures.first
    c.note.ensures.second c.note.ensures.fit c.take-taken.ensures.follows)
