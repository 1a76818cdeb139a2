use Rattle.alone_views.proofs.SideFollows.{put_follows, takes_noted}
use Rattle.alone_views.proofs.side.HandedSidePageSide.put.Goals as goal

pub returns-clause-follows : goal.returns-clause-follows
returns-clause-follows c = put_follows c.args.self.now c.take.new.self c.take.result _ _ _
    (takes_noted c.args.self.now c.note.new.self c.take.new.self c.take.result _ c.note.ensures.pages c.note.ensures.first
    c.note.ensures.second c.note.ensures.fit c.take.ensures.follows)
