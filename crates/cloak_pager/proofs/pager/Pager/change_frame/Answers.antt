use Rattle.cloak_pager.specs.declared.frame_right.FrameRight.TheVariants.{Clean}
use Rattle.cloak_pager.proofs.Keeping.{right_seen}
use Rattle.cloak_pager.proofs.Turned.{change_kept, change_turns}
use Rattle.cloak_pager.proofs.pager.Pager.change_frame.Goals as goal

pub invariant_of-self : goal.invariant_of-self
invariant_of-self c =
    let right = right_seen c.args.g.0 (Clean c.in-Clean.right) c.self.view_is c.self.invariant.whole c.requires.inside
    c.index_mut.ensures.value c.in-Clean.ensures.value in
    change_kept c.replace.new.dest c.self.invariant right c.change.ensures

pub returns : goal.returns
returns c =
    let right = right_seen c.args.g.0 (Clean c.in-Clean.right) c.self.view_is c.self.invariant.whole c.requires.inside
    c.index_mut.ensures.value c.in-Clean.ensures.value in
    rw (← c.self.view_is)
    (change_turns c.replace.new.dest right c.change.ensures)
