use Rattle.cloak_pager.specs.declared.frame_right.FrameRight.TheVariants.{Changed}
use Rattle.cloak_pager.proofs.Keeping.{right_seen}
use Rattle.cloak_pager.proofs.Turned.{wipe_kept, wipe_turns}
use Rattle.cloak_pager.proofs.pager.Pager.wipe_frame.Goals as goal

pub invariant_of-self : goal.invariant_of-self
invariant_of-self c =
    let right = right_seen c.args.f.0 (Changed c.in-Changed.right) c.self.view_is c.self.invariant.whole
    c.requires.inside c.index_mut.ensures.value c.in-Changed.ensures.value in
    wipe_kept c.replace.new.dest c.self.invariant right c.wipe.ensures.bytes c.wipe.ensures.right

pub returns : goal.returns
returns c =
    let right = right_seen c.args.f.0 (Changed c.in-Changed.right) c.self.view_is c.self.invariant.whole
    c.requires.inside c.index_mut.ensures.value c.in-Changed.ensures.value in
    rw (← c.self.view_is)
    (wipe_turns c.replace.new.dest right c.wipe.ensures.bytes c.wipe.ensures.right)
