use Rattle.cloak_pager.specs.declared.frame_right.FrameRight.TheVariants.{Changed}
use Rattle.cloak_pager.proofs.Keeping.{right_seen}
use Rattle.cloak_pager.proofs.Turned.{seal_kept, seal_turns}
use Rattle.cloak_pager.proofs.pager.Pager.seal_frame.Goals as goal

pub invariant_of-self : goal.invariant_of-self
invariant_of-self c =
    let right = right_seen c.args.f.0 (Changed c.in-Changed.right) c.self.view_is c.self.invariant.whole
    c.requires.inside c.index_mut.ensures.value c.in-Changed.ensures.value in
    seal_kept _ c.args.iv c.page-page.result c.seal-right.result.1 c.replace.new.dest c.self.invariant right
    c.seal-right.ensures.bytes c.set.ensures c.seal-right.ensures.right

pub returns : goal.returns
returns c =
    let right = right_seen c.args.f.0 (Changed c.in-Changed.right) c.self.view_is c.self.invariant.whole
    c.requires.inside c.index_mut.ensures.value c.in-Changed.ensures.value in
    rw (← c.self.view_is)
    (seal_turns c.seal-right.result.1 c.replace.new.dest right c.of.ensures c.seal-right.ensures.bytes
    c.seal-right.ensures.digest c.seal-right.ensures.iv c.page-page.ensures c.set.ensures c.seal-right.ensures.right)
