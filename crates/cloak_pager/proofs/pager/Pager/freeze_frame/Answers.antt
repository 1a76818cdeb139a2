use Rattle.cloak_pager.specs.declared.frame_right.FrameRight.TheVariants.{Changed}
use Rattle.cloak_pager.proofs.Keeping.{right_seen}
use Rattle.cloak_pager.proofs.Writes.{whole_now}
use Rattle.cloak_pager.proofs.Frozen.{freeze_kept, freezes, owed_inside, froze_right, froze_stays}
use Rattle.cloak_pager.proofs.pager.Pager.freeze_frame.Goals as goal

pub invariant_of-self : goal.invariant_of-self
invariant_of-self c =
    let inside = owed_inside c.args.self.now c.args.f.0 c.self.view_is c.self.invariant.whole c.requires in
    let right = right_seen c.args.f.0 (Changed c.in-Changed.right) c.self.view_is c.self.invariant.whole inside
    c.index_mut.ensures.value c.in-Changed.ensures.value in
    freeze_kept _ c.args.iv c.replace.new.dest c.self.invariant right c.seal-right.ensures.bytes
    c.seal-right.ensures.right

pub returns-clause-state : goal.returns-clause-state
returns-clause-state c =
    let inside = owed_inside c.args.self.now c.args.f.0 c.self.view_is c.self.invariant.whole c.requires in
    let right = right_seen c.args.f.0 (Changed c.in-Changed.right) c.self.view_is c.self.invariant.whole inside
    c.index_mut.ensures.value c.in-Changed.ensures.value in
    rw (← c.self.view_is)
    (freezes c.seal-right.result.1 c.replace.new.dest right c.of.ensures c.seal-right.ensures.bytes
    c.seal-right.ensures.digest c.seal-right.ensures.iv c.page-page.ensures c.seal-right.ensures.right)

pub returns-clause-outside : goal.returns-clause-outside
returns-clause-outside c =
    froze_right c.args.self.now _ c.args.f.0 _ _ (whole_now _ _ c.self.view_is c.self.invariant.whole)
    (owed_inside c.args.self.now c.args.f.0 c.self.view_is c.self.invariant.whole c.requires) (returns-clause-state c)

pub returns-clause-stays : goal.returns-clause-stays
returns-clause-stays c = froze_stays c.args.self.now _ c.args.f.0 _ _ (returns-clause-state c)
