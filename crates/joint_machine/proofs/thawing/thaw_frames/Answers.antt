use Rattle.std.proofs.Common.{refl, arith, subst, All}
use Rattle.std.proofs.lemmas.List.{take_all}
use Rattle.frozen_state.specs.Refusing.{IsWholeFrame}
use Rattle.joint_machine.proofs.Thaws.{get_there, next_bytes, next_nowhere_if, next_outside, next_page_if, thaws_all, thaws_next, thaws_none}
use Rattle.joint_machine.proofs.thawing.thaw_frames.Goals as goal

pub loop-f-init : goal.loop-f-init
loop-f-init c = thaws_none c.args.pager.now c.args.frames.now

pub thaw_frame-requires-clause-inside : goal.thaw_frame-requires-clause-inside
thaw_frame-requires-clause-inside c = omega (arith, c.loop-f-test.true, c.loop-f.invariant.count, c.requires.count)

pub thaw_frame-requires-clause-outside : goal.thaw_frame-requires-clause-outside
thaw_frame-requires-clause-outside c =
    next_outside c.args.pager.now c.loop-f.pager c.args.frames.now c.loop-f.f c.loop-f.invariant c.requires.outside
    c.loop-f-test.true

pub thaw_frame-requires-clause-bytes : goal.thaw_frame-requires-clause-bytes
thaw_frame-requires-clause-bytes c =
    next_bytes c.args.pager.now c.loop-f.pager c.args.frames.now c.loop-f.f _ c.loop-f.invariant c.requires.outside
    (get_there c.args.frames.now c.loop-f.f _ c.loop-f-test.true)

pub thaw_frame-requires-clause-page : goal.thaw_frame-requires-clause-page
thaw_frame-requires-clause-page c =
    next_page_if c.args.pager.now c.loop-f.pager c.args.frames.now c.loop-f.f _ c.loop-f.invariant c.requires.pages
    (get_there c.args.frames.now c.loop-f.f _ c.loop-f-test.true)

pub thaw_frame-requires-clause-nowhere : goal.thaw_frame-requires-clause-nowhere
thaw_frame-requires-clause-nowhere c =
    next_nowhere_if c.args.pager.now c.loop-f.pager c.args.frames.now c.loop-f.f _ c.loop-f.invariant c.requires.outside
    c.requires.once (get_there c.args.frames.now c.loop-f.f _ c.loop-f-test.true)

pub returns-then-not-thaw_frame-clause-changed : goal.returns-then-not-thaw_frame-clause-changed
returns-then-not-thaw_frame-clause-changed c = record {
  x = _;
  there = get_there c.args.frames.now c.loop-f.f _ c.loop-f-test.true;
  changed = c.if-not-thaw_frame.ensures.changed refl;
  earlier = c.loop-f.invariant.whole;
}

pub loop-f-preserved : goal.loop-f-preserved
loop-f-preserved c =
    thaws_next c.args.pager.now c.loop-f.pager c.thaw_frame.new.pager c.args.frames.now c.loop-f.f _ c.loop-f.invariant
    (get_there c.args.frames.now c.loop-f.f _ c.loop-f-test.true) c.thaw_frame.ensures.stays c.thaw_frame.ensures.metas
    (c.if-not-thaw_frame.ensures.thawed refl) (c.if-not-thaw_frame.ensures.whole refl)

pub returns-clause-thawed : goal.returns-clause-thawed
returns-clause-thawed c =
    thaws_all c.args.pager.now c.loop-f.pager c.args.frames.now c.loop-f.f c.loop-f.invariant c.loop-f-test.false

pub returns-clause-whole : goal.returns-clause-whole
returns-clause-whole c =
    subst (All IsWholeFrame) (take_all c.loop-f.f c.args.frames.now c.loop-f-test.false) c.loop-f.invariant.whole
