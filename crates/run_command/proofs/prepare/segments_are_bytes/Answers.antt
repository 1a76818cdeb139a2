use Rattle.std.proofs.Common.{subst}
use Rattle.cloak_model.specs.declared.image.Segment.{Segment}
use Rattle.range_law.specs.Writing.{AreBytes}
use Rattle.run_command.proofs.PrepareFacts.{all_so_far, all_at_end}
use Rattle.run_command.proofs.prepare.segments_are_bytes.Goals as goal

pub loop-segment-preserved : goal.loop-segment-preserved
loop-segment-preserved c =
    all_so_far (λ (x : Segment). AreBytes x.bytes) c.args.segments.now c.loop-segment.segment-index c.segment-item.result c.segment-item.is
    c.loop-segment.invariant (subst AreBytes c.as_slice.ensures c.are_bytes.ensures)

pub returns : goal.returns
returns c =
    all_at_end (λ (x : Segment). AreBytes x.bytes) c.args.segments.now c.loop-segment.segment-index c.loop-segment-test.false
    c.loop-segment.invariant
