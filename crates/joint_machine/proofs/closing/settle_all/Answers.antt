use Rattle.std.proofs.Common.{◌∙◌, [], arith}
use Rattle.cloak_model.specs.Joint.{cloak_outside}
use Rattle.cloak_model.proofs.Emitting.{emits_none, some_then}
use Rattle.cloaked_side.proofs.Sided.{same_size}
use Rattle.joint_machine.proofs.Closed.{outside_next, settles_none, settles_more}
use Rattle.joint_machine.proofs.closing.settle_all.Goals as goal

pub loop-i-init : goal.loop-i-init
loop-i-init g c = record {
  size = same_size;
  outside = λ k below. absurd (omega (arith, below));
  emits_some = ([], emits_none g.E.Emit.gave c.args.e.now);
  settles = λ m h holds. settles_none g.E.Emit.gave c.args.e.now c.args.memory.now m h holds;
}

pub loop-i-preserved : goal.loop-i-preserved
loop-i-preserved g c =
    let so_far = c.loop-i.invariant in
    record {
      size = record {
        frames = c.settle.ensures.same.frames ∙ so_far.size.frames;
        domains = c.settle.ensures.same.domains ∙ so_far.size.domains;
      };
      outside =
          outside_next c.loop-i.memory.pager c.settle.new.self.pager c.loop-i.i so_far.outside c.settle.ensures.stays
          c.settle.ensures.outside;
      emits_some =
          some_then so_far.emits_some c.settle.ensures.emits_some;
      settles = λ m h holds.
          settles_more g.E.Emit.gave c.args.e.now c.loop-i.e c.settle.new.e c.loop-i.memory c.settle.new.self c.loop-i.i
          (cloak_outside m h) (so_far.settles m h holds) c.settle.ensures.settles;
    }
