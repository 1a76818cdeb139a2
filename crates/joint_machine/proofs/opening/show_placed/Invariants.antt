use Rattle.cloak_model.specs.Exchange.{Emits, item_pieces}
use Rattle.cloak_model.specs.Opening.{numbers_below}
use Rattle.joint_machine.specs.Starting.{IsReadOnly, placed_among}
use Rattle.joint_machine.proofs.opening.show_placed.Given as goal

-- the frames so far
abbrev pub invariant-loop-f : goal.invariant-loop-f
invariant-loop-f g l = record {
  read : IsReadOnly l.fn.memory l.memory;
  emits : Emits g.E.Emit.gave l.fn.e l.e
      (item_pieces (placed_among l.placings l.fn.memory.pager.frames (numbers_below l.f)));
}
