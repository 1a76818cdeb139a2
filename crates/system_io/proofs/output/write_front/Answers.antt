use Rattle.std.proofs.Common.{arith, length-drop, ◌≤◌, length, drop, sym}
use Rattle.io_traits.proofs.Pieces.{rest_after}
use Rattle.system_io.proofs.Writes.{append_known-more, append_known-nil}
use Rattle.system_io.proofs.output.write_front.Goals as goal

pub loop-n-init : goal.loop-n-init
loop-n-init g c = record { within = omega arith; told = sym (append_known-nil _) }

pub loop-n-preserved : goal.loop-n-preserved
loop-n-preserved g c = record {
  within =
      let bound : c.in-Ok.more ≤ length (drop c.loop-n.n c.args.piece.now) =
      rw (rest_after c.args.piece.now c.loop-n.n) at c.in-Ok.ensures.count in
      let len = length-drop c.loop-n.n c.args.piece.now in
      omega (arith, bound, len);
  told = append_known-more _ _ _ c.args.piece.now _ c.loop-n.n c.in-Ok.more
      (rest_after c.args.piece.now c.loop-n.n) c.loop-n.invariant.told c.in-Ok.ensures.ok;
}
