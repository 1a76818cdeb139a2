use Rattle.std.proofs.Common.{arith, length-drop, ◌≤◌, length, drop}
use Rattle.io_traits.proofs.Pieces.{rest_after}
use Rattle.system_io.proofs.Held.{Extends-none, Extends-more}
use Rattle.system_io.proofs.file_system.write_front.Goals as goal

pub loop-n-init : goal.loop-n-init
loop-n-init g c = record { within = omega arith; named = λ _ is. is; told = λ name _. Extends-none _ name }

pub loop-n-preserved : goal.loop-n-preserved
loop-n-preserved g c = record {
  within =
      let bound : c.in-Ok.more ≤ length (drop c.loop-n.n c.args.piece.now) =
      rw (rest_after c.args.piece.now c.loop-n.n) at c.in-Ok.ensures.count in
      let len = length-drop c.loop-n.n c.args.piece.now in
      omega (arith, bound, len);
  named = λ name is. c.in-Ok.ensures.name name (c.loop-n.invariant.named name is);
  told = λ name is. Extends-more _ _ _ name c.args.piece.now _ c.loop-n.n c.in-Ok.more
      (rest_after c.args.piece.now c.loop-n.n) (c.loop-n.invariant.told name is)
      (c.in-Ok.ensures.ok name (c.loop-n.invariant.named name is));
}
