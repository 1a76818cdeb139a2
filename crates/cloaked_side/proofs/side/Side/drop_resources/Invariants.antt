use Rattle.std.proofs.Common.{◌<◌, ℕ}
use Rattle.cloak_model.specs.Asking.{Keeps}
use Rattle.cloak_model.specs.Fork.{forget_each}
use Rattle.cloak_model.specs.Opening.{numbers_below}
use Rattle.cloak_model.specs.Script.{played}
use Rattle.cloak_pager.specs.State.{IsNoneHeld}
use Rattle.cloaked_side.specs.Seeing.{FollowsAlways, StaysWithin}
use Rattle.cloaked_side.proofs.side.Side.drop_resources.Given as goal

abbrev pub invariant-loop-n : goal.invariant-loop-n
invariant-loop-n g l = record {
  told : FollowsAlways g.E.Emit.gave l.fn.self l.self (tt {0}) (played (forget_each l.domain (numbers_below l.n)));
  keeps : Keeps (StaysWithin g.E.Emit.gave) l.fn.self l.self;
  none : (r : ℕ) → r < l.n → IsNoneHeld l.self.memory.now.pager l.domain r;
}
