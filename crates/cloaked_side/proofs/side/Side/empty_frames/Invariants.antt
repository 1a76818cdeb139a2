use Rattle.std.proofs.Common.{◌≡◌, ◌<◌, ℕ, Some, false}
use Rattle.cloak_base.specs.declared.names.PageId.{PageId}
use Rattle.cloak_base.specs.Pages.{is_of}
use Rattle.cloak_model.specs.Asking.{Keeps}
use Rattle.cloak_pager.specs.State.{held_in}
use Rattle.cloaked_side.specs.Holding.{frames_of}
use Rattle.cloaked_side.specs.Seeing.{ShowsOn, StaysWithin}
use Rattle.cloaked_side.specs.Tracking.{TracksBy}
use Rattle.cloaked_side.proofs.Tracking.{emptied_below}
use Rattle.cloaked_side.proofs.side.Side.empty_frames.Given as goal

abbrev pub invariant-loop-i : goal.invariant-loop-i
invariant-loop-i g l = record {
  shows : ShowsOn g.E.Emit.gave l.fn.self l.self;
  tracks : TracksBy l.fn.self.memory.now l.self.memory.now (emptied_below (is_of l.domain l.resource) l.i);
  keeps : Keeps (StaysWithin g.E.Emit.gave) l.fn.self l.self;
  same_count : frames_of l.self.memory.now ≡ l.count;
  away : (k : ℕ) → k < l.i → (q : PageId) → held_in l.self.memory.now.pager k ≡ Some q →
      is_of l.domain l.resource q ≡ false;
}
