use Rattle.std.proofs.Common.{◌≡◌, ◌<◌, ◌-◌, ℕ, false}
use Rattle.cloak_model.specs.Asking.{Keeps}
use Rattle.cloak_model.specs.AskPages.{is_marked}
use Rattle.cloak_pager.specs.State.{owed_at}
use Rattle.cloaked_side.specs.Holding.{frames_of}
use Rattle.cloaked_side.specs.Seeing.{StaysWithin}
use Rattle.cloaked_side.proofs.Cleared.{Clears}
use Rattle.cloaked_side.proofs.program_side.ProgramSide.clear_frames.Given as goal

-- what is left to be asked completes it
abbrev pub invariant-loop-i : goal.invariant-loop-i
invariant-loop-i g l = record {
  told : Clears g.E.Emit.gave l.fn.self.side l.self.side l.domain l.resources l.i (l.count - l.i) l.count;
  keeps : Keeps (StaysWithin g.E.Emit.gave) l.fn.self.side l.self.side;
  same_count : frames_of l.self.side.memory.now ≡ l.count;
  cleared : (k : ℕ) → k < l.i → is_marked l.domain l.resources (owed_at l.self.side.memory.now.pager k) ≡ false;
}
