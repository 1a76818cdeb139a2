use Rattle.std.proofs.Common.{◌≡◌, List, length}
use Rattle.cloak_model.specs.declared.image.Bundle.{Bundle}
use Rattle.cloak_model.specs.Items.{Item, item_of}
use Rattle.replayed_run.specs.Machines.{ProgramsStand}
use Rattle.replayed_run.proofs.Followed.{AreGiven, AreLeft}
use Rattle.replayed_run.proofs.machines.give_programs.Given as goal

-- the programs so far took the item, and the others are as they were
abbrev pub invariant-loop-number : goal.invariant-loop-number
invariant-loop-number l = record {
  count : length l.programs ≡ length l.fn.programs;
  given : (b : Bundle) (items : List Item) → ProgramsStand b items l.fn.programs →
      AreGiven b items (item_of l.item) l.programs l.number;
  left : AreLeft l.fn.programs l.programs l.number;
}
