use Rattle.std.proofs.Common.{◌≡◌, List}
use Rattle.cloak_model.specs.declared.image.Bundle.{Bundle}
use Rattle.cloak_model.specs.Items.{Item}
use Rattle.replayed_run.specs.Machines.{StandAlone}
use Rattle.replayed_run.specs.Noted as noted
use Rattle.replayed_run.proofs.watch.Watch.is_left.Given as goal

-- none of the contexts so far is in the space
abbrev pub invariant-loop-slot : goal.invariant-loop-slot
invariant-loop-slot l = (b : Bundle) (items : List Item) → StandAlone b items l.self.machines →
    l.left ≡ noted.is_left b items l.space l.slot
