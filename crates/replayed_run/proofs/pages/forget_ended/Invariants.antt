use Rattle.std.proofs.Common.{◌≡◌, ◌++◌, List, map, take, drop}
use Rattle.cloak_model.specs.declared.image.Bundle.{Bundle}
use Rattle.cloak_model.specs.Items.{Item}
use Rattle.replayed_run.specs.Machines.{StandAlone}
use Rattle.replayed_run.specs.PagesTold as spec
use Rattle.replayed_run.proofs.pages.forget_ended.Given as goal

-- the pages so far are forgotten
abbrev pub invariant-loop-place : goal.invariant-loop-place
invariant-loop-place l = (b : Bundle) (items : List Item) → StandAlone b items l.machines →
    l.last ≡ map (spec.forgotten b items l.domain) (take l.place l.fn.last) ++ drop l.place l.fn.last
