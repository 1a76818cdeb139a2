use Rattle.std.proofs.Common.{◌≡◌, ◌<◌, take, map, All}
use Rattle.cloak_model.specs.declared.image.Program.{Program}
use Rattle.cloak_model.specs.Opening.{filled_up}
use Rattle.joint_machine.proofs.drawing.groups_of.Given as goal

abbrev pub invariant-loop-domain : goal.invariant-loop-domain
invariant-loop-domain l = record {
  filled : l.groups ≡ filled_up 0 (map (λ (p : Program). p.key) (take l.domain l.programs));
  low : All (λ g. g < 4) l.groups;
}
