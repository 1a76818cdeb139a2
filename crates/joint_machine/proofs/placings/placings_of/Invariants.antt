use Rattle.std.proofs.Common.{◌≡◌, map, take, length}
use Rattle.joint_machine.specs.Placings.{placing}
use Rattle.joint_machine.proofs.placings.placings_of.Given as goal

-- those of the programs so far
abbrev pub invariant-loop-p : goal.invariant-loop-p
invariant-loop-p l = record {
  items : l.placings.items ≡ map placing (take l.p-index l.programs);
  count : length l.placings.items ≡ l.p-index;
}
