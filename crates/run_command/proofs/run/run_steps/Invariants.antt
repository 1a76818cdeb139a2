use Rattle.std.proofs.Common.{◌≡◌, ◌≤◌, ◌+◌, ◌-◌}
use Rattle.cloak_model.specs.Exchange.{EmitsSome}
use Rattle.cloak_model.specs.Joint.{Moment}
use Rattle.cloak_model.specs.Run.{joint_after, turns_from}
use Rattle.cloak_machine.specs.Standing.{StandsForMoment, steps_made}
use Rattle.run_command.specs.Outlet.{Gave}
use Rattle.cloak_model.specs.Run.{NoClashYet}
use Rattle.run_command.proofs.RunFacts.{GoesOn}
use Rattle.run_command.proofs.run.run_steps.Given as goal

-- the steps so far were emitted, and none stopped the run
abbrev pub invariant-loop-left : goal.invariant-loop-left
invariant-loop-left g l = record {
  same_shelf : l.outlet.pen.shelf.ghost_name ≡ l.fn.outlet.pen.shelf.ghost_name;
  same_out : l.outlet.out.ghost_name ≡ l.fn.outlet.out.ghost_name;
  few : l.left ≤ l.steps;
  made : steps_made l.machine + l.left ≡ steps_made l.fn.machine + l.steps;
  some : EmitsSome (Gave g.S.Shelf g.O.Sink) l.fn.outlet l.outlet;
  runs : (m : Moment) → StandsForMoment l.fn.machine m → NoClashYet (joint_after m.joint (turns_from l.steps m)) →
      GoesOn (Gave g.S.Shelf g.O.Sink) l.fn.outlet l.outlet l.machine (l.steps - l.left) l.steps m;
}

abbrev pub decreases-loop-left : goal.decreases-loop-left
decreases-loop-left g l = l.left
