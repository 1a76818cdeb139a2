use Rattle.std.proofs.Common.{◌≡◌}
use Rattle.cloak_model.specs.Joint.{Moment}
use Rattle.cloak_model.specs.Run.{joint_after, turns_from}
use Rattle.cloak_machine.specs.Standing.{StandsForMoment, steps_made}
use Rattle.cloak_model.specs.Run.{NoClashYet}
use Rattle.run_command.proofs.StepFacts.{GoesOn}
use Rattle.image_commands.proofs.demonstrating.run_unheard.Given as goal

-- the steps so far were made, and none stopped the run
abbrev pub invariant-loop-made : goal.invariant-loop-made
invariant-loop-made l = record {
  made : steps_made l.machine ≡ l.made;
  runs : (m : Moment) → StandsForMoment l.fn.machine m → NoClashYet (joint_after m.joint (turns_from l.steps m)) →
      GoesOn l.machine l.made l.steps m;
}
