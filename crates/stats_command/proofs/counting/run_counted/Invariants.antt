use Rattle.std.proofs.Common.{◌≡◌, take}
use Rattle.cloak_model.specs.Joint.{Moment}
use Rattle.cloak_model.specs.Run.{joint_after, turns_from}
use Rattle.cloak_machine.specs.Counting.{CountsAccesses}
use Rattle.cloak_machine.specs.Standing.{StandsForMoment, steps_made}
use Rattle.run_command.proofs.StepFacts.{GoesOn}
use Rattle.cloak_model.specs.Run.{NoClashYet}
use Rattle.shadow_fold.specs.Events.{after_turns}
use Rattle.shadow_fold.specs.Fold.{Fold}
use Rattle.stats_command.proofs.counting.run_counted.Given as goal

-- the steps so far were made and counted, and none stopped the run
abbrev pub invariant-loop-made : goal.invariant-loop-made
invariant-loop-made l = record {
  made : steps_made l.machine ≡ l.made;
  runs : (m : Moment) → StandsForMoment l.fn.machine m → NoClashYet (joint_after m.joint (turns_from l.steps m)) →
      GoesOn l.machine l.made l.steps m;
  counts : (m : Moment) (s : Fold) → StandsForMoment l.fn.machine m → CountsAccesses l.fn.machine s →
      NoClashYet (joint_after m.joint (turns_from l.steps m)) →
      CountsAccesses l.machine (after_turns m (take l.made (turns_from l.steps m)) s);
}
