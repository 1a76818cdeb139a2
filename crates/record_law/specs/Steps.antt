-- The moment after steps of a run.
use Rattle.std.specs.Prelude.{◌+◌, List, length}
use Rattle.cloak_model.specs.Joint.{Turn}
use Rattle.cloak_model.specs.Joint.{Moment}
use Rattle.cloak_model.specs.Run.{joint_after}

-- the moment after these steps
abbrev pub moment_after : Moment → List Turn → Moment
moment_after m turns = record {
  schedule = m.schedule;
  steps = m.steps + length turns;
  joint = joint_after m.joint turns;
}
