-- That no two pages clashed: what clashed once stays so, so none did before.
use Rattle.std.proofs.Common.{ℕ, zero, suc, List, Option, Some, None}
use Rattle.cloak_base.specs.declared.causes.Stop.{Stop}
use Rattle.cloak_model.specs.declared.image.Bundle.{Bundle}
use Rattle.cloak_model.specs.Joint.{Moment, Turn, joint_step, next_hart, after_turn, stop_of}
use Rattle.cloak_model.specs.Opening.{RunEdge}
use Rattle.cloak_model.specs.Run.{first_moment, joint_after, run_of, turns_from, unless_stopped}
use Rattle.joint_machine.proofs.Clashed.{closing_unclashed, step_unclashed}
use Rattle.cloak_model.specs.Run.{NoClash, NoClashYet}

before_step : (m : Moment) → NoClashYet (joint_step m).joint → NoClashYet m.joint
unfolding joint_step
before_step m none = step_unclashed m.joint (next_hart m) none

-- what follows a step, if none clashed in what may follow it
pub rest_unclashed : (stopped : Option Stop) (more : Moment → List Turn) (m : Moment) →
    (NoClashYet (joint_after m.joint (more m)) → NoClashYet m.joint) →
    NoClashYet (joint_after m.joint (unless_stopped stopped more m)) → NoClashYet m.joint
unfolding joint_after
rest_unclashed (Some cause) more m before none = none
rest_unclashed None more m before none = before none

pub turns_unclashed : (n : ℕ) (m : Moment) → NoClashYet (joint_after m.joint (turns_from n m)) → NoClashYet m.joint
unfolding turns_from joint_after
turns_unclashed zero m none = none
turns_unclashed (suc n) m none =
    let t = joint_step m in
    before_step m
    (rest_unclashed (stop_of t) (turns_from n) (after_turn m t) (turns_unclashed n (after_turn m t)) none)

-- and none clashed after the steps of a run in which none did
pub run_unclashed : (b : Bundle) (steps : ℕ) (o : RunEdge) → NoClash (run_of b steps o) →
    NoClashYet (joint_after o.joint (turns_from steps (first_moment b o.joint)))
unfolding run_of
run_unclashed b steps o none = closing_unclashed (joint_after o.joint (turns_from steps (first_moment b o.joint))) none
