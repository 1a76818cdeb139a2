-- What is lent of a machine.
use Rattle.std.proofs.Common.{◌∙◌}
use Rattle.cloak_model.specs.Parts as model
use Rattle.joint_machine.specs.Standing.{StandsForJoint, LendsPager}
use Rattle.joint_machine.specs.declared.joint.Joint.{Joint}

pub lends_pager : (joint : Joint) (j : model.Joint) → StandsForJoint joint j → LendsPager joint.memory.pager j.memory
lends_pager joint j stands =
    let held = stands.memory in
    record { wiped = held.wiped; stands = held.pager; whole = λ none_missed q. held.whole (held.missed ∙ none_missed) q }
