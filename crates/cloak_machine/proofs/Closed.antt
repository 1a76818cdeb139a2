-- The parts of a machine that was closed.
use Rattle.std.proofs.Common.{◌≡◌, ◌∙◌, ℕ, List, refl, sym, ap, subst}
use Rattle.cloak_model.specs.Parts as model
use Rattle.cloak_model.specs.Run.{closing}
use Rattle.cloaked_side.specs.Holding.{Holds}
use Rattle.cloaked_side.specs.declared.memory.Memory.{Memory}
use Rattle.joint_machine.specs.Standing.{AreDomains, StandsForJoint}
use Rattle.joint_machine.specs.declared.joint.Joint.{Joint}
use Rattle.joint_machine.specs.declared.reading.JointParts.{JointParts}
use Rattle.kernel_report.specs.Console.{ConsoleShows}
use Rattle.kernel_report.specs.declared.console.Console.{Console}
use Rattle.cloak_machine.specs.Standing.{ArePartsOf}
use Rattle.cloak_machine.proofs.Stepping.{closed_console}

pub are_parts : {joint : Joint} {parts : JointParts} {j : model.Joint} → StandsForJoint joint j →
    parts.harts ≡ joint.harts → parts.memory ≡ joint.memory → parts.domains ≡ joint.domains → parts.disk ≡ joint.disk →
    parts.ended ≡ joint.ended → parts.refused ≡ joint.refused → ArePartsOf parts j
are_parts {joint} {parts} {j} stands harts memory domains disk ended refused = record {
  harts = ap (λ (x : _). x.items) harts ∙ stands.harts;
  disk = disk ∙ stands.disk;
  memory = subst (λ (x : Memory). Holds x j.memory) (sym memory) stands.memory;
  domains = subst (λ (x : _). AreDomains x.items j.domains) (sym domains) stands.domains;
  ended = ended ∙ stands.ended;
  refused = refused ∙ stands.refused;
}

-- the console that is known is that of the closed machine
pub console_closed : {console : Console} (j : model.Joint) → ConsoleShows console j.console →
    ConsoleShows console (closing j).joint.console
console_closed {console} j shows =
    subst (λ (bytes : List ℕ). ConsoleShows console bytes) (sym (closed_console j)) shows
