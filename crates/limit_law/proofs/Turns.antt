-- A step of the joint run: programs keep their limits, whoever makes it.
use Rattle.std.proofs.Common.{◌<◌, List, slice_get, Option, Some, None, IfSome}
use Rattle.cloak_model.specs.DomainState.{Domain}
use Rattle.cloak_model.specs.Joint.{Moment, next_hart, joint_step}
use Rattle.frozen_state.specs.Limits.{KeepsLimits}
use Rattle.limit_law.proofs.Programs.{AllOf, KeptInside, step_all}
use Rattle.limit_law.proofs.Steps.{step_kept, interrupt_kept, resume_kept, end_kept}

abbrev pub Keeps : Domain → Type 0
Keeps d = KeepsLimits d.control

abbrev pub AllKeep : List Domain → Type 0
AllKeep domains = AllOf Keeps domains

-- nothing is known of a program besides
abbrev pub Any : Domain → Type 0
Any d = Unit {0}

limits_kept : KeptInside Any Keeps
limits_kept = record {
  step = λ slot d w known here. step_kept slot d w here;
  interrupted = λ slot d here. interrupt_kept slot d.control here;
  resumed = λ slot hart reply d low here. resume_kept slot hart reply d.control low here;
  ended = λ d here. end_kept d;
}

any_some : (o : Option Domain) → IfSome o Any
any_some None = tt
any_some (Some d) = tt

pub any_all : (domains : List Domain) → AllOf Any domains
any_all domains d = any_some (slice_get domains d)

pub step_keep : (m : Moment) → next_hart m < 4 → AllKeep m.joint.domains → AllKeep (joint_step m).joint.domains
step_keep m low all = step_all Any Keeps limits_kept m low (any_all m.joint.domains) all
