-- A program that has ended has nothing: over each step of the joint machine.
use Rattle.std.proofs.Common.{◌≡◌, ◌∙◌, ℕ, ◌<◌, true, List, Option, Some, None, sym}
use Rattle.cloak_model.specs.Contexts.{Context, resume_if, resume_at}
use Rattle.cloak_model.specs.DomainState.{Control, Domain}
use Rattle.cloak_model.specs.DomainStep.{domain_script, step_if, domain_step, interrupt_if, interrupt, resume_told, resume_slot}
use Rattle.cloak_model.specs.Ending.{ended_domain}
use Rattle.cloak_model.specs.Joint.{Moment, next_hart, joint_step}
use Rattle.cloak_model.specs.World.{World}
use Rattle.cloak_model.specs.Script.{played}
use Rattle.resource_map.proofs.Lists.{get_or-replicate_none}
use Rattle.limit_law.specs.Endings.{HasNothing}
use Rattle.limit_law.proofs.Flags.{step_flag, interrupt_flag, resume_flag}
use Rattle.limit_law.proofs.Programs.{AllOf, KeptInside, step_all}
use Rattle.limit_law.proofs.Turns.{Any, any_all}

abbrev pub Gone : Domain → Type 0
Gone d = d.control.ended ≡ true → HasNothing d.control

-- Without a context nothing is done.

idle_step : (o : Option Context) (slot : ℕ) (d : Domain) (w : World) → o ≡ None → HasNothing d.control →
    HasNothing (played (step_if o slot d) w).answer.domain.control
unfolding step_if
idle_step None slot d w none here = here
idle_step (Some c) slot d w none here = absurd cc

step_gone : (slot : ℕ) (d : Domain) (w : World) → HasNothing d.control →
    HasNothing (domain_step slot d w).answer.domain.control
unfolding domain_step domain_script
step_gone slot d w here = idle_step _ slot d w (here.contexts slot) here

idle_interrupt : (o : Option Context) (slot : ℕ) (d : Control) → o ≡ None → HasNothing d →
    HasNothing (interrupt_if o slot d).control
unfolding interrupt_if
idle_interrupt None slot d none here = here
idle_interrupt (Some c) slot d none here = absurd cc

interrupt_gone : (slot : ℕ) (d : Control) → HasNothing d → HasNothing (interrupt slot d).control
unfolding interrupt
interrupt_gone slot d here = idle_interrupt _ slot d (here.contexts slot) here

idle_resume : (o : Option Context) (slot hart answer : ℕ) (d : Control) → o ≡ None → HasNothing d →
    (let made = resume_if slot hart o d.contexts in
    HasNothing (resume_told slot answer made.answer (record d { contexts = made.contexts })).control)
unfolding resume_if resume_told
idle_resume None slot hart answer d none here =
    record { contexts = here.contexts; spaces = here.spaces; resources = here.resources }
idle_resume (Some c) slot hart answer d none here = absurd cc

resume_gone : (slot hart answer : ℕ) (d : Control) → HasNothing d → HasNothing (resume_slot slot hart answer d).control
unfolding resume_slot resume_at
resume_gone slot hart answer d here = idle_resume _ slot hart answer d (here.contexts slot) here

end_gone : (d : Domain) → Gone (ended_domain d)
unfolding ended_domain
end_gone d over = record {
  contexts = λ slot. get_or-replicate_none 8 slot;
  spaces = λ space. get_or-replicate_none 8 space;
  resources = λ n. get_or-replicate_none 16 n;
}

-- The step.

gone_kept : KeptInside Any Gone
gone_kept = record {
  step = λ slot d w known here over. step_gone slot d w (here (sym (step_flag slot d w).ended ∙ over));
  interrupted = λ slot d here over.
      interrupt_gone slot d.control (here (sym (interrupt_flag slot d.control).ended ∙ over));
  resumed = λ slot hart reply d low here over.
      resume_gone slot hart reply d.control (here (sym (resume_flag slot hart reply d.control).ended ∙ over));
  ended = λ d here. end_gone d;
}

abbrev pub AllGone : List Domain → Type 0
AllGone domains = AllOf Gone domains

pub step_keeps_gone : (m : Moment) → next_hart m < 4 → AllGone m.joint.domains → AllGone (joint_step m).joint.domains
step_keeps_gone m low all = step_all Any Gone gone_kept m low (any_all m.joint.domains) all
