-- What holds of each end of a step of a program that keeps its limits, holds of the step.
use Rattle.std.proofs.Common.{◌≡◌, ℕ, Option, Some, None, IfSome, refl, subst}
use Rattle.cloak_model.specs.declared.context.Phase.{Phase}
use Rattle.cloak_model.specs.declared.context.Phase.TheVariants.{Plain, CopyIn, Waiting, CopyOut}
use Rattle.cloak_model.specs.declared.context.PageWord.{PageWord}
use Rattle.cloak_model.specs.declared.inside.Went.TheVariants.{Stay}
use Rattle.cloak_model.specs.Calls.{Copy, copy_in_step, copy_out_step}
use Rattle.cloak_model.specs.Contexts.{Context, context_at}
use Rattle.cloak_model.specs.DomainState.{Domain}
use Rattle.cloak_model.specs.DomainStep.{DomainStepped, within, instruction_ended, copy_ended, after_write, phase_step, step_if, domain_script, domain_step}
use Rattle.cloak_model.specs.Hypercalls.{stays_inside}
use Rattle.cloak_model.specs.InsideStep.{AfterInstruction, instruction_inside}
use Rattle.cloak_model.specs.Script.{played}
use Rattle.cloak_model.specs.World.{World}
use Rattle.cloak_model.proofs.Playing.{by_plain, by_copy_in, by_copy_out}
use Rattle.frozen_state.specs.Limits.{IsPhase, IsSteady, IsContext, KeepsLimits}
use Rattle.limit_law.proofs.Contexts.{AfterOne, instruction_one}
use Rattle.limit_law.proofs.Copies.{AfterCopy, copy_in_one, copy_out_one}
use Rattle.limit_law.proofs.Pages.{pages_there}

pub record HoldsAtEnds (P : DomainStepped → Type 0) (slot : ℕ) (c : Context) (d : Domain) : Type 0 where
  pub ended : (a : AfterInstruction) (w : World) → AfterOne c a →
      P (played (instruction_ended slot d a.context a.ending) w).answer
  pub copied : (k : Copy) → AfterCopy c k → P (copy_ended slot d k.context k.ending)
  pub waits : P (within d (stays_inside slot c d.control))
  pub written : (wrote : Option PageWord) (s : DomainStepped) → P s → P (after_write wrote s)

at_phase : (c : Context) (phase : Phase) → c.phase ≡ phase → IsSteady c → IsPhase c.regs phase
at_phase c phase is s = subst (IsPhase c.regs) is s.phase

module _ (P : DomainStepped → Type 0) (slot : ℕ) (d : Domain) (w : World) (keeps : KeepsLimits d.control) where
  phase_holds : (phase : Phase) (c : Context) → c.phase ≡ phase → IsContext d.control.resources c →
      HoldsAtEnds P slot c d → P (played (phase_step phase slot c d) w).answer
  unfolding phase_step
  phase_holds Plain c is here holds =
      let t = played (instruction_inside d.control.number d.control.resources c) w in
      let pages = pages_there d.control.number d.control.resources c.space keeps.resources in
      by_plain (λ told. P told.answer) slot c d w
      (holds.written t.answer.wrote _
      (holds.ended t.answer t.world (instruction_one c is here.steady _ _ w pages)))
  phase_holds (CopyIn done) c is here holds =
      by_copy_in (λ told. P told.answer) done slot c d w
      (holds.copied (played (copy_in_step d.control.number d.control.resources c done) w).answer
      (copy_in_one c here.steady done (at_phase c (CopyIn done) is here.steady) _ _ w))
  phase_holds Waiting c is here holds = holds.waits
  phase_holds (CopyOut done total) c is here holds =
      let k = (played (copy_out_step d.control.number d.control.resources c done total) w).answer in
      by_copy_out (λ told. P told.answer) done total slot c d w
      (holds.written k.wrote _
      (holds.copied k (copy_out_one c here.steady done total (at_phase c (CopyOut done total) is here.steady) _ _ w)))

  step_if_holds : (o : Option Context) → context_at d.control.contexts slot ≡ o →
      P (record { domain = d; went = Stay }) →
      ((c : Context) → context_at d.control.contexts slot ≡ Some c → IsContext d.control.resources c →
      HoldsAtEnds P slot c d) → P (played (step_if o slot d) w).answer
  unfolding step_if
  step_if_holds None is none holds = none
  step_if_holds (Some c) is none holds =
      let here = subst (λ (o : Option Context). IfSome o (IsContext d.control.resources)) is (keeps.contexts slot) in
      phase_holds c.phase c refl here (holds c is here)

  pub step_holds : P (record { domain = d; went = Stay }) →
      ((c : Context) → context_at d.control.contexts slot ≡ Some c → IsContext d.control.resources c →
      HoldsAtEnds P slot c d) → P (domain_step slot d w).answer
  unfolding domain_step domain_script
  step_holds none holds = step_if_holds _ refl none holds
