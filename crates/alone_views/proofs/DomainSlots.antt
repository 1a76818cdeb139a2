-- No step of a program, no interrupt and no resuming changes how many slots there are.
use Rattle.std.proofs.Common.{◌≡◌, ◌∙◌, ℕ, Bool, true, false, cond, List, length, Option, Some, None, Result, Ok, Err, refl}
use Rattle.std.specs.Prelude.{is_some}
use Rattle.std.proofs.Math.ListN.{length-set}
use Rattle.std.proofs.lemmas.List.{length-map}
use Rattle.cloak_model.specs.declared.context.Phase.{Phase}
use Rattle.cloak_model.specs.declared.context.Phase.TheVariants.{Plain, CopyIn, Waiting, CopyOut}
use Rattle.cloak_model.specs.declared.context.ResumeFault.{ResumeFault}
use Rattle.cloak_model.specs.declared.inside.Copied.{Copied}
use Rattle.cloak_model.specs.declared.inside.Copied.TheVariants as copied
use Rattle.cloak_model.specs.declared.inside.Ran.{Ran}
use Rattle.cloak_model.specs.declared.inside.Ran.TheVariants as ran
use Rattle.cloak_model.specs.World.{World}
use Rattle.cloak_model.specs.Asking.{Told}
use Rattle.cloak_model.specs.Contexts.{Context, Resumed, resume_at, resume_if, unless_reserved}
use Rattle.cloak_model.specs.declared.context.PageWord.{PageWord}
use Rattle.cloak_model.specs.Fork as forks
use Rattle.cloak_model.specs.DomainState.{Control, Domain}
use Rattle.cloak_model.specs.Hypercalls as calling
use Rattle.cloak_model.specs.Hypercalls.{Hypercall, with_slot}
use Rattle.hypercall_kinds.specs.Kinds.{CallKind, Starts, Stops, Forks, after}
use Rattle.hypercall_kinds.proofs.ByKinds.{by_kinds}
use Rattle.cloak_model.specs.DomainStep as step
use Rattle.cloak_model.specs.DomainStep.{domain_script, DomainStepped, domain_step, interrupt, resume_slot}
use Rattle.cloak_model.specs.Script.{played}
use Rattle.cloak_model.proofs.Playing.{by_plain, by_copy_in, by_copy_out, by_ecall}

abbrev pub SameSlots : Control → Control → Type 0
SameSlots d now = length now.contexts ≡ length d.contexts

set_slot : (slot : ℕ) (c : Context) (d : Control) → SameSlots d (with_slot slot c d)
set_slot slot c d = length-set d.contexts slot (Some c)

module _ (call : Hypercall) (slot : ℕ) (c : Context) (d : Control) (w : World) where
  slots_kind : (k : CallKind call slot c d w) → SameSlots d (after call slot c d w k).answer.control
  unfolding forks.forked
  slots_kind (Starts free lowest aligned) = set_slot slot _ (with_slot free _ d) ∙ set_slot free _ d
  slots_kind (Stops other) = refl
  slots_kind (Forks free new is room slots spaces ok) =
      length-set (forks.forked c free new d.resources d.contexts).contexts slot _ ∙ length-set d.contexts free _
  slots_kind _ = length-set d.contexts slot _

  slots_hypercall : SameSlots d (played (calling.hypercall call slot c d) w).answer.control
  slots_hypercall = by_kinds (λ t. SameSlots d t.answer.control) call slot c d w slots_kind

-- the same of a step
abbrev StepSame : Domain → Told DomainStepped → Type 0
StepSame d t = SameSlots d.control t.answer.domain.control

slots_ended : (slot : ℕ) (d : Domain) (c : Context) (e : Ran) (w : World) →
    StepSame d (played (step.instruction_ended slot d c e) w)
unfolding step.instruction_ended
slots_ended slot d c ran.Ecall w = by_ecall (StepSame d) slot d c w (slots_hypercall _ slot c d.control w)
slots_ended slot d c ran.Stopped w = refl
slots_ended slot d c _ w = set_slot slot _ d.control

slots_copy : (slot : ℕ) (d : Domain) (c : Context) (e : Copied) →
    SameSlots d.control (step.copy_ended slot d c e).domain.control
unfolding step.copy_ended
slots_copy slot d c copied.Stopped = refl
slots_copy slot d c _ = set_slot slot _ d.control

-- a write after a step
slots_written : (wrote : Option PageWord) (d : Control) (s : DomainStepped) → SameSlots d s.domain.control →
    SameSlots d (step.after_write wrote s).domain.control
slots_written None d s same = same
slots_written (Some word) d s same = length-map s.domain.control.contexts (unless_reserved word) ∙ same

slots_phase : (phase : Phase) (slot : ℕ) (c : Context) (d : Domain) (w : World) →
    StepSame d (played (step.phase_step phase slot c d) w)
unfolding step.phase_step
slots_phase Plain slot c d w =
    by_plain (StepSame d) slot c d w (slots_written _ d.control _ (slots_ended slot d _ _ _))
slots_phase (CopyIn done) slot c d w = by_copy_in (StepSame d) done slot c d w (slots_copy slot d _ _)
slots_phase Waiting slot c d w = set_slot slot _ d.control
slots_phase (CopyOut done total) slot c d w =
    by_copy_out (StepSame d) done total slot c d w (slots_written _ d.control _ (slots_copy slot d _ _))

slots_step_if : (c : Option Context) (slot : ℕ) (d : Domain) (w : World) →
    StepSame d (played (step.step_if c slot d) w)
unfolding step.step_if
slots_step_if None slot d w = refl
slots_step_if (Some c) slot d w = slots_phase c.phase slot c d w

pub slots_step : (slot : ℕ) (d : Domain) (w : World) → SameSlots d.control (domain_step slot d w).answer.domain.control
unfolding domain_step domain_script
slots_step slot d w = slots_step_if _ slot d w

slots_interrupt_if : (c : Option Context) (slot : ℕ) (d : Control) → SameSlots d (step.interrupt_if c slot d).control
unfolding step.interrupt_if
slots_interrupt_if None slot d = refl
slots_interrupt_if (Some c) slot d = set_slot slot _ d

pub slots_interrupt : (slot : ℕ) (d : Control) → SameSlots d (interrupt slot d).control
unfolding interrupt
slots_interrupt slot d = slots_interrupt_if _ slot d

either_contexts : (b : Bool) (n : ℕ) (x y : Resumed) → length x.contexts ≡ n → length y.contexts ≡ n →
    length (cond b x y).contexts ≡ n
either_contexts true n x y p q = p
either_contexts false n x y p q = q

slots_resume_if : (slot hart : ℕ) (c : Option Context) (contexts : List (Option Context)) →
    length (resume_if slot hart c contexts).contexts ≡ length contexts
unfolding resume_if
slots_resume_if slot hart None contexts = refl
slots_resume_if slot hart (Some c) contexts = either_contexts (is_some c.on) _ _ _ refl (length-set contexts slot _)

slots_resume_at : (slot hart : ℕ) (contexts : List (Option Context)) →
    length (resume_at slot hart contexts).contexts ≡ length contexts
unfolding resume_at
slots_resume_at slot hart contexts = slots_resume_if slot hart _ contexts

slots_answer_taken : (slot reply : ℕ) (c : Option Context) (d : Control) →
    SameSlots d (step.answer_taken slot reply c d)
unfolding step.answer_taken
slots_answer_taken slot reply None d = refl
slots_answer_taken slot reply (Some c) d = set_slot slot _ d

slots_resume_told : (slot reply : ℕ) (answer : Result (Unit {0}) ResumeFault) (d : Control) →
    SameSlots d (step.resume_told slot reply answer d).control
unfolding step.resume_told
slots_resume_told slot reply (Err f) d = refl
slots_resume_told slot reply (Ok done) d = slots_answer_taken slot reply _ d

pub slots_resume : (slot hart reply : ℕ) (d : Control) → SameSlots d (resume_slot slot hart reply d).control
unfolding resume_slot
slots_resume slot hart reply d = slots_resume_told slot reply _ _ ∙ slots_resume_at slot hart d.contexts
