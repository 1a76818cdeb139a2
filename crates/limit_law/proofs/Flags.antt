-- A step of a program, an interrupt and a resuming leave whether the program has ended.
use Rattle.std.proofs.Common.{◌≡◌, ℕ, Option, Some, None, Result, Ok, Err, refl}
use Rattle.cloak_model.specs.declared.context.Phase.{Phase}
use Rattle.cloak_model.specs.declared.context.Phase.TheVariants.{Plain, CopyIn, Waiting, CopyOut}
use Rattle.cloak_model.specs.declared.context.ResumeFault.{ResumeFault}
use Rattle.cloak_model.specs.declared.context.PageWord.{PageWord}
use Rattle.cloak_model.specs.declared.inside.Copied.{Copied}
use Rattle.cloak_model.specs.declared.inside.Copied.TheVariants as copied
use Rattle.cloak_model.specs.declared.inside.Ran.{Ran}
use Rattle.cloak_model.specs.declared.inside.Ran.TheVariants as ran
use Rattle.cloak_model.specs.Contexts.{Context}
use Rattle.cloak_model.specs.DomainState.{Control, Domain}
use Rattle.cloak_model.specs.DomainStep.{domain_script, DomainStepped, instruction_ended, copy_ended, after_write, phase_step, step_if, domain_step, interrupt_if, interrupt, answer_taken, resume_told, resume_slot}
use Rattle.cloak_model.specs.World.{World}
use Rattle.cloak_model.specs.Script.{played}
use Rattle.cloak_model.proofs.Playing.{by_plain, by_copy_in, by_copy_out, by_ecall}
use Rattle.hypercall_kinds.proofs.ByKinds.{hypercall_ended}

pub record SameFlag (was now : Control) : Type 0 where
  pub ended : now.ended ≡ was.ended

-- The step.

instruction_flag : (slot : ℕ) (d : Domain) (c : Context) (e : Ran) (w : World) →
    SameFlag d.control (played (instruction_ended slot d c e) w).answer.domain.control
unfolding instruction_ended
instruction_flag slot d c ran.Ecall w =
    by_ecall (λ t. SameFlag d.control t.answer.domain.control) slot d c w
    (record { ended = hypercall_ended _ slot c d.control w })
instruction_flag slot d c _ w = record { ended = refl }

copy_flag : (slot : ℕ) (d : Domain) (c : Context) (e : Copied) →
    SameFlag d.control (copy_ended slot d c e).domain.control
unfolding copy_ended
copy_flag slot d c copied.Going = record { ended = refl }
copy_flag slot d c _ = record { ended = refl }

written_flag : (d : Control) (wrote : Option PageWord) (s : DomainStepped) → SameFlag d s.domain.control →
    SameFlag d (after_write wrote s).domain.control
written_flag d None s same = same
written_flag d (Some place) s same = record { ended = same.ended }

phase_flag : (phase : Phase) (slot : ℕ) (c : Context) (d : Domain) (w : World) →
    SameFlag d.control (played (phase_step phase slot c d) w).answer.domain.control
unfolding phase_step
phase_flag Plain slot c d w =
    by_plain (λ t. SameFlag d.control t.answer.domain.control) slot c d w
    (written_flag d.control _ _ (instruction_flag slot d _ _ _))
phase_flag (CopyIn done) slot c d w =
    by_copy_in (λ t. SameFlag d.control t.answer.domain.control) done slot c d w (copy_flag slot d _ _)
phase_flag Waiting slot c d w = record { ended = refl }
phase_flag (CopyOut done total) slot c d w =
    by_copy_out (λ t. SameFlag d.control t.answer.domain.control) done total slot c d w
    (written_flag d.control _ _ (copy_flag slot d _ _))

step_if_flag : (c : Option Context) (slot : ℕ) (d : Domain) (w : World) →
    SameFlag d.control (played (step_if c slot d) w).answer.domain.control
unfolding step_if
step_if_flag None slot d w = record { ended = refl }
step_if_flag (Some c) slot d w = phase_flag c.phase slot c d w

pub step_flag : (slot : ℕ) (d : Domain) (w : World) → SameFlag d.control (domain_step slot d w).answer.domain.control
unfolding domain_step domain_script
step_flag slot d w = step_if_flag _ slot d w

-- Interrupts and resuming.

interrupt_if_flag : (c : Option Context) (slot : ℕ) (d : Control) → SameFlag d (interrupt_if c slot d).control
unfolding interrupt_if
interrupt_if_flag None slot d = record { ended = refl }
interrupt_if_flag (Some c) slot d = record { ended = refl }

pub interrupt_flag : (slot : ℕ) (d : Control) → SameFlag d (interrupt slot d).control
unfolding interrupt
interrupt_flag slot d = interrupt_if_flag _ slot d

taken_flag : (slot answer : ℕ) (c : Option Context) (d : Control) → SameFlag d (answer_taken slot answer c d)
unfolding answer_taken
taken_flag slot answer None d = record { ended = refl }
taken_flag slot answer (Some c) d = record { ended = refl }

told_flag : (slot answer : ℕ) (r : Result (Unit {0}) ResumeFault) (d : Control) →
    SameFlag d (resume_told slot answer r d).control
unfolding resume_told
told_flag slot answer (Err f) d = record { ended = refl }
told_flag slot answer (Ok done) d = taken_flag slot answer _ d

pub resume_flag : (slot hart answer : ℕ) (d : Control) → SameFlag d (resume_slot slot hart answer d).control
unfolding resume_slot
resume_flag slot hart answer d = record { ended = (told_flag slot answer _ _).ended }
