-- That two pages clashed is never taken back by a step or by the closing, and what a step shows on the console is added
-- to it.
use Rattle.std.proofs.Common.{◌≡◌, ◌∙◌, ℕ, zero, suc, Bool, true, false, List, Option, Some, None, Result, Ok, Err, length, slice_get, refl, sym}
use Rattle.cloak_model.specs.declared.context.ResumeFault.{ResumeFault}
use Rattle.cloak_model.specs.Items.{Item}
use Rattle.cloak_model.specs.declared.outcome.Kernel.{Kernel}
use Rattle.cloak_model.specs.declared.outcome.Kernel.TheVariants.{Stay, Trapped, Put, Halt, Resume}
use Rattle.cloak_model.specs.Ahead.{settled_step, made_after}
use Rattle.cloak_model.specs.Cloaking.{CloakedMemory}
use Rattle.cloak_model.specs.Contexts.{Admitted, domain_of, slot_of}
use Rattle.cloak_model.specs.DomainState as program
use Rattle.cloak_model.specs.DomainStep.{interrupt}
use Rattle.cloak_model.specs.Hart.{Hart}
use Rattle.cloak_model.specs.Joint.{after_interrupt, after_kernel_step, after_outside, by_interrupt, by_running, cloak_outside, hart_in, inside_step, memory_of, outside_ended, outside_step, turn_of}
use Rattle.cloak_model.specs.KernelStep.{ticked}
use Rattle.cloak_model.specs.Parts as model
use Rattle.cloak_model.specs.Resuming.{resume}
use Rattle.cloak_model.proofs.ResumeParts.{by_context, by_domain, by_root}
use Rattle.cloak_model.specs.Run.{closing, settled_below}
use Rattle.cloak_model.specs.World.{MidStep, items_of}
use Rattle.cloak_model.proofs.Clashes.{settle_clashed}
use Rattle.settling_ahead.proofs.Laws.{keeps_rest}
use Rattle.script_fold.proofs.Later.{later_domain_step}
use Rattle.joint_machine.specs.Standing.{step_in, turn_in}
use Rattle.joint_machine.proofs.Ends.{answer_leaves}
use Rattle.joint_machine.proofs.Insides.{interrupt_clashed}
use Rattle.joint_machine.proofs.Insides.{step_unclashed as domain_unclashed}

-- A resuming compares no pages, and shows nothing on the console.

pub record LeavesBoth (j after : model.Joint) : Type 0 where
  pub clashed : after.memory.ledger.clashed ≡ j.memory.ledger.clashed
  pub console : after.console ≡ j.console

root_leaves : (j : model.Joint) (satp ctx reply : ℕ) (was : program.Domain) (k : program.Control) (admitted : Admitted) (a : Result (Unit {0}) ResumeFault) → LeavesBoth j (by_root j satp ctx reply was k admitted a).joint
unfolding by_root
root_leaves j satp ctx reply was k admitted (Err f) = record { clashed = refl; console = refl }
root_leaves j satp ctx reply was k admitted (Ok done) = record { clashed = refl; console = refl }

context_leaves : (j : model.Joint) (satp ctx reply : ℕ) (was : program.Domain) (k : program.Control) (a : Result (Unit {0}) ResumeFault) → LeavesBoth j (by_context j satp ctx reply was k a).joint
unfolding by_context
context_leaves j satp ctx reply was k (Err f) = record { clashed = refl; console = refl }
context_leaves j satp ctx reply was k (Ok done) = root_leaves j satp ctx reply was k _ _

domain_leaves : (j : model.Joint) (hart satp ctx reply : ℕ) (was : Option program.Domain) → LeavesBoth j (by_domain j hart satp ctx reply was).joint
unfolding by_domain
domain_leaves j hart satp ctx reply None = record { clashed = refl; console = refl }
domain_leaves j hart satp ctx reply (Some was) = context_leaves j satp ctx reply was _ _

resume_leaves : (j : model.Joint) (hart satp ctx reply : ℕ) → LeavesBoth j (resume j hart satp ctx reply).joint
unfolding resume by_domain by_context by_root
resume_leaves j hart satp ctx reply = domain_leaves j hart satp ctx reply _

-- A hart outside.

ended_outside : (j : model.Joint) (number : ℕ) (items : List Item) (k : Kernel) → (outside_ended j number items k).joint.memory.ledger.clashed ≡ j.memory.ledger.clashed
unfolding outside_ended
ended_outside j number items Stay = refl
ended_outside j number items Trapped = refl
ended_outside j number items (Put b) = refl
ended_outside j number items (Halt value) = refl
ended_outside j number items (Resume ctx answer) = (resume_leaves j number _ ctx answer).clashed

plain_clashed : (h : Hart) (disk : List ℕ) (m : CloakedMemory) → (memory_of (settled_step h disk (cloak_outside m h)).world m).ledger.clashed ≡ m.ledger.clashed
unfolding settled_step made_after
plain_clashed h disk m = (keeps_rest h disk m).clashed

pub outside_clashed : (j : model.Joint) (number : ℕ) (h : Hart) → (outside_step j number h).joint.memory.ledger.clashed ≡ j.memory.ledger.clashed
unfolding outside_step after_outside
outside_clashed j number h = let told = settled_step h j.disk (cloak_outside j.memory h) in ended_outside (after_kernel_step j number told) number (items_of told.world) told.answer.ending ∙ plain_clashed h j.disk j.memory

-- A hart inside.

interrupt_unclashed : (due : Bool) (j : model.Joint) (number : ℕ) (h : Hart) (d slot : ℕ) (was : program.Domain) → (by_interrupt due j number h d slot was).joint.memory.ledger.clashed ≡ false → j.memory.ledger.clashed ≡ false
unfolding by_interrupt after_interrupt
interrupt_unclashed true j number h d slot was none = sym (interrupt_clashed _ number h _ (interrupt slot was.control).went) ∙ none
interrupt_unclashed false j number h d slot was none = (later_domain_step slot was _).mark (domain_unclashed j number h d slot was none)

running_unclashed : (runs : Bool) (j : model.Joint) (number : ℕ) (h : Hart) (ctx : ℕ) (was : program.Domain) → (by_running runs j number h ctx was).joint.memory.ledger.clashed ≡ false → j.memory.ledger.clashed ≡ false
unfolding by_running
running_unclashed false j number h ctx was none = none
running_unclashed true j number h ctx was none = interrupt_unclashed _ j number h (domain_of ctx) (slot_of ctx) was none

pub inside_unclashed : (j : model.Joint) (number : ℕ) (h : Hart) (ctx : ℕ) (was : Option program.Domain) → (inside_step j number h ctx was).joint.memory.ledger.clashed ≡ false → j.memory.ledger.clashed ≡ false
unfolding inside_step
inside_unclashed j number h ctx None none = none
inside_unclashed j number h ctx (Some was) none = running_unclashed _ j number h ctx was none

-- A step.

of_unclashed : (j : model.Joint) (number : ℕ) (h : Hart) (inside : Option ℕ) → (turn_of j number h inside).joint.memory.ledger.clashed ≡ false → j.memory.ledger.clashed ≡ false
unfolding turn_of
of_unclashed j number h None none = sym (outside_clashed j number h) ∙ none
of_unclashed j number h (Some ctx) none = inside_unclashed j number (ticked h) ctx (slice_get j.domains (domain_of ctx)) none

-- no clash after a step: none before it
pub turn_unclashed : (j : model.Joint) (number : ℕ) → (turn_in j number).joint.memory.ledger.clashed ≡ false → j.memory.ledger.clashed ≡ false
turn_unclashed j number none = of_unclashed j number (hart_in j number) (hart_in j number).inside none

-- nor before the whole step, with the end of a domain after it
pub before_end : (j : model.Joint) (number : ℕ) → (step_in j number).joint.memory.ledger.clashed ≡ false → (turn_in j number).joint.memory.ledger.clashed ≡ false
before_end j number none = sym (answer_leaves (hart_in j number).inside (turn_in j number).violation (turn_in j number)).clashed ∙ none

pub step_unclashed : (j : model.Joint) (number : ℕ) → (step_in j number).joint.memory.ledger.clashed ≡ false → j.memory.ledger.clashed ≡ false
step_unclashed j number none = turn_unclashed j number (before_end j number none)

-- The closing.

below_clashed : (n : ℕ) (c : MidStep) → (settled_below n c).memory.ledger.clashed ≡ c.memory.ledger.clashed
unfolding settled_below
below_clashed zero c = refl
below_clashed (suc n) c = settle_clashed n (settled_below n c).memory ∙ below_clashed n c

pub closing_clashed : (j : model.Joint) → (closing j).joint.memory.ledger.clashed ≡ j.memory.ledger.clashed
unfolding closing
closing_clashed j = below_clashed (length j.memory.ram) (cloak_outside j.memory (hart_in j 0))

-- no clash after the closing: none before it
pub closing_unclashed : (j : model.Joint) → (closing j).joint.memory.ledger.clashed ≡ false → j.memory.ledger.clashed ≡ false
closing_unclashed j none = sym (closing_clashed j) ∙ none
