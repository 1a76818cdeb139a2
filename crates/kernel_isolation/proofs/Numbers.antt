-- A program keeps its number, and what a context shows as it leaves has the number of the context.
use Rattle.std.proofs.Common.{◌≡◌, ◌∙◌, ℕ, suc, zero, ◌+◌, List, [], ◌∷◌, Option, Some, None, Result, Ok, Err, slice_get, slice_set, refl, sym, ap, arith}
use Rattle.cloak_model.proofs.ResumeParts.{answer_taken_number}
use Rattle.cloak_model.specs.declared.context.Phase.{Phase}
use Rattle.cloak_model.specs.declared.context.Phase.TheVariants.{Plain, CopyIn, Waiting, CopyOut}
use Rattle.cloak_model.specs.declared.context.ResumeFault.{ResumeFault}
use Rattle.cloak_model.specs.declared.context.Why.{Why}
use Rattle.cloak_model.specs.declared.context.Why.TheVariants as why
use Rattle.cloak_model.specs.declared.inside.Copied.{Copied}
use Rattle.cloak_model.specs.declared.inside.Copied.TheVariants as copied
use Rattle.cloak_model.specs.declared.inside.Ran.{Ran}
use Rattle.cloak_model.specs.declared.inside.Ran.TheVariants as ran
use Rattle.cloak_model.specs.declared.inside.Went.{Went}
use Rattle.cloak_model.specs.declared.inside.Went.TheVariants as went
use Rattle.cloak_model.specs.Contexts.{Context, context_number, domain_of, slot_of, shown}
use Rattle.cloak_model.specs.DomainState.{Control, Domain}
use Rattle.cloak_model.specs.DomainStep.{domain_script, DomainStepped, instruction_ended, copy_ended, phase_step, step_if, domain_step, interrupt_if, interrupt, resume_told, resume_slot, after_write}
use Rattle.cloak_model.specs.Hypercalls.{Stepped, leaves, Hypercall, hypercall}
use Rattle.cloak_model.specs.World.{World}
use Rattle.hypercall_kinds.specs.Kinds.{CallKind, Calls, Ends, EndsSpace, after}
use Rattle.hypercall_kinds.proofs.ByKinds.{by_kinds}
use Rattle.cloak_model.specs.declared.context.PageWord.{PageWord}
use Rattle.cloak_model.specs.Script.{played}
use Rattle.cloak_model.proofs.Playing.{by_plain, by_copy_in, by_copy_out, by_ecall}

-- what is shown, if anything is, is of this context
abbrev pub ShowsContext : ℕ → Went → Type 0
ShowsContext ctx (went.Leave s) = s.ctx ≡ ctx
ShowsContext ctx (went.SpaceGone space s) = s.ctx ≡ ctx
ShowsContext ctx _ = Unit {0}

-- A step of the context of a slot.
pub record KeepsNumber (slot : ℕ) (was now : Control) (how : Went) : Type 0 where
  pub number : now.number ≡ was.number
  pub shows : ShowsContext (context_number was.number slot) how

-- the number of a context is that of its domain and its slot
pub number_of_context : (ctx : ℕ) → context_number (domain_of ctx) (slot_of ctx) ≡ ctx
number_of_context ctx = omega arith

shown_ctx : (c : Context) (ctx : ℕ) (cause : Why) → (shown c ctx cause).ctx ≡ ctx
unfolding shown
shown_ctx c ctx (why.Trap cause address) = refl
shown_ctx c ctx _ = refl

numbers_leave : (slot : ℕ) (c : Context) (cause : Why) (d : Control) →
    let s = leaves slot c cause d in KeepsNumber slot d s.control s.went
numbers_leave slot c cause d = record { number = refl; shows = shown_ctx c (context_number d.number slot) cause }

-- Hypercalls.

abbrev Numbers : ℕ → Control → Stepped → Type 0
Numbers slot d s = KeepsNumber slot d s.control s.went

module _ (h : Hypercall) (slot : ℕ) (c : Context) (d : Control) (w : World) where
  numbers_kind : (k : CallKind h slot c d w) → Numbers slot d (after h slot c d w k).answer
  numbers_kind (Calls good) = numbers_leave slot _ why.Call d
  numbers_kind Ends = record { number = refl; shows = shown_ctx c _ why.Exit }
  numbers_kind (EndsSpace is none ok) = record { number = refl; shows = shown_ctx c _ why.Exit }
  numbers_kind _ = record { number = refl; shows = tt }

  numbers_hypercall : Numbers slot d (played (hypercall h slot c d) w).answer
  numbers_hypercall = by_kinds (λ t. Numbers slot d t.answer) h slot c d w numbers_kind

-- The step.

abbrev StepNumbers : ℕ → Domain → DomainStepped → Type 0
StepNumbers slot d s = KeepsNumber slot d.control s.domain.control s.went

numbers_instruction : (slot : ℕ) (d : Domain) (c : Context) (e : Ran) (w : World) →
    StepNumbers slot d (played (instruction_ended slot d c e) w).answer
unfolding instruction_ended
numbers_instruction slot d c (ran.Trap cause address) w = record {
  number = refl;
  shows = shown_ctx c _ (why.Trap cause address);
}
numbers_instruction slot d c ran.Ecall w =
    let s = numbers_hypercall _ slot c d.control w in
    by_ecall (λ t. StepNumbers slot d t.answer) slot d c w
    (record { number = s.number; shows = s.shows })
numbers_instruction slot d c _ w = record { number = refl; shows = tt }

numbers_copy : (slot : ℕ) (d : Domain) (c : Context) (e : Copied) → StepNumbers slot d (copy_ended slot d c e)
unfolding copy_ended
numbers_copy slot d c copied.CallReady = record { number = refl; shows = shown_ctx c _ why.Call }
numbers_copy slot d c (copied.Absent cause address) = record {
  number = refl;
  shows = shown_ctx c _ (why.Trap cause address);
}
numbers_copy slot d c _ = record { number = refl; shows = tt }

-- a write leaves numbers
numbers_write : (slot : ℕ) (d : Domain) (wrote : Option PageWord) (s : DomainStepped) → StepNumbers slot d s →
    StepNumbers slot d (after_write wrote s)
numbers_write slot d None s keeps = keeps
numbers_write slot d (Some place) s keeps = record { number = keeps.number; shows = keeps.shows }

numbers_phase : (phase : Phase) (slot : ℕ) (c : Context) (d : Domain) (w : World) →
    StepNumbers slot d (played (phase_step phase slot c d) w).answer
unfolding phase_step
numbers_phase Plain slot c d w =
    by_plain (λ t. StepNumbers slot d t.answer) slot c d w
    (numbers_write slot d _ _ (numbers_instruction slot d _ _ _))
numbers_phase (CopyIn done) slot c d w =
    by_copy_in (λ t. StepNumbers slot d t.answer) done slot c d w
    (numbers_copy slot d _ _)
numbers_phase Waiting slot c d w = record { number = refl; shows = tt }
numbers_phase (CopyOut done total) slot c d w =
    by_copy_out (λ t. StepNumbers slot d t.answer) done total slot c d w
    (numbers_write slot d _ _ (numbers_copy slot d _ _))

numbers_if : (c : Option Context) (slot : ℕ) (d : Domain) (w : World) → StepNumbers slot d (played (step_if c slot d) w).answer
unfolding step_if
numbers_if None slot d w = record { number = refl; shows = tt }
numbers_if (Some c) slot d w = numbers_phase c.phase slot c d w

pub numbers_step : (slot : ℕ) (d : Domain) (w : World) → StepNumbers slot d (domain_step slot d w).answer
unfolding domain_step domain_script
numbers_step slot d w = numbers_if _ slot d w

-- Interrupts and resuming.

interrupt_by : (c : Option Context) (slot : ℕ) (d : Control) → Numbers slot d (interrupt_if c slot d)
unfolding interrupt_if
interrupt_by None slot d = record { number = refl; shows = tt }
interrupt_by (Some c) slot d = numbers_leave slot c (why.Trap 0x80000005 0) d

pub numbers_interrupt : (slot : ℕ) (d : Control) → Numbers slot d (interrupt slot d)
unfolding interrupt
numbers_interrupt slot d = interrupt_by _ slot d

told_number : (slot answer : ℕ) (r : Result (Unit {0}) ResumeFault) (d : Control) →
    (resume_told slot answer r d).control.number ≡ d.number
unfolding resume_told
told_number slot answer (Err f) d = refl
told_number slot answer (Ok done) d = answer_taken_number slot answer _ d

pub resume_number : (slot hart answer : ℕ) (d : Control) → (resume_slot slot hart answer d).control.number ≡ d.number
unfolding resume_slot
resume_number slot hart answer d = told_number slot answer _ _

-- Programs, of which the first has this number.
abbrev pub AreFrom : ℕ → List Domain → Type 0
AreFrom n [] = Unit {0}
AreFrom n (d ∷ domains) = (d.control.number ≡ n) × AreFrom (n + 1) domains

number_from : (n i : ℕ) (domains : List Domain) (d : Domain) → AreFrom n domains → slice_get domains i ≡ Some d →
    d.control.number ≡ n + i
number_from n i [] d all there = absurd cc
number_from n zero (x ∷ domains) d all there =
    let same : x ≡ d = cc in ap (λ (y : Domain). y.control.number) (sym same) ∙ all.0 ∙ omega arith
number_from n (suc i) (x ∷ domains) d all there = number_from (n + 1) i domains d all.1 there ∙ omega arith

pub number_at : (i : ℕ) (domains : List Domain) (d : Domain) → AreFrom 0 domains → slice_get domains i ≡ Some d →
    d.control.number ≡ i
number_at i domains d all there = number_from 0 i domains d all there ∙ omega arith

set_from : (n i : ℕ) (domains : List Domain) (d : Domain) → AreFrom n domains → d.control.number ≡ n + i →
    AreFrom n (slice_set domains i d)
set_from n i [] d all is = tt
set_from n zero (x ∷ domains) d all is = (is ∙ omega arith, all.1)
set_from n (suc i) (x ∷ domains) d all is = (all.0, set_from (n + 1) i domains d all.1 (is ∙ omega arith))

-- one is replaced by one of its number
pub set_number : (i : ℕ) (domains : List Domain) (was now : Domain) → AreFrom 0 domains →
    slice_get domains i ≡ Some was →
    now.control.number ≡ was.control.number → AreFrom 0 (slice_set domains i now)
set_number i domains was now all there same =
    set_from 0 i domains now all (same ∙ number_from 0 i domains was all there)
