-- Harts are in range at every moment of a run.
use Rattle.std.proofs.Common.{◌≡◌, ℕ, zero, suc, ◌+◌, ◌-◌, ◌%◌, ◌^◌, ◌<◌, bit_and, Bool, true, false, cond, List, [], ◌∷◌, map, slice_get, slice_set, Option, Some, None, Result, Ok, Err, refl, sym, subst, arith}
use Rattle.std.specs.List.{AllByRecursion}
use Rattle.std.specs.Prelude.{◌==◌}
use Rattle.std.proofs.lemmas.Grind.{and_numeral, and_high_numeral}
use Rattle.cloak_base.specs.declared.causes.Violation.{Violation}
use Rattle.cloak_base.specs.declared.names.Mode.{Mode}
use Rattle.cloak_base.specs.declared.names.Mode.TheVariants.{U, S}
use Rattle.cloak_model.specs.declared.context.ResumeFault.{ResumeFault}
use Rattle.cloak_model.specs.declared.image.Bundle.{Bundle}
use Rattle.cloak_model.specs.declared.inside.Went.{Went}
use Rattle.cloak_model.specs.declared.inside.Went.TheVariants as went
use Rattle.cloak_model.specs.Items.{Item}
use Rattle.cloak_model.specs.declared.outcome.Kernel.{Kernel}
use Rattle.cloak_model.specs.declared.outcome.Kernel.TheVariants.{Resume}
use Rattle.cloak_model.specs.declared.sstatus.Sstatus.{Sstatus}
use Rattle.cloak_model.specs.Ahead.{settled_step, made_after, settle_touched}
use Rattle.cloak_model.specs.Asking.{Told}
use Rattle.cloak_model.specs.Beginning.{Beginning, opening_from}
use Rattle.cloak_model.specs.Bits.{has_bit}
use Rattle.cloak_model.specs.Bundle.{IsInGrammar}
use Rattle.cloak_model.specs.Cloaking.{CloakedMemory, AfterSettling, seen_in}
use Rattle.cloak_model.specs.Contexts.{Admitted, domain_of, slot_of}
use Rattle.cloak_model.specs.Csr.{Csrs, csr_numbers, csr_words, bit, sstatus_of, sstatus_word, aligned}
use Rattle.cloak_model.specs.CsrNumbers as csr
use Rattle.cloak_model.specs.DomainState.{Control, Domain}
use Rattle.cloak_model.specs.DomainStep.{DomainStepped}
use Rattle.cloak_model.specs.Hart.{Hart, started}
use Rattle.cloak_model.specs.Hypercalls.{Stepped}
use Rattle.cloak_model.specs.Joint.{Moment, Turn, next_hart, cloak_outside, outside_ended, after_outside, outside_step, domain_ended, after_domain_step, interrupt_ended, after_interrupt, by_interrupt, by_running, inside_step, turn_of, end_domain, step_before_end, joint_step}
use Rattle.cloak_model.specs.KernelStep.{ticked}
use Rattle.cloak_model.specs.Opening.{RunEdge, started_harts, started_kernel, started_joint}
use Rattle.cloak_model.specs.Parts.{Joint}
use Rattle.cloak_model.specs.Record.{IsWord}
use Rattle.cloak_model.specs.Resuming.{resume}
use Rattle.cloak_model.proofs.ResumeParts.{by_root, by_context, by_domain}
use Rattle.cloak_model.specs.Run.{Run, run_from}
use Rattle.cloak_model.specs.StoredFiles.{FileContents}
use Rattle.cloak_model.specs.World.{World, Flat}
use Rattle.range_law.proofs.Bounds.{all_set, all_or}
use Rattle.kernel_isolation.specs.Isolation.{joint_until}
use Rattle.kernel_isolation.proofs.FilesAdded.{IsGiven, given_keeps}
use Rattle.limit_law.specs.Words.{HasHartWords}
use Rattle.limit_law.proofs.Endings.{answers_keep}
use Rattle.limit_law.proofs.Moments.{at_every_moment}
use Rattle.limit_law.proofs.Openings.{begins}
use Rattle.limit_law.proofs.Words.{runs_have_words}
use Rattle.frozen_law.specs.Harts.{HaveOnly, IsInRange, HartsAreInRange}
use Rattle.frozen_law.proofs.Csrs.{clean_by, clean, AreClean}
use Rattle.frozen_law.proofs.Harts.{Fits, started_fits, ticked_fits, leave_fits, step_fits}
use Rattle.cloak_base.proofs.Lists.{each_append}

abbrev AllFit : List Hart → Type 0
AllFit harts = AllByRecursion Fits harts

abbrev pub JointFits : Joint → Type 0
JointFits j = AllFit j.harts

set_fits : (harts : List Hart) (number : ℕ) (h : Hart) → AllFit harts → Fits h → AllFit (slice_set harts number h)
set_fits harts number h all here = all_set Fits harts number h all here

-- A hart outside.

root_fits : (j : Joint) (satp ctx reply : ℕ) (was : Domain) (control : Control) (admitted : Admitted)
    (answer : Result (Unit {0}) ResumeFault) → JointFits j → JointFits (by_root j satp ctx reply was control admitted answer).joint
unfolding by_root
root_fits j satp ctx reply was control admitted (Err fault) all = all
root_fits j satp ctx reply was control admitted (Ok done) all = all

context_fits : (j : Joint) (satp ctx reply : ℕ) (was : Domain) (control : Control)
    (answer : Result (Unit {0}) ResumeFault) → JointFits j → JointFits (by_context j satp ctx reply was control answer).joint
unfolding by_context
context_fits j satp ctx reply was control (Err fault) all = all
context_fits j satp ctx reply was control (Ok done) all = root_fits j satp ctx reply was control _ _ all

domain_fits : (j : Joint) (hart satp ctx reply : ℕ) (found : Option Domain) → JointFits j →
    JointFits (by_domain j hart satp ctx reply found).joint
unfolding by_domain
domain_fits j hart satp ctx reply None all = all
domain_fits j hart satp ctx reply (Some was) all = context_fits j satp ctx reply was _ _ all

resume_fits : (j : Joint) (hart satp ctx reply : ℕ) → JointFits j → JointFits (resume j hart satp ctx reply).joint
unfolding resume by_domain by_context by_root
resume_fits j hart satp ctx reply all = domain_fits j hart satp ctx reply _ all

ended_fits : (j : Joint) (number : ℕ) (items : List Item) (e : Kernel) → JointFits j →
    JointFits (outside_ended j number items e).joint
unfolding outside_ended
ended_fits j number items (Resume ctx reply) all = resume_fits j number _ ctx reply all
ended_fits j number items _ all = all

outside_by : (j : Joint) (number : ℕ) (h : Hart) (s : AfterSettling) → JointFits j → Fits h →
    JointFits (after_outside j number (made_after h j.disk (cloak_outside j.memory h) s)).joint
unfolding after_outside made_after
outside_by j number h s all here =
    ended_fits _ number _ _ (set_fits j.harts number _ all (step_fits h j.disk (Flat (seen_in s.memory)) here))

outside_fits : (j : Joint) (number : ℕ) (h : Hart) → JointFits j → Fits h → JointFits (outside_step j number h).joint
unfolding outside_step settled_step
outside_fits j number h all here = outside_by j number h (settle_touched h j.disk j.memory) all here

-- A hart inside.

went_fits : (j : Joint) (number : ℕ) (h : Hart) (d : ℕ) (w : World) (how : Went) → JointFits j → Fits h →
    JointFits (domain_ended j number h d w how).joint
unfolding domain_ended
went_fits j number h d w (went.Leave s) all here = set_fits j.harts number _ all (leave_fits h s here)
went_fits j number h d w (went.SpaceGone space s) all here = set_fits j.harts number _ all (leave_fits h s here)
went_fits j number h d w _ all here = set_fits j.harts number h all here

told_fits : (j : Joint) (number : ℕ) (h : Hart) (d : ℕ) (told : Told DomainStepped) → JointFits j → Fits h →
    JointFits (after_domain_step j number h d told).joint
unfolding after_domain_step
told_fits j number h d told all here = went_fits _ number h d told.world told.answer.went all here

interrupted_fits : (j : Joint) (number : ℕ) (h : Hart) (items : List Item) (how : Went) → JointFits j → Fits h →
    JointFits (interrupt_ended j number h items how).joint
unfolding interrupt_ended
interrupted_fits j number h items (went.Leave s) all here = set_fits j.harts number _ all (leave_fits h s here)
interrupted_fits j number h items _ all here = set_fits j.harts number h all here

left_fits : (j : Joint) (number : ℕ) (h : Hart) (d : ℕ) (was : Domain) (step : Stepped) → JointFits j → Fits h →
    JointFits (after_interrupt j number h d was step).joint
unfolding after_interrupt
left_fits j number h d was step all here = interrupted_fits _ number h _ step.went all here

due_fits : (due : Bool) (j : Joint) (number : ℕ) (h : Hart) (d slot : ℕ) (was : Domain) → JointFits j → Fits h →
    JointFits (by_interrupt due j number h d slot was).joint
unfolding by_interrupt
due_fits true j number h d slot was all here = left_fits j number h d was _ all here
due_fits false j number h d slot was all here = told_fits j number h d _ all here

running_fits : (runs : Bool) (j : Joint) (number : ℕ) (h : Hart) (ctx : ℕ) (was : Domain) → JointFits j → Fits h →
    JointFits (by_running runs j number h ctx was).joint
unfolding by_running
running_fits false j number h ctx was all here = set_fits j.harts number _ all (leave_fits h _ here)
running_fits true j number h ctx was all here = due_fits _ j number h (domain_of ctx) (slot_of ctx) was all here

inside_fits : (j : Joint) (number : ℕ) (h : Hart) (ctx : ℕ) (found : Option Domain) → JointFits j → Fits h →
    JointFits (inside_step j number h ctx found).joint
unfolding inside_step
inside_fits j number h ctx None all here = set_fits j.harts number _ all (leave_fits h _ here)
inside_fits j number h ctx (Some was) all here = running_fits _ j number h ctx was all here

turn_fits : (j : Joint) (number : ℕ) (h : Hart) (inside : Option ℕ) → JointFits j → Fits h →
    JointFits (turn_of j number h inside).joint
unfolding turn_of
turn_fits j number h None all here = outside_fits j number h all here
turn_fits j number h (Some ctx) all here = inside_fits j number (ticked h) ctx _ all (ticked_fits h here)

end_fits : (d : ℕ) (was : Domain) (v : Violation) (t : Turn) → slice_get t.joint.domains d ≡ Some was →
    JointFits t.joint → JointFits (end_domain d was v t).joint
unfolding end_domain
end_fits d was v t is all = all

joint_fits : (m : Moment) → JointFits m.joint → JointFits (joint_step m).joint
unfolding joint_step
joint_fits m all =
    answers_keep JointFits (λ t here. here) end_fits _ _ (step_before_end m)
    (turn_fits m.joint (next_hart m) _ _ all
    (all_or Fits m.joint.harts (next_hart m) (started 0 0) all (started_fits 0 0 refl)))

-- The opening.

harts_fit : (entry n : ℕ) → entry % 4 ≡ 0 → AllFit (started_harts entry n)
harts_fit entry zero is = tt
harts_fit entry (suc n) is =
    each_append Fits (started_harts entry n) _ (harts_fit entry n is) (started_fits entry n is, tt)

started_joint_fits : (b : Bundle) (m : CloakedMemory) → IsInGrammar b → JointFits (started_joint b m)
unfolding started_joint started_kernel
started_joint_fits b m grammar = harts_fit b.kernel.entry b.kernel.harts grammar.kernel.entry

given_fits : (f : FileContents) (x y : Joint) → IsGiven f x y → JointFits x → JointFits y
given_fits f x y given all = subst AllFit (sym (given_keeps f x y given).harts) all

opened_fits : (b : Bundle) (from : Beginning) → IsInGrammar b → (o : RunEdge) → opening_from b from ≡ Ok o →
    JointFits o.joint
opened_fits b from grammar = begins JointFits b from (λ m. started_joint_fits b m grammar) given_fits

-- Words that are held have no other bits.

bits_by : (sie spie : Bool) (spp : Mode) (sum mxr : Bool) →
    let w = sstatus_word (record { sie = sie; spie = spie; spp = spp; sum = sum; mxr = mxr }) in
    bit_and w (2 ^ 1 + 2 ^ 5 + 2 ^ 8 + 2 ^ 18 + 2 ^ 19) ≡ w
bits_by true true S true true = refl
bits_by true true S true false = refl
bits_by true true S false true = refl
bits_by true true S false false = refl
bits_by true true U true true = refl
bits_by true true U true false = refl
bits_by true true U false true = refl
bits_by true true U false false = refl
bits_by true false S true true = refl
bits_by true false S true false = refl
bits_by true false S false true = refl
bits_by true false S false false = refl
bits_by true false U true true = refl
bits_by true false U true false = refl
bits_by true false U false true = refl
bits_by true false U false false = refl
bits_by false true S true true = refl
bits_by false true S true false = refl
bits_by false true S false true = refl
bits_by false true S false false = refl
bits_by false true U true true = refl
bits_by false true U true false = refl
bits_by false true U false true = refl
bits_by false true U false false = refl
bits_by false false S true true = refl
bits_by false false S true false = refl
bits_by false false S false true = refl
bits_by false false S false false = refl
bits_by false false U true true = refl
bits_by false false U true false = refl
bits_by false false U false true = refl
bits_by false false U false false = refl

status_bits : (w : ℕ) → sstatus_word (sstatus_of w) ≡ w →
    bit_and w (2 ^ 1 + 2 ^ 5 + 2 ^ 8 + 2 ^ 18 + 2 ^ 19) ≡ w
status_bits w is =
    let s : Sstatus = sstatus_of w in
    subst (λ (x : ℕ). bit_and x (2 ^ 1 + 2 ^ 5 + 2 ^ 8 + 2 ^ 18 + 2 ^ 19) ≡ x) is
    (bits_by s.sie s.spie s.spp s.sum s.mxr)

timer_by : (b : Bool) → bit_and (bit 5 b) (2 ^ 5) ≡ bit 5 b
timer_by true = refl
timer_by false = refl

timer_bits : (w : ℕ) → bit 5 (has_bit w 5) ≡ w → bit_and w (2 ^ 5) ≡ w
timer_bits w is = subst (λ (x : ℕ). bit_and x (2 ^ 5) ≡ x) is (timer_by (has_bit w 5))

address_bits : (w : ℕ) → aligned w ≡ w → w < 2 ^ 32 → bit_and w (2 ^ 32 - 4) ≡ w
address_bits w is below =
    let parts : bit_and w (2 ^ 32 - 4) + w % 4 ≡ w = and_high_numeral w (2 ^ 32 - 5) refl below in
    omega (arith, is, parts)

word_bits : (w : ℕ) → w < 2 ^ 32 → bit_and w (2 ^ 32 - 1) ≡ w
word_bits w below =
    let rest : bit_and w (2 ^ 32 - 1) ≡ w % 2 ^ 32 = and_numeral w (2 ^ 32 - 2) refl in omega (arith, rest, below)

-- the bits that a register keeps, by its number
abbrev bits : ℕ → ℕ
bits n =
    cond (n == csr.sstatus) (2 ^ 1 + 2 ^ 5 + 2 ^ 8 + 2 ^ 18 + 2 ^ 19)
    (cond (n == csr.sie) (2 ^ 5)
    (cond (n == csr.stvec) (2 ^ 32 - 4)
    (cond (n == csr.sepc) (2 ^ 32 - 4) (cond (n == csr.sip) (2 ^ 5) (2 ^ 32 - 1)))))

only_by : (status sie stvec sepc sip : Bool) (w : ℕ) → clean_by status sie stvec sepc sip w ≡ w → w < 2 ^ 32 →
    bit_and w
    (cond status (2 ^ 1 + 2 ^ 5 + 2 ^ 8 + 2 ^ 18 + 2 ^ 19)
    (cond sie (2 ^ 5)
    (cond stvec (2 ^ 32 - 4) (cond sepc (2 ^ 32 - 4) (cond sip (2 ^ 5) (2 ^ 32 - 1))))))
    ≡ w
only_by true sie stvec sepc sip w is below = status_bits w is
only_by false true stvec sepc sip w is below = timer_bits w is
only_by false false true sepc sip w is below = address_bits w is below
only_by false false false true sip w is below = address_bits w is below
only_by false false false false true w is below = timer_bits w is
only_by false false false false false w is below = word_bits w below

only_bits : (n w : ℕ) → clean n w ≡ w → w < 2 ^ 32 → bit_and w (bits n) ≡ w
only_bits n w is below =
    only_by (n == csr.sstatus) (n == csr.sie) (n == csr.stvec) (n == csr.sepc) (n == csr.sip) w is below

all_only : (numbers : List ℕ) (csrs : Csrs) → map (λ (entry : ℕ × ℕ). entry.0) csrs ≡ numbers → AreClean csrs →
    AllByRecursion (λ (entry : ℕ × ℕ). IsWord entry.1) csrs → HaveOnly (map bits numbers) (csr_words csrs)
all_only [] [] is clean words = tt
all_only [] (e ∷ csrs) is clean words = absurd cc
all_only (n ∷ numbers) [] is clean words = absurd cc
all_only (n ∷ numbers) (e ∷ csrs) is clean words =
    let first : e.0 ≡ n = cc in
    let rest : map (λ (entry : ℕ × ℕ). entry.0) csrs ≡ numbers = cc in (
      subst (λ (k : ℕ). bit_and e.1 (bits k) ≡ e.1) first (only_bits e.0 e.1 clean.0 words.0),
      all_only numbers csrs rest clean.1 words.1,
    )

-- The law.

in_range : (h : Hart) → Fits h → HasHartWords h → IsInRange h
in_range h fits words = record {
  registers = fits.regs.count;
  zero_register = fits.regs.none;
  pc = fits.pc;
  csrs = all_only csr_numbers h.csrs fits.csrs.numbers fits.csrs.clean words.csrs;
}

all_in_range : (harts : List Hart) → AllFit harts → AllByRecursion HasHartWords harts → AllByRecursion IsInRange harts
all_in_range [] all words = tt
all_in_range (h ∷ harts) all words = (in_range h all.0 words.0, all_in_range harts all.1 words.1)

pub fits_at : (b : Bundle) (from : Beginning) (budget : ℕ) (r : Run) → IsInGrammar b → run_from b from budget ≡ Ok r →
    (n : ℕ) → JointFits (joint_until n r)
fits_at b from budget r grammar =
    at_every_moment JointFits b from budget r (opened_fits b from grammar) (λ m same here. joint_fits m here)

pub harts_are_in_range : HartsAreInRange
harts_are_in_range b from budget r grammar bytes all is n =
    all_in_range (joint_until n r).harts (fits_at b from budget r grammar is n)
    (runs_have_words b from budget r grammar bytes all is n).harts
