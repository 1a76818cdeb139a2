-- What a step leaves before the end of a domain: what ended programs, how often there was none to end, and which ended.
use Rattle.std.proofs.Common.{◌≡◌, ◌∙◌, ℕ, zero, suc, Bool, true, false, List, [], ◌∷◌, map, slice_get, slice_set, Option, Some, None, Result, Ok, Err, refl, ap}
use Rattle.cloak_model.specs.declared.context.ResumeFault.{ResumeFault}
use Rattle.cloak_model.specs.declared.inside.Went.{Went}
use Rattle.cloak_model.specs.declared.inside.Went.TheVariants as went
use Rattle.cloak_model.specs.Items.{Item}
use Rattle.cloak_model.specs.declared.outcome.Kernel.{Kernel}
use Rattle.cloak_model.specs.declared.outcome.Kernel.TheVariants.{Put, Resume}
use Rattle.cloak_model.specs.Asking.{Told}
use Rattle.cloak_model.specs.Contexts.{Admitted, domain_of, slot_of}
use Rattle.cloak_model.specs.DomainState.{Control, Domain}
use Rattle.cloak_model.specs.DomainStep.{DomainStepped}
use Rattle.cloak_model.specs.Hart.{Hart}
use Rattle.cloak_model.specs.Hypercalls.{Stepped}
use Rattle.cloak_model.specs.Joint.{Moment, next_hart, outside_ended, after_outside, outside_step, domain_ended, after_domain_step, interrupt_ended, after_interrupt, by_interrupt, by_running, inside_step, turn_of, step_before_end}
use Rattle.cloak_model.specs.KernelStep.{ticked}
use Rattle.cloak_model.specs.Parts.{Joint}
use Rattle.cloak_model.specs.Resuming.{resume}
use Rattle.cloak_model.proofs.ResumeParts.{by_root, by_context, by_domain}
use Rattle.cloak_model.specs.World.{World}
use Rattle.limit_law.proofs.Flags.{SameFlag, step_flag, interrupt_flag, resume_flag}

-- which programs have ended
abbrev pub flags : List Domain → List Bool
flags domains = map (λ (d : Domain). d.control.ended) domains

pub record LeavesEnded (j j' : Joint) : Type 0 where
  pub ended : j'.ended ≡ j.ended
  pub refused : j'.refused ≡ j.refused
  pub flags : flags j'.domains ≡ flags j.domains

pub flags_set : (domains : List Domain) (i : ℕ) (was new : Domain) → slice_get domains i ≡ Some was →
    SameFlag was.control new.control → flags (slice_set domains i new) ≡ flags domains
flags_set [] i was new is same = refl
flags_set (x ∷ domains) zero was new is same =
    let here : was ≡ x = cc in
    ap (λ (b : Bool). b ∷ flags domains) (same.ended ∙ ap (λ (d : Domain). d.control.ended) here)
flags_set (x ∷ domains) (suc i) was new is same =
    ap (λ (l : List Bool). x.control.ended ∷ l) (flags_set domains i was new is same)

none_left : (j : Joint) → LeavesEnded j j
none_left j = record { ended = refl; refused = refl; flags = refl }

-- A hart outside.

root_leaves : (j : Joint) (satp ctx reply : ℕ) (was : Domain) (control : Control) (admitted : Admitted)
    (answer : Result (Unit {0}) ResumeFault) → slice_get j.domains (domain_of ctx) ≡ Some was →
    SameFlag was.control control → LeavesEnded j (by_root j satp ctx reply was control admitted answer).joint
unfolding by_root
root_leaves j satp ctx reply was control admitted (Err fault) is same = none_left j
root_leaves j satp ctx reply was control admitted (Ok done) is same = record {
  ended = refl;
  refused = refl;
  flags = flags_set j.domains (domain_of ctx) was (record was { control = control }) is same;
}

context_leaves : (j : Joint) (satp ctx reply : ℕ) (was : Domain) (control : Control)
    (answer : Result (Unit {0}) ResumeFault) → slice_get j.domains (domain_of ctx) ≡ Some was →
    SameFlag was.control control → LeavesEnded j (by_context j satp ctx reply was control answer).joint
unfolding by_context
context_leaves j satp ctx reply was control (Err fault) is same = none_left j
context_leaves j satp ctx reply was control (Ok done) is same = root_leaves j satp ctx reply was control _ _ is same

domain_leaves : (j : Joint) (hart satp ctx reply : ℕ) (found : Option Domain) →
    slice_get j.domains (domain_of ctx) ≡ found → LeavesEnded j (by_domain j hart satp ctx reply found).joint
unfolding by_domain
domain_leaves j hart satp ctx reply None is = none_left j
domain_leaves j hart satp ctx reply (Some was) is =
    context_leaves j satp ctx reply was _ _ is (resume_flag (slot_of ctx) hart reply was.control)

resume_leaves : (j : Joint) (hart satp ctx reply : ℕ) → LeavesEnded j (resume j hart satp ctx reply).joint
unfolding resume by_domain by_context by_root
resume_leaves j hart satp ctx reply = domain_leaves j hart satp ctx reply _ refl

ended_leaves : (j : Joint) (number : ℕ) (items : List Item) (e : Kernel) →
    LeavesEnded j (outside_ended j number items e).joint
unfolding outside_ended
ended_leaves j number items (Put b) = record { ended = refl; refused = refl; flags = refl }
ended_leaves j number items (Resume ctx reply) = resume_leaves j number _ ctx reply
ended_leaves j number items _ = none_left j

outside_leaves : (j : Joint) (number : ℕ) (h : Hart) → LeavesEnded j (outside_step j number h).joint
unfolding outside_step after_outside
outside_leaves j number h =
    let e = ended_leaves _ number _ _ in record { ended = e.ended; refused = e.refused; flags = e.flags }

-- A hart inside.

went_leaves : (j : Joint) (number : ℕ) (h : Hart) (d : ℕ) (w : World) (how : Went) →
    LeavesEnded j (domain_ended j number h d w how).joint
unfolding domain_ended
went_leaves j number h d w went.Stay = record { ended = refl; refused = refl; flags = refl }
went_leaves j number h d w _ = record { ended = refl; refused = refl; flags = refl }

stepped_leaves : (j : Joint) (number : ℕ) (h : Hart) (d : ℕ) (told : Told DomainStepped) (was : Domain) →
    slice_get j.domains d ≡ Some was → SameFlag was.control told.answer.domain.control →
    LeavesEnded j (after_domain_step j number h d told).joint
unfolding after_domain_step
stepped_leaves j number h d told was is same =
    let e = went_leaves _ number h d told.world told.answer.went in
    record {
      ended = e.ended;
      refused = e.refused;
      flags = e.flags ∙ flags_set j.domains d was told.answer.domain is same;
    }

interrupted_leaves : (j : Joint) (number : ℕ) (h : Hart) (items : List Item) (how : Went) →
    LeavesEnded j (interrupt_ended j number h items how).joint
unfolding interrupt_ended
interrupted_leaves j number h items went.Stay = record { ended = refl; refused = refl; flags = refl }
interrupted_leaves j number h items _ = record { ended = refl; refused = refl; flags = refl }

left_leaves : (j : Joint) (number : ℕ) (h : Hart) (d : ℕ) (was : Domain) (step : Stepped) →
    slice_get j.domains d ≡ Some was → SameFlag was.control step.control →
    LeavesEnded j (after_interrupt j number h d was step).joint
unfolding after_interrupt
left_leaves j number h d was step is same =
    let e = interrupted_leaves _ number h _ step.went in
    record {
      ended = e.ended;
      refused = e.refused;
      flags = e.flags ∙ flags_set j.domains d was (record was { control = step.control }) is same;
    }

due_leaves : (due : Bool) (j : Joint) (number : ℕ) (h : Hart) (d slot : ℕ) (was : Domain) →
    slice_get j.domains d ≡ Some was → LeavesEnded j (by_interrupt due j number h d slot was).joint
unfolding by_interrupt
due_leaves true j number h d slot was is = left_leaves j number h d was _ is (interrupt_flag slot was.control)
due_leaves false j number h d slot was is = stepped_leaves j number h d _ was is (step_flag slot was _)

running_leaves : (runs : Bool) (j : Joint) (number : ℕ) (h : Hart) (ctx : ℕ) (was : Domain) →
    slice_get j.domains (domain_of ctx) ≡ Some was → LeavesEnded j (by_running runs j number h ctx was).joint
unfolding by_running
running_leaves false j number h ctx was is = record { ended = refl; refused = refl; flags = refl }
running_leaves true j number h ctx was is = due_leaves _ j number h (domain_of ctx) (slot_of ctx) was is

inside_leaves : (j : Joint) (number : ℕ) (h : Hart) (ctx : ℕ) (found : Option Domain) →
    slice_get j.domains (domain_of ctx) ≡ found → LeavesEnded j (inside_step j number h ctx found).joint
unfolding inside_step
inside_leaves j number h ctx None is = record { ended = refl; refused = refl; flags = refl }
inside_leaves j number h ctx (Some was) is = running_leaves _ j number h ctx was is

turn_leaves : (j : Joint) (number : ℕ) (h : Hart) (inside : Option ℕ) → LeavesEnded j (turn_of j number h inside).joint
unfolding turn_of
turn_leaves j number h None = outside_leaves j number h
turn_leaves j number h (Some ctx) = inside_leaves j number (ticked h) ctx _ refl

pub step_leaves : (m : Moment) → LeavesEnded m.joint (step_before_end m).joint
step_leaves m = turn_leaves m.joint (next_hart m) _ _
