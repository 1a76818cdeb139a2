-- A step of a program, an interrupt, a resuming and an end, whatever is answered.
use Rattle.std.proofs.Common.{◌≡◌, ◌⊎◌, inl, inr, ℕ, zero, suc, ◌<◌, Bool, true, false, cond, List, [], ◌∷◌, map, slice_set, slice_index_or, Option, Some, None, Ok, Err, refl, sym, ◌∙◌, ap, subst, arith}
use Rattle.std.specs.Prelude.{All, IfSome, is_some, replicate, unwrap_or}
use Rattle.std.proofs.lemmas.List.{length-map, set-set}
use Rattle.std.proofs.lemmas.List.Elements.{All-nil}
use Rattle.cloak_base.specs.declared.names.HartId.{HartId}
use Rattle.cloak_model.specs.declared.context.Phase.{Phase}
use Rattle.cloak_model.specs.declared.context.Phase.TheVariants.{Waiting}
use Rattle.cloak_model.specs.declared.context.ResumeFault.{ResumeFault}
use Rattle.cloak_model.specs.declared.context.ResumeFault.TheVariants as fault
use Rattle.cloak_model.specs.declared.context.PageWord.{PageWord}
use Rattle.cloak_model.specs.declared.inside.Copied.{Copied}
use Rattle.cloak_model.specs.declared.inside.Copied.TheVariants as copied
use Rattle.cloak_model.specs.declared.inside.Ran.{Ran}
use Rattle.cloak_model.specs.declared.inside.Ran.TheVariants as ran
use Rattle.cloak_model.specs.declared.resource.Region.{Region}
use Rattle.cloak_model.specs.declared.resource.Resource.{Resource}
use Rattle.cloak_model.specs.Calls.{Copy, finish_call}
use Rattle.cloak_model.specs.Contexts.{Context, context_at, with_context, is_reserved, unless_reserved, Resumed, resume_if, resume_at}
use Rattle.cloak_model.specs.DomainState.{Control, Domain}
use Rattle.cloak_model.specs.DomainStep.{DomainStepped, instruction_ended, copy_ended, after_write, domain_step, interrupt_if, interrupt, answer_in, answer_taken, resume_told, resume_slot}
use Rattle.cloak_model.specs.Ending.{ended_domain}
use Rattle.cloak_model.specs.InsideStep.{AfterInstruction}
use Rattle.cloak_model.specs.Resources.{Resources}
use Rattle.cloak_model.specs.World.{World}
use Rattle.cloak_model.specs.Script.{played}
use Rattle.cloak_model.proofs.Playing.{by_ecall}
use Rattle.resource_map.specs.Kept.{IsInUse, IsHeld, IsMapped, IsSound}
use Rattle.resource_map.proofs.Lists.{get_or-replicate_none}
use Rattle.frozen_state.specs.Limits.{IsPhase, WaitsOnNoHart, IsSteady, IsContext, IsSpace, KeepsLimits}
use Rattle.limit_law.proofs.Contexts.{AfterOne}
use Rattle.limit_law.proofs.Copies.{StaysIdle, AfterCopy, finish_one}
use Rattle.limit_law.proofs.Hypercalls.{IsRunning, runs, stays_kept, leaves_kept, idle_plain, slot_kept, hypercall_kept}
use Rattle.limit_law.proofs.StepEnds.{step_holds}
use Rattle.limit_law.proofs.Resources.{no_regions}

moved : (r : Resources) (c k : Context) → IsRunning r c → IsSteady k → k.space ≡ c.space → k.on ≡ c.on → IsRunning r k
moved r c k here s space on = record {
  steady = s;
  hart = subst (λ (o : Option HartId). IfSome o (λ hart. hart.0 < 4)) (sym on) here.hart;
  space = subst (IsInUse r) (sym space) here.space;
}

ended_kept : (slot : ℕ) (d : Domain) (c : Context) (a : AfterInstruction) (e : Ran) (w : World) → a.ending ≡ e →
    AfterOne c a → KeepsLimits d.control → IsRunning d.control.resources c →
    KeepsLimits (played (instruction_ended slot d a.context e) w).answer.domain.control
unfolding instruction_ended
ended_kept slot d c a (ran.Trap cause address) w is one keeps here =
    leaves_kept slot a.context d.control keeps (moved _ c a.context here one.steady one.space one.on)
ended_kept slot d c a ran.Ecall w is one keeps here =
    by_ecall (λ t. KeepsLimits t.answer.domain.control) slot d a.context w
    (hypercall_kept _ slot a.context d.control w one.phase keeps
    (moved _ c a.context here one.steady one.space one.on))
ended_kept slot d c a ran.Stopped w is one keeps here = keeps
ended_kept slot d c a _ w is one keeps here =
    stays_kept slot a.context d.control keeps (moved _ c a.context here one.steady one.space one.on)
    (idle_plain a.context one.phase)

copied_kept : (slot : ℕ) (d : Domain) (c k : Context) (e : Copied) → IsRunning d.control.resources k → StaysIdle e k →
    KeepsLimits d.control → KeepsLimits (copy_ended slot d k e).domain.control
unfolding copy_ended
copied_kept slot d c k copied.CallReady here idle keeps = leaves_kept slot k d.control keeps here
copied_kept slot d c k (copied.Absent cause address) here idle keeps = leaves_kept slot k d.control keeps here
copied_kept slot d c k copied.Stopped here idle keeps = keeps
copied_kept slot d c k _ here idle keeps = stays_kept slot k d.control keeps here idle

copy_kept : (slot : ℕ) (d : Domain) (c : Context) (k : Copy) → AfterCopy c k → KeepsLimits d.control →
    IsRunning d.control.resources c → KeepsLimits (copy_ended slot d k.context k.ending).domain.control
copy_kept slot d c k one keeps here =
    copied_kept slot d c k.context k.ending (moved _ c k.context here one.steady one.space one.on) one.idle keeps

-- A word of a page was written in: a reservation of it ends.

unreserved : (r : Resources) (t : Bool) (c : Context) → IsContext r c →
    IsContext r (cond t (record c { mark = None }) c)
unreserved r true c here = record {
  steady = record {
    registers = here.steady.registers;
    zero_register = here.steady.zero_register;
    aligned = here.steady.aligned;
    phase = here.steady.phase;
    mark = tt;
  };
  waiting = here.waiting;
  hart = here.hart;
  space = here.space;
}
unreserved r false c here = here

slot_written : (r : Resources) (place : PageWord) (o : Option Context) → IfSome o (IsContext r) →
    IfSome (unless_reserved place o) (IsContext r)
slot_written r place None here = tt
slot_written r place (Some c) here = unreserved r (is_reserved place c.mark) c here

slots_written : (r : Resources) (place : PageWord) (contexts : List (Option Context)) →
    ((slot : ℕ) → IfSome (context_at contexts slot) (IsContext r)) → (slot : ℕ) →
    IfSome (context_at (map (unless_reserved place) contexts) slot) (IsContext r)
slots_written r place [] each slot = tt
slots_written r place (c ∷ contexts) each zero = slot_written r place c (each zero)
slots_written r place (c ∷ contexts) each (suc slot) = slots_written r place contexts (λ k. each (suc k)) slot

written_kept : (wrote : Option PageWord) (s : DomainStepped) → KeepsLimits s.domain.control →
    KeepsLimits (after_write wrote s).domain.control
written_kept None s keeps = keeps
written_kept (Some place) s keeps = record {
  slots = length-map s.domain.control.contexts (unless_reserved place) ∙ keeps.slots;
  contexts = slots_written s.domain.control.resources place s.domain.control.contexts keeps.contexts;
  resources = keeps.resources;
  regions = keeps.regions;
}

pub step_kept : (slot : ℕ) (d : Domain) (w : World) → KeepsLimits d.control →
    KeepsLimits (domain_step slot d w).answer.domain.control
step_kept slot d w keeps =
    step_holds (λ s. KeepsLimits s.domain.control) slot d w keeps keeps (λ c is here. record {
      ended = λ a v one. ended_kept slot d c a a.ending v refl one keeps (runs _ c here);
      copied = λ k one. copy_kept slot d c k one keeps (runs _ c here);
      waits = stays_kept slot c d.control keeps (runs _ c here) here.waiting;
      written = written_kept;
    })

interrupt_if_kept : (o : Option Context) (slot : ℕ) (d : Control) → KeepsLimits d →
    IfSome o (IsContext d.resources) → KeepsLimits (interrupt_if o slot d).control
unfolding interrupt_if
interrupt_if_kept None slot d keeps here = keeps
interrupt_if_kept (Some c) slot d keeps here = leaves_kept slot c d keeps (runs _ c here)

pub interrupt_kept : (slot : ℕ) (d : Control) → KeepsLimits d → KeepsLimits (interrupt slot d).control
unfolding interrupt
interrupt_kept slot d keeps = interrupt_if_kept _ slot d keeps (keeps.contexts slot)

-- Resuming. In its middle a context that waits is on a hart, so its two changes are taken together.

answer_is_context : (phase : Phase) (answer : ℕ) (r : Resources) (c : Context) → c.phase ≡ phase → IsRunning r c →
    IsContext r (answer_in phase answer c)
unfolding answer_in
answer_is_context Waiting answer r c is here =
    let one = finish_one c here.steady answer (subst (IsPhase c.regs) is here.steady.phase) in
    record {
      steady = one.steady;
      waiting = one.idle (finish_call answer c).on;
      hart = subst (λ (o : Option HartId). IfSome o (λ hart. hart.0 < 4)) (sym one.on) here.hart;
      space = subst (IsInUse r) (sym one.space) here.space;
    }
answer_is_context _ answer r c is here = record {
  steady = here.steady;
  waiting = subst (λ (p : Phase). WaitsOnNoHart p c.on) (sym is) tt;
  hart = here.hart;
  space = here.space;
}

-- the slot that was just written, if there is such a slot
set_there : {A : Type 0} (xs : List (Option A)) (i : ℕ) (x : A) (o : Option A) →
    slice_index_or (slice_set xs i (Some x)) i None ≡ o → (o ≡ Some x) ⊎ (o ≡ None)
set_there [] i x o is = inr (sym is)
set_there (y ∷ xs) zero x o is = inl (sym is)
set_there (y ∷ xs) (suc i) x o is = set_there xs i x o is

past : {A : Type 0} (xs : List (Option A)) (i : ℕ) (x : A) → slice_index_or (slice_set xs i (Some x)) i None ≡ None →
    slice_set xs i (Some x) ≡ xs
past [] i x is = refl
past (y ∷ xs) zero x is = absurd cc
past (y ∷ xs) (suc i) x is = ap (λ (l : List _). y ∷ l) (past xs i x is)

taken_kept : (slot answer : ℕ) (d : Control) (c : Context) (o : Option Context) → KeepsLimits d →
    IsRunning d.resources c → (o ≡ Some c) ⊎ (o ≡ None) →
    (o ≡ None → with_context slot c d.contexts ≡ d.contexts) →
    KeepsLimits (answer_taken slot answer o (record d { contexts = with_context slot c d.contexts }))
unfolding answer_taken
taken_kept slot answer d c None keeps here is past =
    subst (λ (contexts : List (Option Context)). KeepsLimits (record d { contexts = contexts })) (sym (past refl)) keeps
taken_kept slot answer d c (Some k) keeps here (inr none) past = absurd cc
taken_kept slot answer d c (Some k) keeps here (inl same) past =
    let is : k ≡ c = cc in
    let changed = slot_kept d slot (answer_in k.phase answer k) keeps
    (answer_is_context k.phase answer d.resources k refl (subst (IsRunning d.resources) (sym is) here)) in
    subst (λ (contexts : List (Option Context)). KeepsLimits (record d { contexts = contexts }))
    (sym (set-set d.contexts slot (Some c) (Some (answer_in k.phase answer k)))) changed

resumed_kept : (slot answer : ℕ) (d : Control) (c : Context) → KeepsLimits d → IsRunning d.resources c →
    KeepsLimits (resume_told slot answer (Ok tt) (record d { contexts = with_context slot c d.contexts })).control
unfolding resume_told
resumed_kept slot answer d c keeps here =
    taken_kept slot answer d c _ keeps here (set_there d.contexts slot c _ refl) (λ none. past d.contexts slot c none)

abbrev Tells : ℕ → ℕ → Control → Resumed → Type 0
Tells slot answer d made = KeepsLimits (resume_told slot answer made.answer (record d { contexts = made.contexts })).control

busy_kept : (slot answer : ℕ) (d : Control) (f : ResumeFault) → KeepsLimits d →
    Tells slot answer d (record { answer = Err f; contexts = d.contexts })
unfolding resume_told
busy_kept slot answer d f keeps = keeps

by_busy : (busy : Bool) (slot answer : ℕ) (d : Control) (x y : Resumed) → Tells slot answer d x → Tells slot answer d y →
    Tells slot answer d (cond busy x y)
by_busy true slot answer d x y here there = here
by_busy false slot answer d x y here there = there

resume_if_kept : (slot hart answer : ℕ) (o : Option Context) (d : Control) → hart < 4 → KeepsLimits d →
    IfSome o (IsContext d.resources) → Tells slot answer d (resume_if slot hart o d.contexts)
unfolding resume_if
resume_if_kept slot hart answer None d low keeps here = busy_kept slot answer d fault.NoContext keeps
resume_if_kept slot hart answer (Some c) d low keeps here =
    by_busy (is_some c.on) slot answer d _ _ (busy_kept slot answer d fault.Busy keeps)
    (resumed_kept slot answer d (record c { on = Some (record { 0 = hart }) }) keeps (record {
      steady = record {
        registers = here.steady.registers;
        zero_register = here.steady.zero_register;
        aligned = here.steady.aligned;
        phase = here.steady.phase;
        mark = here.steady.mark;
      };
      hart = low;
      space = here.space;
    }))

pub resume_kept : (slot hart answer : ℕ) (d : Control) → hart < 4 → KeepsLimits d →
    KeepsLimits (resume_slot slot hart answer d).control
unfolding resume_slot resume_at
resume_kept slot hart answer d low keeps = resume_if_kept slot hart answer _ d low keeps (keeps.contexts slot)

-- The end: nothing is left that a limit could be broken by.

nothing_sound : IsSound (record { held = replicate 16 None; spaces = replicate 8 None })
nothing_sound =
    let r : Resources = record { held = replicate 16 None; spaces = replicate 8 None } in
    record {
      numbers = refl;
      places = refl;
      held = λ n. subst (λ (o : Option Resource). IfSome o (IsHeld r)) (sym (get_or-replicate_none 16 n)) tt;
      few = omega arith;
      files = λ number. omega arith;
      mapped = λ space. subst (λ (o : Option (List Region)). All (IsMapped r space) (unwrap_or o []))
          (sym (get_or-replicate_none 8 space)) (All-nil (IsMapped r space));
    }

pub end_kept : (d : Domain) → KeepsLimits (ended_domain d).control
unfolding ended_domain
end_kept d =
    let r : Resources = record { held = replicate 16 None; spaces = replicate 8 None } in
    record {
      slots = refl;
      contexts = λ slot. subst (λ (o : Option Context). IfSome o (IsContext r)) (sym (get_or-replicate_none 8 slot)) tt;
      resources = nothing_sound;
      regions = λ space. subst (λ (o : Option (List Region)). IsSpace (unwrap_or o [])) (sym (get_or-replicate_none 8 space))
          no_regions;
    }
