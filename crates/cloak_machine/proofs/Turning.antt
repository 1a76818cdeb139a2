-- What a step makes of the console, and of the loads of each program.
use Rattle.std.proofs.Common.{◌≡◌, ◌≤◌, ◌∙◌, ℕ, ◌+◌, Bool, true, false, List, [], ◌∷◌, ◌++◌, length, Option, Some}
use Rattle.std.proofs.Common.{None}
use Rattle.std.proofs.Common.{Result, Ok, Err, refl, sym, subst, slice_set, arith, length-append}
use Rattle.std.specs.List.{slice_get}
use Rattle.std.proofs.lemmas.List.{append-nil}
use Rattle.std.proofs.lemmas.List.Elements.{All-set}
use Rattle.std.proofs.lemmas.Option.{slice_get_within, get_or_from_slice_get}
use Rattle.cloak_model.specs.declared.context.Phase.{Phase}
use Rattle.cloak_model.specs.declared.context.Phase.TheVariants.{Plain, CopyIn, Waiting, CopyOut}
use Rattle.cloak_model.specs.declared.context.ResumeFault.{ResumeFault}
use Rattle.cloak_model.specs.declared.inside.Copied.{Copied}
use Rattle.cloak_model.specs.declared.inside.Copied.TheVariants as copied
use Rattle.cloak_model.specs.declared.inside.Ran.{Ran}
use Rattle.cloak_model.specs.declared.inside.Ran.TheVariants as ran
use Rattle.cloak_model.specs.declared.inside.Went.{Went}
use Rattle.cloak_model.specs.declared.inside.Went.TheVariants as went
use Rattle.cloak_model.specs.Items.{Item}
use Rattle.cloak_model.specs.declared.outcome.Kernel.{Kernel}
use Rattle.cloak_model.specs.declared.outcome.Kernel.TheVariants.{Stay, Put, Resume}
use Rattle.cloak_model.specs.Asking.{Told}
use Rattle.cloak_model.specs.Ahead.{settled_step}
use Rattle.cloak_model.specs.Contexts.{Context, Admitted, domain_of, slot_of}
use Rattle.cloak_model.specs.Csr.{satp_of}
use Rattle.cloak_model.specs.DomainState.{Control, Domain}
use Rattle.cloak_model.specs.DomainStep.{DomainStepped}
use Rattle.script_fold.proofs.OneLoad.{LoadsOnce, no_load, loads_step}
use Rattle.cloak_model.specs.DomainStep.{DomainStepped}
use Rattle.script_fold.proofs.OneLoad.{LoadsOnce, no_load, loads_step}
use Rattle.cloak_model.specs.declared.context.PageWord.{PageWord}
use Rattle.cloak_model.specs.Hart.{Hart}
use Rattle.cloak_model.specs.HostCalls.{SteppedKernel}
use Rattle.cloak_base.specs.declared.causes.Violation.{Violation}
use Rattle.cloak_model.specs.Ending.{ended_domain}
use Rattle.cloak_model.specs.Joint.{Turn, hart_in, turn_of, outside_step, after_outside, outside_ended, inside_step}
use Rattle.cloak_model.specs.Joint.{by_interrupt, after_interrupt, interrupt_ended, after_domain_step, domain_ended}
use Rattle.cloak_model.specs.Joint.{by_running, domain_met, end_domain, refuses, ends_once, ends_resumed, ends_asked}
use Rattle.cloak_model.specs.Joint.{answers_violation}
use Rattle.cloak_model.specs.KernelStep.{ticked}
use Rattle.cloak_model.specs.Parts.{Joint}
use Rattle.cloak_model.specs.Resuming.{resume, AfterResume}
use Rattle.cloak_model.proofs.ResumeParts.{by_domain, by_context, by_root}
use Rattle.cloak_model.specs.World.{World}
use Rattle.joint_machine.specs.Standing.{step_in}
use Rattle.cloak_machine.specs.Standing.{HaveFewLoads}

-- each program completed at most one load more
pub record LoadOnce (old new : List Domain) : Type 0 where
  pub few : (n : ℕ) → HaveFewLoads n old → HaveFewLoads (n + 1) new

load_none : (domains : List Domain) → LoadOnce domains domains
load_none domains = record {
  few = λ n few k d low. let here = few k d low in omega (arith, here);
}

few_at : (n d : ℕ) (domains : List Domain) (domain : Domain) → slice_get domains d ≡ Some domain →
    HaveFewLoads n domains → length domain.loads ≤ n
few_at n d domains domain there few =
    subst (λ (x : Domain). length x.loads ≤ n) (get_or_from_slice_get domains d domain domain there)
    (few d domain (slice_get_within domains d domain there))

-- a program is replaced by one that completed at most one load more
load_set : (d : ℕ) (domains : List Domain) (was now : Domain) → slice_get domains d ≡ Some was →
    length now.loads ≤ length was.loads + 1 → LoadOnce domains (slice_set domains d now)
load_set d domains was now there once = record {
  few = λ n few.
      let most = few_at n d domains was there few in
      All-set (λ (x : Domain). length x.loads ≤ n + 1) domains d now (omega (arith, once, most))
      ((load_none domains).few n few);
}

-- a program is replaced by one that completed the same loads
load_kept : (d : ℕ) (old new : List Domain) (was now : Domain) → slice_get new d ≡ Some was →
    length now.loads ≡ length was.loads → LoadOnce old new → LoadOnce old (slice_set new d now)
load_kept d old new was now there same once = record {
  few = λ n few.
      let next = once.few n few in
      let most = few_at (n + 1) d new was there next in
      All-set (λ (x : Domain). length x.loads ≤ n + 1) new d now (omega (arith, same, most)) next;
}

-- What a step goes on to: the console has what it showed, and loads are few.
pub record Goes (j : Joint) (t : Turn) : Type 0 where
  pub console : t.joint.console ≡ j.console ++ t.console
  pub loads : LoadOnce j.domains t.joint.domains

-- Resuming.

record Resumes (j : Joint) (r : AfterResume) : Type 0 where
  pub console : r.joint.console ≡ j.console
  pub loads : LoadOnce j.domains r.joint.domains

resumes_root : (j : Joint) (satp ctx reply : ℕ) (was : Domain) (control : Control) (admitted : Admitted)
    (answer : Result (Unit {0}) ResumeFault) → slice_get j.domains (domain_of ctx) ≡ Some was →
    Resumes j (by_root j satp ctx reply was control admitted answer)
unfolding by_root
resumes_root j satp ctx reply was control admitted (Err fault) there =
    record { console = refl; loads = load_none j.domains }
resumes_root j satp ctx reply was control admitted (Ok done) there = record {
  console = refl;
  loads = load_set (domain_of ctx) j.domains was (record was { control = control }) there (omega arith);
}

resumes_context : (j : Joint) (satp ctx reply : ℕ) (was : Domain) (control : Control)
    (answer : Result (Unit {0}) ResumeFault) → slice_get j.domains (domain_of ctx) ≡ Some was →
    Resumes j (by_context j satp ctx reply was control answer)
unfolding by_context
resumes_context j satp ctx reply was control (Err fault) there =
    record { console = refl; loads = load_none j.domains }
resumes_context j satp ctx reply was control (Ok done) there = resumes_root j satp ctx reply was control _ _ there

resumes_domain : (j : Joint) (hart satp ctx reply : ℕ) (found : Option Domain) →
    slice_get j.domains (domain_of ctx) ≡ found → Resumes j (by_domain j hart satp ctx reply found)
unfolding by_domain
resumes_domain j hart satp ctx reply None there = record { console = refl; loads = load_none j.domains }
resumes_domain j hart satp ctx reply (Some was) there = resumes_context j satp ctx reply was _ _ there

resumes : (j : Joint) (hart satp ctx reply : ℕ) → Resumes j (resume j hart satp ctx reply)
unfolding resume by_domain by_context by_root
resumes j hart satp ctx reply = resumes_domain j hart satp ctx reply _ refl

-- A hart outside.

goes_ended : (j : Joint) (number : ℕ) (items : List Item) (k : Kernel) → Goes j (outside_ended j number items k)
unfolding outside_ended
goes_ended j number items (Put b) = record { console = refl; loads = load_none j.domains }
goes_ended j number items (Resume ctx answer) =
    let r = resumes j number (satp_of (hart_in j number).csrs) ctx answer in
    record { console = r.console ∙ sym (append-nil j.console); loads = r.loads }
goes_ended j number items _ = record { console = sym (append-nil j.console); loads = load_none j.domains }

goes_outside : (j : Joint) (number : ℕ) (told : Told SteppedKernel) → Goes j (after_outside j number told)
unfolding after_outside
goes_outside j number told =
    let goes = goes_ended _ number _ told.answer.ending in record { console = goes.console; loads = goes.loads }

-- A hart inside.

goes_domain : (j j' : Joint) (number : ℕ) (h : Hart) (d : ℕ) (w : World) (how : Went) → j'.console ≡ j.console →
    LoadOnce j.domains j'.domains → Goes j (domain_ended j' number h d w how)
unfolding domain_ended
goes_domain j j' number h d w went.Stay console loads =
    record { console = console ∙ sym (append-nil j.console); loads = loads }
goes_domain j j' number h d w _ console loads =
    record { console = console ∙ sym (append-nil j.console); loads = loads }

goes_domain_step : (j : Joint) (number : ℕ) (h : Hart) (d : ℕ) (was : Domain) (told : Told DomainStepped) →
    slice_get j.domains d ≡ Some was → LoadsOnce was told.answer → Goes j (after_domain_step j number h d told)
unfolding after_domain_step
goes_domain_step j number h d was told there once =
    goes_domain j _ number h d told.world told.answer.went refl
    (load_set d j.domains was told.answer.domain there once)

goes_interrupt : (j j' : Joint) (number : ℕ) (h : Hart) (items : List Item) (how : Went) → j'.console ≡ j.console →
    LoadOnce j.domains j'.domains → Goes j (interrupt_ended j' number h items how)
unfolding interrupt_ended
goes_interrupt j j' number h items went.Stay console loads =
    record { console = console ∙ sym (append-nil j.console); loads = loads }
goes_interrupt j j' number h items _ console loads =
    record { console = console ∙ sym (append-nil j.console); loads = loads }

goes_by_interrupt : (due : Bool) (j : Joint) (number : ℕ) (h : Hart) (d slot : ℕ) (was : Domain) →
    slice_get j.domains d ≡ Some was → Goes j (by_interrupt due j number h d slot was)
unfolding by_interrupt after_interrupt
goes_by_interrupt true j number h d slot was there =
    goes_interrupt j _ number h _ _ refl (load_set d j.domains was _ there (no_load (length was.loads)))
goes_by_interrupt false j number h d slot was there =
    goes_domain_step j number h d was _ there (loads_step slot was _)

goes_running : (runs : Bool) (j : Joint) (number : ℕ) (h : Hart) (ctx : ℕ) (was : Domain) →
    slice_get j.domains (domain_of ctx) ≡ Some was → Goes j (by_running runs j number h ctx was)
unfolding by_running
goes_running false j number h ctx was there =
    record { console = sym (append-nil j.console); loads = load_none j.domains }
goes_running true j number h ctx was there =
    goes_by_interrupt _ j number h (domain_of ctx) (slot_of ctx) was there

goes_inside : (j : Joint) (number : ℕ) (h : Hart) (ctx : ℕ) (found : Option Domain) →
    slice_get j.domains (domain_of ctx) ≡ found → Goes j (inside_step j number h ctx found)
unfolding inside_step
goes_inside j number h ctx None there =
    record { console = sym (append-nil j.console); loads = load_none j.domains }
goes_inside j number h ctx (Some was) there = goes_running _ j number h ctx was there

goes_turn : (j : Joint) (number : ℕ) (h : Hart) (inside : Option ℕ) → Goes j (turn_of j number h inside)
unfolding turn_of outside_step
goes_turn j number h None = goes_outside j number (settled_step h j.disk _)
goes_turn j number h (Some ctx) = goes_inside j number (ticked h) ctx _ refl

-- The end of a domain: its loads stay, and nothing is shown.

goes_end : (j : Joint) (d : ℕ) (was : Domain) (v : Violation) (t : Turn) → slice_get t.joint.domains d ≡ Some was →
    Goes j t → Goes j (end_domain d was v t)
unfolding end_domain ended_domain
goes_end j d was v t there goes = record {
  console = goes.console;
  loads = load_kept d j.domains t.joint.domains was _ there refl goes.loads;
}

goes_refused : (j : Joint) (t : Turn) → Goes j t → Goes j (refuses t)
goes_refused j t goes = record { console = goes.console; loads = goes.loads }

goes_once : (over : Bool) (j : Joint) (d : ℕ) (was : Domain) (v : Violation) (t : Turn) →
    slice_get t.joint.domains d ≡ Some was → Goes j t → Goes j (ends_once over d was v t)
unfolding ends_once
goes_once true j d was v t there goes = goes_refused j t goes
goes_once false j d was v t there goes = goes_end j d was v t there goes

goes_resumed : (found : Option Domain) (j : Joint) (d : ℕ) (v : Violation) (t : Turn) →
    slice_get t.joint.domains d ≡ found → Goes j t → Goes j (ends_resumed found d v t)
unfolding ends_resumed
goes_resumed None j d v t there goes = goes_refused j t goes
goes_resumed (Some was) j d v t there goes = goes_once _ j d was v t there goes

goes_asked : (found : Option Domain) (j : Joint) (d : ℕ) (v : Violation) (t : Turn) →
    slice_get t.joint.domains d ≡ found → Goes j t → Goes j (ends_asked found d v t)
unfolding ends_asked
goes_asked None j d v t there goes = goes
goes_asked (Some was) j d v t there goes = goes_end j d was v t there goes

goes_answered : (inside : Option ℕ) (met : Option Violation) (j : Joint) (t : Turn) → Goes j t →
    Goes j (answers_violation inside met t)
unfolding answers_violation
goes_answered inside None j t goes = goes
goes_answered None (Some v) j t goes = goes_resumed _ j (domain_met v) v t refl goes
goes_answered (Some ctx) (Some v) j t goes = goes_asked _ j (domain_of ctx) v t refl goes

-- every step
pub goes : (j : Joint) (number : ℕ) → Goes j (step_in j number)
goes j number =
    let h = hart_in j number in
    goes_answered h.inside _ j (turn_of j number h h.inside) (goes_turn j number h h.inside)
