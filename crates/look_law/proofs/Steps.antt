-- A step of the joint machine asks at most twice where an access leads, and the end of a domain after it does not.
use Rattle.std.proofs.Common.{◌≤◌, ℕ, Bool, true, false, Option, Some, None, arith}
use Rattle.std.specs.Prelude.{slice_get}
use Rattle.cloak_base.specs.declared.causes.Violation.{Violation}
use Rattle.cloak_model.specs.Cloaking.{CloakedMemory}
use Rattle.cloak_model.specs.Contexts.{Context, context_at, domain_of, slot_of}
use Rattle.cloak_model.specs.Csr.{interrupt_due}
use Rattle.cloak_model.specs.DomainAlone.{runs_on}
use Rattle.cloak_model.specs.DomainState.{Domain}
use Rattle.cloak_model.specs.Ending.{ask_end, cloak_for}
use Rattle.cloak_model.specs.Hart.{Hart}
use Rattle.cloak_model.specs.Joint.{next_hart, hart_in, cloak_of, cloak_outside, domain_met, pages_for, turn_of}
use Rattle.cloak_model.specs.KernelStep.{ticked}
use Rattle.cloak_model.specs.Parts.{Joint}
use Rattle.cloak_model.specs.World.{World, Cloaked, events_of}
use Rattle.shadow_fold.specs.Events.{asked_if, asked_running, asked_inside, asked_of, with_end, ended_once, ended_resumed, ended_asked, ended_by}
use Rattle.shadow_fold.specs.Reads.{AskedByStep, looks_in}
use Rattle.look_law.specs.Looks.{StepLooksTwice}
use Rattle.script_fold.proofs.Endings.{keeps_end}
use Rattle.look_law.proofs.Questions.{Looks, still, still_then, still_settled, still_forget}
use Rattle.look_law.proofs.Inside.{looks_domain}
use Rattle.look_law.proofs.Outside as outside
use Rattle.shadow_fold.proofs.Looks.{looks_then}

-- what was asked has at most two looks
abbrev pub FewLooks : AskedByStep → Type 0
FewLooks a = looks_in a.events ≤ 2

-- The step.

few_if : (due : Bool) (j : Joint) (h : Hart) (d slot : ℕ) (was : Domain) (c : Option Context) →
    FewLooks (asked_if due j h d slot was c)
few_if true j h d slot was c = omega arith
few_if false j h d slot was None = omega arith
few_if false j h d slot was (Some c) =
    let few = (looks_domain slot was (Cloaked (cloak_of j.memory h d (pages_for was (Some c))))).few in omega (arith, few)

few_running : (runs : Bool) (j : Joint) (h : Hart) (d slot : ℕ) (was : Domain) →
    FewLooks (asked_running runs j h d slot was)
few_running false j h d slot was = omega arith
few_running true j h d slot was =
    few_if (interrupt_due h.mode h.csrs) j h d slot was (context_at was.control.contexts slot)

few_inside : (j : Joint) (number : ℕ) (h : Hart) (d slot : ℕ) (found : Option Domain) →
    FewLooks (asked_inside j number h d slot found)
few_inside j number h d slot None = omega arith
few_inside j number h d slot (Some was) =
    few_running (runs_on number (context_at was.control.contexts slot)) j h d slot was

few_of : (j : Joint) (number : ℕ) (h : Hart) (o : Option ℕ) → FewLooks (asked_of j number h o)
few_of j number h None =
    let few = (outside.looks_step h j.disk (Cloaked (cloak_outside j.memory h))).few in omega (arith, few)
few_of j number h (Some ctx) =
    few_inside j number (ticked h) (domain_of ctx) (slot_of ctx) (slice_get j.domains (domain_of ctx))

-- The end of a domain.

asks_end : (domain : ℕ) (w : World) → Looks 0 w (ask_end domain w).world
asks_end domain w =
    keeps_end (Looks 0) (record { same = still; chained = still_then; settled = still_settled })
    still_forget domain w

few_with_end : (d : ℕ) (domain : Domain) (m : CloakedMemory) (a : AskedByStep) → FewLooks a → FewLooks (with_end d domain m a)
few_with_end d domain m a few =
    let w : World = (ask_end d (Cloaked (cloak_for m d))).world in
    let none = (asks_end d (Cloaked (cloak_for m d))).few in
    let both = looks_then a.events (events_of w) in omega (arith, few, none, both)

few_once : (ended : Bool) (d : ℕ) (domain : Domain) (m : CloakedMemory) (a : AskedByStep) → FewLooks a →
    FewLooks (ended_once ended d domain m a)
few_once true d domain m a few = few
few_once false d domain m a few = few_with_end d domain m a few

few_resumed : (found : Option Domain) (d : ℕ) (m : CloakedMemory) (a : AskedByStep) → FewLooks a →
    FewLooks (ended_resumed found d m a)
few_resumed None d m a few = few
few_resumed (Some domain) d m a few = few_once domain.control.ended d domain m a few

few_asked : (found : Option Domain) (d : ℕ) (m : CloakedMemory) (a : AskedByStep) → FewLooks a →
    FewLooks (ended_asked found d m a)
few_asked None d m a few = few
few_asked (Some domain) d m a few = few_with_end d domain m a few

few_ended : (inside : Option ℕ) (v : Option Violation) (j : Joint) (a : AskedByStep) → FewLooks a →
    FewLooks (ended_by inside v j a)
few_ended inside None j a few = few
few_ended None (Some v) j a few = few_resumed (slice_get j.domains (domain_met v)) (domain_met v) j.memory a few
few_ended (Some ctx) (Some v) j a few =
    few_asked (slice_get j.domains (domain_of ctx)) (domain_of ctx) j.memory a few

pub step_looks_twice : StepLooksTwice
step_looks_twice m =
    let h = hart_in m.joint (next_hart m) in let t = turn_of m.joint (next_hart m) h h.inside in
    few_ended h.inside t.violation t.joint (asked_of m.joint (next_hart m) h h.inside)
    (few_of m.joint (next_hart m) h h.inside)
