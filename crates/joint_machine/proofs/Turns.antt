-- The step of a hart, by the results of its parts.
use Rattle.std.proofs.Common.{◌≡◌, ◌<◌, ◌∙◌, ℕ, false, List, [], ◌∷◌, ◌++◌, Option, Some, None, length, slice_get, slice_set, slice_index_or, ap, sym, subst}
use Rattle.std.proofs.lemmas.Option.{get_or_from_slice_get, slice_get-get_or}
use Rattle.cloak_base.specs.declared.causes.Violation.{Violation}
use Rattle.cloak_base.specs.declared.names.SpaceId.{SpaceId}
use Rattle.cloak_model.specs.declared.outcome.Kernel.{Kernel}
use Rattle.cloak_model.specs.declared.outcome.Kernel.TheVariants as kernel
use Rattle.cloak_model.specs.Ahead.{settled_step, made_after}
use Rattle.cloak_model.specs.Asking.{Told}
use Rattle.cloak_model.specs.Cloaking.{CloakedMemory}
use Rattle.cloak_model.specs.Csr.{interrupt_due, satp_of}
use Rattle.cloak_model.specs.DomainState as program
use Rattle.cloak_model.specs.Exchange.{Piece, Emits, item_pieces}
use Rattle.cloak_model.specs.Leaving.{leave}
use Rattle.cloak_model.specs.Items as item
use Rattle.cloak_model.specs.Hart.{Hart, started}
use Rattle.cloak_model.specs.Contexts.{domain_of, slot_of}
use Rattle.cloak_model.specs.HostCalls.{SteppedKernel}
use Rattle.cloak_model.specs.KernelStep.{ticked}
use Rattle.cloak_model.specs.Joint.{Turn, by_interrupt, inside_step, hart_in, not_running, memory_of, after_kernel_step, after_outside, outside_ended, outside_step, cloak_outside, turn_of}
use Rattle.cloak_model.specs.Parts as model
use Rattle.cloak_model.specs.Resuming.{resume}
use Rattle.cloak_model.specs.World.{items_of}
use Rattle.cloaked_side.specs.Telling.{TellsSide}
use Rattle.cloak_model.proofs.Emitting.{emits_items}
use Rattle.hypercalls.specs.declared.domain.Domain.{Domain}
use Rattle.hypercalls.specs.Standing.{StandsFor}
use Rattle.settling_ahead.proofs.Laws.{keeps_rest}
use Rattle.joint_machine.specs.declared.ended_step.EndedStep.{EndedStep}
use Rattle.joint_machine.specs.declared.joint.Joint.{Joint}
use Rattle.joint_machine.specs.Standing.{AreDomains, StandsForJoint, shown_byte, turn_in}
use Rattle.joint_machine.specs.Turning.{AreRoots, EndsTurn, ResumesJoint, StepsPlainly, TurnsIn, Unmarks, running_in}
use Rattle.joint_machine.proofs.Insides.{holds_memory}
use Rattle.joint_machine.proofs.Places.{domains_set}
use Rattle.joint_machine.proofs.Running.{not_run, run_step, run_there, unrun_step}

-- the hart of a number
pub hart_is : (hs js : List Hart) (n : ℕ) (h : Hart) → hs ≡ js → n < length hs → h ≡ slice_index_or hs n h → h ≡ slice_index_or js n (started 0 0)
hart_is hs js n h same inside is =
    is ∙ sym (get_or_from_slice_get hs n (slice_index_or hs n h) (started 0 0) (slice_get-get_or hs n h inside)) ∙ ap (λ (xs : List Hart). slice_index_or xs n (started 0 0)) same

-- A hart inside.

-- the context does not run on the hart, which leaves it
pub ends_stopped : {E : Type 0} (gave : E → E → List Piece → Type 0) (e e' : E) (old new : Joint) (given : EndedStep) (j : model.Joint) (number : ℕ) (h at_start : Hart) (ctx : ℕ) → h ≡ at_start →
    StandsForJoint old j → running_in number ctx (slice_get old.domains.items (domain_of ctx)) ≡ None →
    new.harts.items ≡ slice_set old.harts.items number (leave h (not_running ctx)) → new.disk ≡ old.disk → Unmarks number old.memory new.memory → new.domains.items ≡ old.domains.items → new.roots ≡ old.roots →
    new.ended ≡ old.ended → new.refused ≡ old.refused →
    given ≡ record { console = None; violation = None; halt = None } →
    Emits gave e e' (item_pieces (item.Leave (not_running ctx) ∷ [])) →
    EndsTurn gave e e' new given (inside_step j number at_start ctx (slice_get j.domains (domain_of ctx)))
ends_stopped gave e e' old new given j number h at_start ctx same s unrun harts disk unmarks domains roots ended refused none emits =
    subst (λ (y : Hart). EndsTurn gave e e' new given (inside_step j number y ctx (slice_get j.domains (domain_of ctx)))) same
    (subst (λ (t : Turn). EndsTurn gave e e' new given t)
    (sym (unrun_step j number h ctx (slice_get j.domains (domain_of ctx)) (not_run old.domains.items j.domains number ctx s.domains unrun))) (record {
      emits = emits;
      console = ap (λ (x : EndedStep). shown_byte x.console) none;
      violation = ap (λ (x : EndedStep). x.violation) none;
      halt = ap (λ (x : EndedStep). x.halt) none;
      stands = record {
        harts = harts ∙ ap (λ (hs : List Hart). slice_set hs number (leave h (not_running ctx))) s.harts;
        disk = disk ∙ s.disk;
        memory = unmarks.holds j.memory s.memory;
        domains = subst (λ (xs : List Domain). AreDomains xs j.domains) (sym domains) s.domains;
        roots = subst (λ (r : List (List (Option ℕ))). AreRoots r j.memory.ledger.root) (sym roots) s.roots;
        ended = ended ∙ s.ended;
        refused = refused ∙ s.refused;
      };
    }))

-- the step of a program in its place
pub ends_turned : {E : Type 0} (gave : E → E → List Piece → Type 0) (e e' : E) (old new : Joint) (met : Option Violation) (given : EndedStep) (j : model.Joint) (number : ℕ) (h h' at_start : Hart) (ctx space : ℕ) (x x' : Domain) → h ≡ at_start →
    StandsForJoint old j → slice_get old.domains.items (domain_of ctx) ≡ Some x → running_in number ctx (slice_get old.domains.items (domain_of ctx)) ≡ Some space →
    new.harts.items ≡ slice_set old.harts.items number h' → new.disk ≡ old.disk → new.domains.items ≡ slice_set old.domains.items (domain_of ctx) x' →
    new.ended ≡ old.ended → new.refused ≡ old.refused →
    given ≡ record { console = None; violation = met; halt = None } →
    ((was : program.Domain) → StandsFor x was → (by_interrupt (interrupt_due h.mode h.csrs) j number h (domain_of ctx) (slot_of ctx) was).joint.memory.ledger.clashed ≡ false →
    TurnsIn gave e e' h' x' new.roots new.memory met j number (domain_of ctx) (by_interrupt (interrupt_due h.mode h.csrs) j number h (domain_of ctx) (slot_of ctx) was)) →
    (inside_step j number at_start ctx (slice_get j.domains (domain_of ctx))).joint.memory.ledger.clashed ≡ false →
    EndsTurn gave e e' new given (inside_step j number at_start ctx (slice_get j.domains (domain_of ctx)))
ends_turned gave e e' old new met given j number h h' at_start ctx space x x' same s here runs harts disk domains ended refused is turns unclashed =
    let there = run_there old.domains.items j.domains number ctx space x s.domains here runs in
    let was = there.was in
    let d = domain_of ctx in
    let stepped = run_step j number h ctx (slice_get j.domains d) was there.there there.runs in
    let unclashed_h = subst (λ (y : Hart). (inside_step j number y ctx (slice_get j.domains d)).joint.memory.ledger.clashed ≡ false) (sym same) unclashed in
    let t = turns was there.stands (subst (λ (u : Turn). u.joint.memory.ledger.clashed ≡ false) stepped unclashed_h) in
    subst (λ (y : Hart). EndsTurn gave e e' new given (inside_step j number y ctx (slice_get j.domains d))) same (subst (λ (u : Turn). EndsTurn gave e e' new given u) (sym stepped) (record {
      emits = t.emits;
      console = ap (λ (y : EndedStep). shown_byte y.console) is ∙ sym t.console;
      violation = ap (λ (y : EndedStep). y.violation) is ∙ t.violation;
      halt = ap (λ (y : EndedStep). y.halt) is ∙ sym t.halt;
      stands = record {
        harts = harts ∙ ap (λ (hs : List Hart). slice_set hs number h') s.harts ∙ sym t.harts;
        disk = disk ∙ s.disk ∙ sym t.disk;
        memory = t.holds;
        domains = subst (λ (xs : List Domain). AreDomains xs (by_interrupt (interrupt_due h.mode h.csrs) j number h d (slot_of ctx) was).joint.domains) (sym domains)
            (subst (λ (ds : List program.Domain). AreDomains (slice_set old.domains.items d x') ds) (sym t.domains) (domains_set old.domains.items j.domains d x' t.after s.domains t.stands));
        roots = t.roots_are;
        ended = ended ∙ s.ended ∙ sym t.ends.ended;
        refused = refused ∙ s.refused ∙ sym t.ends.refused;
      };
    }))

-- A hart outside.

-- what a plain step leaves of the page tables
pub plain_roots : (h : Hart) (disk : List ℕ) (m : CloakedMemory) → (memory_of (settled_step h disk (cloak_outside m h)).world m).ledger.root ≡ m.ledger.root
unfolding settled_step made_after
plain_roots h disk m = (keeps_rest h disk m).root

-- the plain step of a hart in its place
pub steps_plainly : {E : Type 0} (gave : E → E → List Piece → Type 0) (e e' : E) (old new : Joint) (given : Kernel) (j : model.Joint) (number : ℕ) (h h' : Hart) →
    StandsForJoint old j → h ≡ hart_in j number →
    new.harts.items ≡ slice_set old.harts.items number h' → new.domains.items ≡ old.domains.items → new.roots ≡ old.roots →
    new.ended ≡ old.ended → new.refused ≡ old.refused →
    TellsSide gave e e' new.memory (record { hart = h'; disk = new.disk; ending = given }) (settled_step h old.disk (cloak_outside j.memory h)) →
    StepsPlainly gave e e' new given j number (settled_step (hart_in j number) j.disk (cloak_outside j.memory (hart_in j number)))
steps_plainly gave e e' old new given j number h h' s is harts domains roots ended refused tells =
    let told : Hart → List ℕ → Told SteppedKernel = λ x disk. settled_step x disk (cloak_outside j.memory x) in
    let told_here : TellsSide gave e e' new.memory (record { hart = h'; disk = new.disk; ending = given }) (told (hart_in j number) j.disk) =
    subst (λ (x : Hart). TellsSide gave e e' new.memory (record { hart = h'; disk = new.disk; ending = given }) (told x j.disk)) is
    (subst (λ (disk : List ℕ). TellsSide gave e e' new.memory (record { hart = h'; disk = new.disk; ending = given }) (told h disk)) s.disk tells) in
    record {
      answer = ap (λ (a : SteppedKernel). a.ending) told_here.answer;
      emits = told_here.emits;
      stands = record {
        harts = harts ∙ ap (λ (hs : List Hart). slice_set hs number h') s.harts ∙ ap (λ (a : SteppedKernel). slice_set j.harts number a.hart) told_here.answer;
        disk = ap (λ (a : SteppedKernel). a.disk) told_here.answer;
        memory = holds_memory new.memory (told (hart_in j number) j.disk).world j.memory told_here.holds;
        domains = subst (λ (xs : List Domain). AreDomains xs j.domains) (sym domains) s.domains;
        roots = subst (λ (root : SpaceId → Option ℕ). AreRoots new.roots root) (sym (plain_roots (hart_in j number) j.disk j.memory))
            (subst (λ (r : List (List (Option ℕ))). AreRoots r j.memory.ledger.root) (sym roots) s.roots);
        ended = ended ∙ s.ended;
        refused = refused ∙ s.refused;
      };
    }

-- the machine is that of a state whatever the console was shown
pub stands_shown : (joint : Joint) (j : model.Joint) (console : List ℕ) → StandsForJoint joint j → StandsForJoint joint (record j { console = console })
stands_shown joint j console s = record { harts = s.harts; disk = s.disk; memory = s.memory; domains = s.domains; roots = s.roots; ended = s.ended; refused = s.refused }

module _ {E : Type 0} (gave : E → E → List Piece → Type 0) (e e' : E) (joint : Joint) (given : Kernel) (ended : EndedStep) (j : model.Joint) (number : ℕ) (told : Told SteppedKernel) (s : StepsPlainly gave e e' joint given j number told) where
  pub ends_stay : given ≡ kernel.Stay → ended ≡ record { console = None; violation = None; halt = None } → EndsTurn gave e e' joint ended (after_outside j number told)
  unfolding after_outside outside_ended
  ends_stay is none = subst (λ (k : Kernel). EndsTurn gave e e' joint ended (outside_ended (after_kernel_step j number told) number (items_of told.world) k)) (sym is ∙ s.answer) (record {
    emits = s.emits;
    console = ap (λ (x : EndedStep). shown_byte x.console) none;
    violation = ap (λ (x : EndedStep). x.violation) none;
    halt = ap (λ (x : EndedStep). x.halt) none;
    stands = s.stands;
  })

  pub ends_trapped : given ≡ kernel.Trapped → ended ≡ record { console = None; violation = None; halt = None } → EndsTurn gave e e' joint ended (after_outside j number told)
  unfolding after_outside outside_ended
  ends_trapped is none = subst (λ (k : Kernel). EndsTurn gave e e' joint ended (outside_ended (after_kernel_step j number told) number (items_of told.world) k)) (sym is ∙ s.answer) (record {
    emits = s.emits;
    console = ap (λ (x : EndedStep). shown_byte x.console) none;
    violation = ap (λ (x : EndedStep). x.violation) none;
    halt = ap (λ (x : EndedStep). x.halt) none;
    stands = s.stands;
  })

  pub ends_put : (b : ℕ) → given ≡ kernel.Put b → ended ≡ record { console = Some b; violation = None; halt = None } → EndsTurn gave e e' joint ended (after_outside j number told)
  unfolding after_outside outside_ended
  ends_put b is none = subst (λ (k : Kernel). EndsTurn gave e e' joint ended (outside_ended (after_kernel_step j number told) number (items_of told.world) k)) (sym is ∙ s.answer) (record {
    emits = s.emits;
    console = ap (λ (x : EndedStep). shown_byte x.console) none;
    violation = ap (λ (x : EndedStep). x.violation) none;
    halt = ap (λ (x : EndedStep). x.halt) none;
    stands = stands_shown joint (after_kernel_step j number told) (j.console ++ b ∷ []) s.stands;
  })

  pub ends_halt : (value : ℕ) → given ≡ kernel.Halt value → ended ≡ record { console = None; violation = None; halt = Some value } → EndsTurn gave e e' joint ended (after_outside j number told)
  unfolding after_outside outside_ended
  ends_halt value is none = subst (λ (k : Kernel). EndsTurn gave e e' joint ended (outside_ended (after_kernel_step j number told) number (items_of told.world) k)) (sym is ∙ s.answer) (record {
    emits = s.emits;
    console = ap (λ (x : EndedStep). shown_byte x.console) none;
    violation = ap (λ (x : EndedStep). x.violation) none;
    halt = ap (λ (x : EndedStep). x.halt) none;
    stands = s.stands;
  })

  pub ends_resumed : (ctx answer : ℕ) (e'' : E) (joint' : Joint) (met : Option Violation) → given ≡ kernel.Resume ctx answer → ended ≡ record { console = None; violation = met; halt = None } →
      ResumesJoint gave e' e'' joint' met (resume (after_kernel_step j number told) number (satp_of (hart_in (after_kernel_step j number told) number).csrs) ctx answer) → EndsTurn gave e e'' joint' ended (after_outside j number told)
  unfolding after_outside outside_ended
  ends_resumed ctx answer e'' joint' met is none r = subst (λ (k : Kernel). EndsTurn gave e e'' joint' ended (outside_ended (after_kernel_step j number told) number (items_of told.world) k)) (sym is ∙ s.answer) (record {
    emits = emits_items (items_of told.world) _ s.emits r.emits;
    console = ap (λ (x : EndedStep). shown_byte x.console) none;
    violation = ap (λ (x : EndedStep). x.violation) none ∙ r.violation;
    halt = ap (λ (x : EndedStep). x.halt) none;
    stands = r.stands;
  })

-- A hart, by the context that it runs.

pub turn_outside : (j : model.Joint) (number : ℕ) (h : Hart) → h ≡ hart_in j number → h.inside ≡ None → turn_in j number ≡ outside_step j number (hart_in j number)
unfolding turn_of
turn_outside j number h is none = ap (λ (o : Option ℕ). turn_of j number (hart_in j number) o) (sym (ap (λ (x : Hart). x.inside) is) ∙ none)

pub turn_inside : (j : model.Joint) (number ctx : ℕ) (h : Hart) → h ≡ hart_in j number → h.inside ≡ Some ctx →
    turn_in j number ≡ inside_step j number (ticked (hart_in j number)) ctx (slice_get j.domains (domain_of ctx))
unfolding turn_of
turn_inside j number ctx h is some = ap (λ (o : Option ℕ). turn_of j number (hart_in j number) o) (sym (ap (λ (x : Hart). x.inside) is) ∙ some)
