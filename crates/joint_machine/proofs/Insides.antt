-- The step of a hart inside, by the results of its parts.
use Rattle.std.proofs.Common.{◌≡◌, ◌∙◌, ℕ, Bool, true, false, List, [], ◌∷◌, Option, None, refl, sym, subst}
use Rattle.cloak_base.specs.declared.names.SpaceId.{SpaceId}
use Rattle.cloak_base.specs.declared.causes.Shown.{Shown}
use Rattle.cloak_base.specs.declared.causes.Violation.{Violation}
use Rattle.cloak_model.specs.Items.{Item}
use Rattle.cloak_model.specs.Items as item
use Rattle.cloak_model.specs.declared.inside.Went.{Went}
use Rattle.cloak_model.specs.declared.inside.Went.TheVariants as went
use Rattle.cloak_model.specs.declared.regime.InsideRegime.{InsideRegime}
use Rattle.cloak_model.specs.Asking.{Told}
use Rattle.cloak_model.specs.Cloaking.{CloakedMemory}
use Rattle.cloak_model.specs.Contexts.{context_at}
use Rattle.cloak_model.specs.Csr.{satp_of, sum_of, mxr_of}
use Rattle.cloak_model.specs.DomainState as program
use Rattle.cloak_model.specs.DomainStep.{DomainStepped, domain_step, interrupt, within}
use Rattle.cloak_model.specs.Exchange.{Piece, Emits, item_pieces}
use Rattle.cloak_model.specs.Hart.{Hart}
use Rattle.cloak_model.specs.Joint.{memory_of, with_domain, domain_ended, after_domain_step, by_interrupt, after_interrupt, interrupt_ended, cloak_of, pages_for}
use Rattle.cloak_model.specs.Leaving.{leave}
use Rattle.cloak_model.specs.Parts as model
use Rattle.cloak_model.specs.World.{World, MidStep, Flat, Cloaked, Alone, items_of, violation_of, is_clashed}
use Rattle.cloaked_side.specs.Holding.{Holds}
use Rattle.cloaked_side.specs.Telling.{HoldsWorld}
use Rattle.cloaked_side.specs.declared.memory.Memory.{Memory}
use Rattle.cloak_model.proofs.Emitting.{emits_items}
use Rattle.hypercalls.specs.declared.domain.Domain.{Domain}
use Rattle.hypercalls.specs.Standing.{EndsAs}
use Rattle.joint_machine.specs.declared.stepping.SteppedProgram.{SteppedProgram}
use Rattle.joint_machine.specs.Turning.{AreRoots, IsCarriedOut, InterruptsIn, StepsDomain, TurnsIn, Unmarks, begun}
use Rattle.script_fold.proofs.Rooted.{rooted_domain_step}
use Rattle.script_fold.proofs.Tables.{memory_root}

-- The memory of a world.

pub holds_memory : (memory : Memory) (w : World) (m : CloakedMemory) → HoldsWorld memory w → Holds memory (memory_of w m)
holds_memory memory (Flat ram) m holds = absurd holds
holds_memory memory (Alone handed) m holds = absurd holds
holds_memory memory (Cloaked c) m holds = holds

pub clashed_in : (w : World) (m : CloakedMemory) → (memory_of w m).ledger.clashed ≡ false → is_clashed w ≡ false
clashed_in (Flat ram) m none = refl
clashed_in (Cloaked c) m none = none
clashed_in (Alone handed) m none = refl

-- an end compares no pages
pub ended_clashed : (j : model.Joint) (number : ℕ) (h : Hart) (d : ℕ) (w : World) (ended : Went) → (domain_ended j number h d w ended).joint.memory.ledger.clashed ≡ j.memory.ledger.clashed
unfolding domain_ended
ended_clashed j number h d w went.Stay = refl
ended_clashed j number h d w (went.Leave s) = refl
ended_clashed j number h d w went.Stopped = refl
ended_clashed j number h d w (went.SpaceGone space s) = refl
ended_clashed j number h d w (went.Remapped space) = refl

-- nor does an interrupt
pub interrupt_clashed : (j : model.Joint) (number : ℕ) (h : Hart) (items : List Item) (ended : Went) → (interrupt_ended j number h items ended).joint.memory.ledger.clashed ≡ j.memory.ledger.clashed
unfolding interrupt_ended
interrupt_clashed j number h items went.Stay = refl
interrupt_clashed j number h items (went.Leave s) = refl
interrupt_clashed j number h items went.Stopped = refl
interrupt_clashed j number h items (went.SpaceGone space s) = refl
interrupt_clashed j number h items (went.Remapped space) = refl

-- what was told of a program's step, by the memory as it begins
abbrev pub told_of : model.Joint → Hart → ℕ → ℕ → program.Domain → Told DomainStepped
told_of j h d slot was = domain_step slot was (Cloaked (cloak_of j.memory h d (pages_for was (context_at was.control.contexts slot))))

abbrev pub stepped_joint : model.Joint → ℕ → Told DomainStepped → model.Joint
stepped_joint j d told = record (with_domain d told.answer.domain j) { memory = memory_of told.world j.memory }

pub step_unclashed : (j : model.Joint) (number : ℕ) (h : Hart) (d slot : ℕ) (was : program.Domain) → (by_interrupt false j number h d slot was).joint.memory.ledger.clashed ≡ false → is_clashed (told_of j h d slot was).world ≡ false
unfolding by_interrupt after_domain_step
step_unclashed j number h d slot was none =
    let told = told_of j h d slot was in
    clashed_in told.world j.memory (sym (ended_clashed (stepped_joint j d told) number h d told.world told.answer.went) ∙ none)

-- the page tables after a program's step
pub roots_stepped : (roots : List (List (Option ℕ))) (j : model.Joint) (h : Hart) (d slot : ℕ) (was : program.Domain) → AreRoots roots j.memory.ledger.root → AreRoots roots (memory_of (told_of j h d slot was).world j.memory).ledger.root
roots_stepped roots j h d slot was are =
    subst (λ (root : SpaceId → Option ℕ). AreRoots roots root) (sym (memory_root (told_of j h d slot was).world j.memory (rooted_domain_step slot was _).root)) are

-- the hart's regime
pub begun_is : (m : CloakedMemory) (regime : InsideRegime) (slot : ℕ) (was : program.Domain) (h : Hart) (d : ℕ) → regime.satp ≡ satp_of h.csrs → regime.sum ≡ sum_of h.csrs → regime.mxr ≡ mxr_of h.csrs → regime.domain ≡ d →
    begun m regime slot was ≡ cloak_of m h d (pages_for was (context_at was.control.contexts slot))
begun_is m regime slot was h d satp sum mxr domain = λ i. record {
  memory = m;
  items = [];
  events = [];
  violation = None;
  regime = record { satp = satp i; sum = sum i; mxr = mxr i; domain = domain i };
  pages = pages_for was (context_at was.control.contexts slot);
}

-- A program's step, and what followed.
pub turns_stepped : {E : Type 0} (gave : E → E → List Piece → Type 0) (e e' e'' : E) (h h' : Hart) (domain : Domain) (roots' : List (List (Option ℕ))) (memory memory' : Memory) (stepped : SteppedProgram) (given : Option Violation) (j : model.Joint) (number d slot : ℕ) (was : program.Domain) →
    StepsDomain gave e e' memory domain stepped (told_of j h d slot was) →
    IsCarriedOut gave e' e'' h' roots' memory memory' given (stepped_joint j d (told_of j h d slot was)) number (items_of (told_of j h d slot was).world)
    (domain_ended (stepped_joint j d (told_of j h d slot was)) number h d (told_of j h d slot was).world (told_of j h d slot was).answer.went) →
    TurnsIn gave e e'' h' domain roots' memory' given j number d (by_interrupt false j number h d slot was)
unfolding by_interrupt after_domain_step
turns_stepped gave e e' e'' h h' domain roots' memory memory' stepped given j number d slot was steps goes =
    let told = told_of j h d slot was in
    record {
      emits = subst (λ (items : List Item). Emits gave e e'' (item_pieces items)) (sym goes.items_are) (emits_items (items_of told.world) goes.more steps.emits goes.emits);
      violation = goes.violation;
      console = goes.console;
      halt = goes.halt;
      harts = goes.harts;
      after = told.answer.domain;
      stands = steps.stands;
      domains = goes.domains;
      disk = goes.disk;
      ends = record { ended = goes.ends.ended; refused = goes.ends.refused };
      roots_are = goes.roots_are;
      holds = goes.holds (holds_memory memory told.world j.memory steps.holds);
    }

-- An interrupt ends the hart's reservation, and changes no memory else.
pub turns_interrupted : {E : Type 0} (gave : E → E → List Piece → Type 0) (e e' : E) (h h' : Hart) (domain : Domain) (roots : List (List (Option ℕ))) (memory memory' : Memory) (given : Option Violation) (j : model.Joint) (number d slot : ℕ) (was : program.Domain) →
    given ≡ None → Holds memory j.memory → Unmarks number memory memory' → AreRoots roots j.memory.ledger.root → InterruptsIn gave e e' h' domain j number d (after_interrupt j number h d was (interrupt slot was.control)) →
    TurnsIn gave e e' h' domain roots memory' given j number d (by_interrupt true j number h d slot was)
unfolding by_interrupt
turns_interrupted gave e e' h h' domain roots memory memory' given j number d slot was none holds unmarks are i = record {
  emits = i.emits;
  violation = none ∙ sym i.violation;
  console = i.console;
  halt = i.halt;
  harts = i.harts;
  after = i.after;
  stands = i.stands;
  domains = i.domains;
  disk = i.disk;
  ends = i.ends;
  roots_are = subst (λ (m : CloakedMemory). AreRoots roots m.ledger.root) (sym i.memory) are;
  holds = subst (λ (m : CloakedMemory). Holds memory' m) (sym i.memory) (unmarks.holds j.memory holds);
}

-- The interrupt alone: the context leaves.
pub interrupts_out : {E : Type 0} (gave : E → E → List Piece → Type 0) (e e' e'' : E) (h h' : Hart) (domain : Domain) (s : Shown) (j : model.Joint) (number d slot : ℕ) (was : program.Domain) →
    EndsAs domain (went.Leave s) (within was (interrupt slot was.control)) → h' ≡ leave h s → Emits gave e e' (item_pieces (item.Timer d ∷ [])) → Emits gave e' e'' (item_pieces (item.Leave s ∷ [])) →
    InterruptsIn gave e e'' h' domain j number d (after_interrupt j number h d was (interrupt slot was.control))
unfolding after_interrupt interrupt_ended
interrupts_out gave e e' e'' h h' domain s j number d slot was ends left first second = subst (λ (x : Went). InterruptsIn gave e e'' h' domain j number d (interrupt_ended (with_domain d (record was { control = (interrupt slot was.control).control }) j) number h (item.Timer d ∷ []) x)) ends.went (subst (λ (y : Hart). InterruptsIn gave e e'' y domain j number d (interrupt_ended (with_domain d (record was { control = (interrupt slot was.control).control }) j) number h (item.Timer d ∷ []) (went.Leave s))) (sym left) here)
  where
    here : InterruptsIn gave e e'' (leave h s) domain j number d (interrupt_ended (with_domain d (record was { control = (interrupt slot was.control).control }) j) number h (item.Timer d ∷ []) (went.Leave s))
    here = record {
      emits = emits_items (item.Timer d ∷ []) (item.Leave s ∷ []) first second;
      violation = refl;
      console = refl;
      halt = refl;
      harts = refl;
      after = record was { control = (interrupt slot was.control).control };
      stands = ends.domain_stands;
      domains = refl;
      disk = refl;
      ends = record { ended = refl; refused = refl };
      memory = refl;
    }

-- The step by whether an interrupt is due.
pub turns_now : {E : Type 0} (gave : E → E → List Piece → Type 0) (e e' : E) (h h' : Hart) (domain : Domain) (roots : List (List (Option ℕ))) (memory : Memory) (given : Option Violation) (j : model.Joint) (number d slot : ℕ) (was : program.Domain) (due now : Bool) → due ≡ now →
    ((by_interrupt now j number h d slot was).joint.memory.ledger.clashed ≡ false → TurnsIn gave e e' h' domain roots memory given j number d (by_interrupt now j number h d slot was)) →
    (by_interrupt due j number h d slot was).joint.memory.ledger.clashed ≡ false → TurnsIn gave e e' h' domain roots memory given j number d (by_interrupt due j number h d slot was)
turns_now gave e e' h h' domain roots memory given j number d slot was due now is turns =
    subst (λ (b : Bool). (by_interrupt b j number h d slot was).joint.memory.ledger.clashed ≡ false → TurnsIn gave e e' h' domain roots memory given j number d (by_interrupt b j number h d slot was)) (sym is) turns

-- what a step resulted in stays if the memory stands for all that it stood for
world_on : (old new : Memory) (w : World) → ((m : CloakedMemory) → Holds old m → Holds new m) → HoldsWorld old w → HoldsWorld new w
world_on old new (Flat ram) keeps holds = absurd holds
world_on old new (Alone handed) keeps holds = absurd holds
world_on old new (Cloaked c) keeps holds = keeps c.memory holds

pub steps_on : {E : Type 0} (gave : E → E → List Piece → Type 0) (e e' : E) (old new : Memory) (domain : Domain) (given : SteppedProgram) (told : Told DomainStepped) →
    ((m : CloakedMemory) → Holds old m → Holds new m) → StepsDomain gave e e' old domain given told → StepsDomain gave e e' new domain given told
steps_on gave e e' old new domain given told keeps s =
    record { went = s.went; violation = s.violation; emits = s.emits; holds = world_on old new told.world keeps s.holds; stands = s.stands }

-- A program's step over the memory as it begins, and what followed.
pub turns_stepping : {E : Type 0} (gave : E → E → List Piece → Type 0) (e e' e'' : E) (h h' : Hart) (domain : Domain) (roots roots' : List (List (Option ℕ))) (memory memory' : Memory) (stepped : SteppedProgram) (given : Option Violation) (j : model.Joint) (number d slot : ℕ) (was : program.Domain) (regime : InsideRegime) →
    begun j.memory regime slot was ≡ cloak_of j.memory h d (pages_for was (context_at was.control.contexts slot)) → AreRoots roots j.memory.ledger.root →
    (is_clashed (domain_step slot was (Cloaked (begun j.memory regime slot was))).world ≡ false → StepsDomain gave e e' memory domain stepped (domain_step slot was (Cloaked (begun j.memory regime slot was)))) →
    ((after : model.Joint) (w : World) → stepped.violation ≡ violation_of w → AreRoots roots after.memory.ledger.root → IsCarriedOut gave e' e'' h' roots' memory memory' given after number (items_of w) (domain_ended after number h d w stepped.went)) →
    (by_interrupt false j number h d slot was).joint.memory.ledger.clashed ≡ false → TurnsIn gave e e'' h' domain roots' memory' given j number d (by_interrupt false j number h d slot was)
turns_stepping gave e e' e'' h h' domain roots roots' memory memory' stepped given j number d slot was regime begins are steps goes none =
    let told = told_of j h d slot was in
    let after = stepped_joint j d told in
    let s : StepsDomain gave e e' memory domain stepped told = subst (λ (c : MidStep). is_clashed (domain_step slot was (Cloaked c)).world ≡ false → StepsDomain gave e e' memory domain stepped (domain_step slot was (Cloaked c))) begins steps (step_unclashed j number h d slot was none) in
    turns_stepped gave e e' e'' h h' domain roots' memory memory' stepped given j number d slot was s
    (subst (λ (x : Went). IsCarriedOut gave e' e'' h' roots' memory memory' given after number (items_of told.world) (domain_ended after number h d told.world x)) s.went
    (goes after told.world s.violation (roots_stepped roots j h d slot was are)))
