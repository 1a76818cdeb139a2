-- What the parts of a hart's step result in.
use Rattle.std.specs.Prelude.{ℕ, ◌≡◌, ◌≢◌, Bool, false, not, List, [], ◌++◌, map, Option, Some, None, slice_set, is_some, if◌then◌else◌}
use Rattle.cloak_base.specs.declared.names.PageId.{PageId}
use Rattle.cloak_base.specs.declared.names.SpaceId.{SpaceId}
use Rattle.cloak_base.specs.declared.causes.Violation.{Violation}
use Rattle.cloak_model.specs.Items.{Item}
use Rattle.cloak_model.specs.declared.outcome.Kernel.{Kernel}
use Rattle.cloak_model.specs.declared.regime.InsideRegime.{InsideRegime}
use Rattle.cloak_model.specs.Hart.{Hart}
use Rattle.cloak_model.specs.Cloaking.{CloakedMemory}
use Rattle.cloak_model.specs.World.{MidStep, items_of, violation_of}
use Rattle.cloak_model.specs.Asking.{Told}
use Rattle.cloak_model.specs.HostCalls.{SteppedKernel}
use Rattle.cloak_model.specs.Contexts.{Context, context_at, slot_of}
use Rattle.cloak_model.specs.DomainAlone.{is_hart}
use Rattle.cloak_model.specs.DomainState as program
use Rattle.cloak_model.specs.DomainStep.{DomainStepped}
use Rattle.cloak_model.specs.Exchange.{Piece, Emits, item_pieces}
use Rattle.cloak_model.specs.Resuming.{AfterResume}
use Rattle.cloak_model.specs.Opening.{numbers_below}
use Rattle.cloak_model.specs.Parts as model
use Rattle.cloak_model.specs.Joint.{Turn, pages_for, after_kernel_step, without_mark}
use Rattle.thread_context.specs.Recorded.{root_at}
use Rattle.cloak_model.specs.Resources.{Resources}
use Rattle.cloak_pager.specs.State.{PagerState, IsNoneHeld, held_in}
use Rattle.cloaked_fork.specs.Marks.{AreUnused}
use Rattle.cloaked_side.specs.Holding.{Holds}
use Rattle.cloaked_side.specs.Telling.{HoldsWorld}
use Rattle.cloaked_side.specs.declared.memory.Memory.{Memory}
use Rattle.shadow_fold.specs.Reads.{AskedByStep}
use Rattle.hypercalls.specs.declared.domain.Domain.{Domain}
use Rattle.hypercalls.specs.Standing.{StandsFor, control_of}
use Rattle.joint_machine.specs.declared.joint.Joint.{Joint}
use Rattle.joint_machine.specs.declared.ended_step.EndedStep.{EndedStep}
use Rattle.joint_machine.specs.declared.stepping.SteppedProgram.{SteppedProgram}
use Rattle.joint_machine.specs.Standing.{StandsForJoint, shown_byte}

-- A step has come about, but for why it stops the run.
pub record EndsTurn {E : Type 0} (gave : E → E → List Piece → Type 0) (e e' : E) (joint : Joint)
    (given : EndedStep) (t : Turn) : Type 0 where
  pub emits : Emits gave e e' (item_pieces t.items)
  pub console : shown_byte given.console ≡ t.console
  pub violation : given.violation ≡ t.violation
  pub halt : given.halt ≡ t.halt
  pub stands : StandsForJoint joint t.joint

-- the same domains were ended, and as often was none left to end
pub record SameEnds (after j : model.Joint) : Type 0 where
  pub ended : after.ended ≡ j.ended
  pub refused : after.refused ≡ j.refused

-- A hart outside.

-- its plain step has come about
pub record StepsPlainly {E : Type 0} (gave : E → E → List Piece → Type 0) (e e' : E) (joint : Joint)
    (given : Kernel) (j : model.Joint) (number : ℕ) (told : Told SteppedKernel) : Type 0 where
  pub answer : given ≡ told.answer.ending
  pub emits : Emits gave e e' (item_pieces (items_of told.world))
  pub stands : StandsForJoint joint (after_kernel_step j number told)

-- a resuming has come about
pub record ResumesJoint {E : Type 0} (gave : E → E → List Piece → Type 0) (e e' : E) (joint : Joint)
    (given : Option Violation) (r : AfterResume) : Type 0 where
  pub emits : Emits gave e e' (item_pieces r.items)
  pub violation : given ≡ r.violation
  pub stands : StandsForJoint joint r.joint

-- these are the recorded page tables
abbrev pub AreRoots : List (List (Option ℕ)) → (SpaceId → Option ℕ) → Type 0
AreRoots roots root = (s : SpaceId) → root_at roots s ≡ root s

-- the space of a context that is there and runs on no hart
abbrev pub idle_space : Option Context → Option ℕ
idle_space None = None
idle_space (Some c) = if is_some c.on then None else Some c.space

-- A resuming has come about in a program, which has this place, and in the recorded page tables.
pub record ResumesIn {E : Type 0} (gave : E → E → List Piece → Type 0) (e e' : E) (domain : Domain)
    (roots : List (List (Option ℕ))) (given : Option Violation) (j : model.Joint) (d : ℕ) (r : AfterResume) :
    Type 0 where
  pub emits : Emits gave e e' (item_pieces r.items)
  pub violation : given ≡ r.violation
  pub after : program.Domain
  pub stands : StandsFor domain after
  pub domains : r.joint.domains ≡ slice_set j.domains d after
  pub roots_are : AreRoots roots r.joint.memory.ledger.root
  pub holds : (memory : Memory) → Holds memory j.memory → Holds memory r.joint.memory
  pub harts : r.joint.harts ≡ j.harts
  pub disk : r.joint.disk ≡ j.disk
  pub ends : SameEnds r.joint j

-- What holds of frames and pages before and after a program's step.

-- no frame holds a page of another domain that it did not hold
pub record HoldsNoOthers (d : ℕ) (old new : PagerState) : Type 0 where
  pub held : (k : ℕ) (q : PageId) → q.domain ≢ d → held_in new k ≡ Some q → held_in old k ≡ Some q

-- no frame holds a page of a resource of this domain whose number is free
pub record HoldsNoFree (d : ℕ) (r : Resources) (pager : PagerState) : Type 0 where
  pub unused : AreUnused (IsNoneHeld pager d) r

-- A hart inside.

-- the space of a context that runs on this hart
abbrev pub running_space : ℕ → Option Context → Option ℕ
running_space hart None = None
running_space hart (Some c) = if is_hart hart c.on then Some c.space else None

-- the same for the context of this number, in its program
abbrev pub running_in : ℕ → ℕ → Option Domain → Option ℕ
running_in hart ctx None = None
running_in hart ctx (Some d) = running_space hart (context_at (control_of d).contexts (slot_of ctx))

-- the memory as the step of a slot's context begins
abbrev pub begun : CloakedMemory → InsideRegime → ℕ → program.Domain → MidStep
begun m regime slot d = record {
  memory = m;
  items = [];
  events = [];
  violation = None;
  regime = regime;
  pages = pages_for d (context_at d.control.contexts slot);
}

-- the step of a program has come about
pub record StepsDomain {E : Type 0} (gave : E → E → List Piece → Type 0) (e e' : E) (memory : Memory)
    (domain : Domain) (given : SteppedProgram) (told : Told DomainStepped) : Type 0 where
  pub went : given.went ≡ told.answer.went
  pub violation : given.violation ≡ violation_of told.world
  pub emits : Emits gave e e' (item_pieces (items_of told.world))
  pub holds : HoldsWorld memory told.world
  pub stands : StandsFor domain told.answer.domain

-- a memory is as it was but for reservations
pub record IsSameButMarks (old new : Memory) : Type 0 where
  pub pager : new.pager ≡ old.pager
  pub shadows : new.shadows ≡ old.shadows
  pub counting : new.counting ≡ old.counting

-- a hart has no reservation in a memory any more, which is as it was otherwise
pub record Unmarks (number : ℕ) (old new : Memory) : Type 0 where
  pub same : IsSameButMarks old new
  pub holds : (m : CloakedMemory) → Holds old m → Holds new (without_mark number m)

-- The end of a program's step has come about in the hart, in the recorded page tables and in memory.
pub record IsCarriedOut {E : Type 0} (gave : E → E → List Piece → Type 0) (e e' : E) (h : Hart)
    (roots : List (List (Option ℕ))) (memory memory' : Memory) (given : Option Violation) (j : model.Joint) (number : ℕ)
    (items : List Item) (t : Turn) : Type 0 where
  pub more : List Item
  pub items_are : t.items ≡ items ++ more
  pub emits : Emits gave e e' (item_pieces more)
  pub violation : given ≡ t.violation
  pub console : t.console ≡ []
  pub halt : t.halt ≡ None
  pub harts : t.joint.harts ≡ slice_set j.harts number h
  pub domains : t.joint.domains ≡ j.domains
  pub disk : t.joint.disk ≡ j.disk
  pub ends : SameEnds t.joint j
  pub roots_are : AreRoots roots t.joint.memory.ledger.root
  pub holds : Holds memory j.memory → Holds memory' t.joint.memory

-- A step of a hart inside has come about in the hart, in the program that has this place, in the recorded page tables
-- and in memory.
pub record TurnsIn {E : Type 0} (gave : E → E → List Piece → Type 0) (e e' : E) (h : Hart) (domain : Domain)
    (roots : List (List (Option ℕ))) (memory : Memory) (given : Option Violation) (j : model.Joint) (number d : ℕ)
    (t : Turn) : Type 0 where
  pub emits : Emits gave e e' (item_pieces t.items)
  pub violation : given ≡ t.violation
  pub console : t.console ≡ []
  pub halt : t.halt ≡ None
  pub harts : t.joint.harts ≡ slice_set j.harts number h
  pub after : program.Domain
  pub stands : StandsFor domain after
  pub domains : t.joint.domains ≡ slice_set j.domains d after
  pub disk : t.joint.disk ≡ j.disk
  pub ends : SameEnds t.joint j
  pub roots_are : AreRoots roots t.joint.memory.ledger.root
  pub holds : Holds memory t.joint.memory

-- An interrupt has come about in the hart and in the program that has this place.
pub record InterruptsIn {E : Type 0} (gave : E → E → List Piece → Type 0) (e e' : E) (h : Hart)
    (domain : Domain) (j : model.Joint) (number d : ℕ) (t : Turn) : Type 0 where
  pub emits : Emits gave e e' (item_pieces t.items)
  pub violation : t.violation ≡ None
  pub console : t.console ≡ []
  pub halt : t.halt ≡ None
  pub harts : t.joint.harts ≡ slice_set j.harts number h
  pub after : program.Domain
  pub stands : StandsFor domain after
  pub domains : t.joint.domains ≡ slice_set j.domains d after
  pub disk : t.joint.disk ≡ j.disk
  pub ends : SameEnds t.joint j
  pub memory : t.joint.memory ≡ without_mark number j.memory

-- The end of a domain.

-- What follows a step has come about: what was emitted after its items, and what the machine then stands for.
pub record EndsAfter {E : Type 0} (gave : E → E → List Piece → Type 0) (e e' : E) (joint : Joint) (t after : Turn) :
    Type 0 where
  pub more : List Item
  pub items_are : after.items ≡ t.items ++ more
  pub emits : Emits gave e e' (item_pieces more)
  pub console : after.console ≡ t.console
  pub halt : after.halt ≡ t.halt
  pub stands : StandsForJoint joint after.joint

-- there is a domain, and it has not ended
abbrev pub has_left : Option Domain → Bool
has_left None = false
has_left (Some d) = not (control_of d).ended

-- nothing was asked, for a context of this space, or outside
abbrev pub nothing_in : Option SpaceId → AskedByStep
nothing_in space = record { space = space; events = []; items = []; changed = [] }

-- the spaces of a domain whose numbers are below n
abbrev pub spaces_below : ℕ → ℕ → List SpaceId
spaces_below d n = map (λ (k : ℕ). let s : SpaceId = record { domain = d; number = k } in s) (numbers_below n)
