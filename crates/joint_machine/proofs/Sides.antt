-- The step of a program over the machine's memory.
use Rattle.std.proofs.Common.{◌≡◌, ◌≢◌, ◌∙◌, ℕ, List, Option, Some, None, sym, subst}
use Rattle.std.specs.Option.{IfSome}
use Rattle.cloak_base.specs.declared.names.PageId.{PageId}
use Rattle.cloak_model.specs.declared.regime.InsideRegime.{InsideRegime}
use Rattle.cloak_model.specs.World.{World, Flat, Cloaked, Alone, items_of, violation_of}
use Rattle.cloak_model.specs.Asking.{Told}
use Rattle.cloak_model.specs.Cloaking.{CloakedMemory}
use Rattle.cloak_model.specs.Contexts.{Context, context_at}
use Rattle.cloak_model.specs.Resources.{Resources, page_at}
use Rattle.cloak_model.specs.DomainState as program
use Rattle.cloak_model.specs.declared.inside.Went.{Went}
use Rattle.cloak_model.specs.DomainStep.{DomainStepped}
use Rattle.cloak_model.specs.Exchange.{Piece, Emits, item_pieces}
use Rattle.cloak_model.specs.Joint.{pages_for}
use Rattle.cloak_pager.specs.State.{PagerState, IsNoneHeld, held_in}
use Rattle.cloaked_fork.specs.Marks.{AreUnused}
use Rattle.cloaked_side.specs.Seeing.{Sees, SeesInside, IsUnused}
use Rattle.cloaked_side.proofs.Telling.{emits_world, holds_world}
use Rattle.cloaked_side.specs.Telling.{HoldsWorld}
use Rattle.cloaked_side.specs.declared.memory.Memory.{Memory}
use Rattle.cloaked_side.specs.declared.program_side.ProgramSide.{ProgramSide}
use Rattle.cloaked_side.specs.declared.side.Side.{Side}
use Rattle.hypercalls.specs.declared.domain.Domain.{Domain}
use Rattle.hypercalls.specs.Standing.{StepsTo, HasPagesOf}
use Rattle.joint_machine.specs.declared.stepping.SteppedProgram.{SteppedProgram}
use Rattle.joint_machine.specs.Turning.{HoldsNoFree, HoldsNoOthers, StepsDomain, begun}

pages_in : (d : program.Domain) (c : Option Context) → IfSome c (λ x. (va : ℕ) (q : PageId) → page_at d.control.number d.control.resources x.space va ≡ Some q → pages_for d c va ≡ Some q)
pages_in d None = tt
pages_in d (Some c) = λ va q is. is

-- as a step begins, the pages of the context's space lie where its regions have them
pub pages_begun : (m : CloakedMemory) (regime : InsideRegime) (slot : ℕ) (d : program.Domain) (k : program.Control) → d.control ≡ k → HasPagesOf slot k (Cloaked (begun m regime slot d))
pages_begun m regime slot d k same = subst (λ (k : program.Control). HasPagesOf slot k (Cloaked (begun m regime slot d))) same (pages_in d (context_at d.control.contexts slot))

-- What a side saw, it saw of its memory and its emitter.

violation_world : {E : Type 0} (gave : E → E → List Piece → Type 0) (first now : Side E) (w : World) → Sees gave first now w → now.violation ≡ violation_of w
violation_world gave first now (Flat ram) sees = absurd sees
violation_world gave first now (Alone handed) sees = absurd sees
violation_world gave first now (Cloaked c) sees = sees.violation

-- the step over the side of a program, of the memory and the emitter that it gave back
pub steps_told : {E : Type 0} (gave : E → E → List Piece → Type 0) (first : Side E) (now : ProgramSide E) (domain : Domain) (given : SteppedProgram) (went : Went) (told : Told DomainStepped) (memory : Memory) (e : E) →
    memory ≡ now.side.memory.now → e ≡ now.side.emitter.now → given.violation ≡ now.side.violation → given.went ≡ went →
    StepsTo (λ asked w. SeesInside gave first asked.side w) now domain went told → StepsDomain gave first.emitter.now e memory domain given told
steps_told gave first now domain given went told memory e same_memory same_emitter same_violation same_went steps = record {
  went = same_went ∙ steps.went;
  violation = same_violation ∙ violation_world gave first now.side told.world steps.world_stands.0;
  emits = subst (λ x. Emits gave first.emitter.now x (item_pieces (items_of told.world))) (sym same_emitter) (emits_world gave first now.side told.world steps.world_stands.0);
  holds = subst (λ x. HoldsWorld x told.world) (sym same_memory) (holds_world gave first now.side told.world steps.world_stands.0);
  stands = steps.domain_stands;
}

-- what is unused in a side is unused in the memory that it gave back
pub unused_back : {E : Type 0} (side : Side E) (pager : PagerState) (domain : ℕ) (r : Resources) → pager ≡ side.memory.now.pager → side.domain ≡ domain → AreUnused (IsUnused side) r → HoldsNoFree domain r pager
unused_back side pager domain r same_pager same_domain unused =
    subst (λ (p : PagerState). HoldsNoFree domain r p) (sym same_pager)
    (record { unused = subst (λ (d : ℕ). AreUnused (IsNoneHeld side.memory.now.pager d) r) same_domain unused })

-- no page of another domain came into a frame of the memory that was given back
pub others_back : (d : ℕ) (old back new : PagerState) → back ≡ new → ((k : ℕ) (q : PageId) → q.domain ≢ d → held_in new k ≡ Some q → held_in old k ≡ Some q) → HoldsNoOthers d old back
others_back d old back new same others = subst (λ (p : PagerState). HoldsNoOthers d old p) (sym same) (record { held = others })
