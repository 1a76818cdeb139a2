-- How a step ends in which a context is to make a cloaked load: the load is completed, or the context leaves to the
-- kernel with a fault, or its domain ends by a violation, or the run stops for want of a draw. It is exactly one of
-- these.
use Rattle.std.specs.Prelude.{ℕ, suc, ◌≡◌, ◌⊎◌, Bool, true, false, List, [], ◌∷◌, ◌++◌, length, filter, slice_get, slice_index_or, Option, Some, None, Ok, if◌then◌else◌}
use Rattle.std.specs.List.{flat_map}
use Rattle.cloak_base.specs.declared.causes.Shown.{Shown}
use Rattle.cloak_base.specs.declared.causes.Stop.{Stop}
use Rattle.cloak_base.specs.declared.causes.Stop.TheVariants as stop
use Rattle.cloak_base.specs.declared.causes.Violation.{Violation}
use Rattle.cloak_base.specs.declared.causes.Violation.TheVariants as violation
use Rattle.cloak_base.specs.declared.names.Frame.{Frame}
use Rattle.cloak_base.specs.declared.names.Kind.{Kind}
use Rattle.cloak_base.specs.declared.names.PageId.{PageId}
use Rattle.cloak_model.specs.declared.context.Why.TheVariants.{Trap}
use Rattle.cloak_model.specs.declared.image.Bundle.{Bundle}
use Rattle.cloak_model.specs.Items.{Item}
use Rattle.cloak_model.specs.Items as item
use Rattle.cloak_model.specs.Beginning.{Beginning, IsBeginning}
use Rattle.cloak_model.specs.Bundle.{IsInGrammar}
use Rattle.cloak_model.specs.Contexts.{Context, domain_of, suspended, shown}
use Rattle.cloak_model.specs.Halves.{inward_half}
use Rattle.cloak_model.specs.Joint.{Turn, stop_of}
use Rattle.cloak_model.specs.Run.{Run, run_from}
use Rattle.cloak_model.specs.Walk.{access_fault, page_fault}
use Rattle.kernel_isolation.specs.Isolation.{joint_until}
use Rattle.page_law.specs.OwnPages.{context_of_step}
use Rattle.latest_store.specs.Moves.{Move, Loads}
use Rattle.latest_store.specs.Deeds.{step_moves}
use Rattle.latest_store.specs.LatestStore.{history_until}
use Rattle.cause_law.specs.Causes.{moment_at, context_running}
use Rattle.cause_law.specs.Presented.{StepsInside}
use Rattle.load_law.specs.Due.{Question, DueLoad, load_of, load_due}

-- What is seen of a step of a program's context.
pub record SeenOfStep : Type 0 where
  -- what the program was told, in order
  pub told : List Item
  -- the loads among what the step did to pages
  pub loads : List Move
  -- what the kernel was shown of contexts that left
  pub left : List Shown
  -- the violation by which the program's domain is listed after the step, if it is
  pub listed : Option Violation
  -- the context after the step, if it is still there
  pub context : Option Context
  -- why the step stopped the run, if it did
  pub stop : Option Stop

abbrev pub is_load : Move → Bool
is_load (Loads q address width) = true
is_load _ = false

abbrev pub left_by : Item → List Shown
left_by (item.Leave s) = s ∷ []
left_by _ = []

-- what contexts that left showed among these items
abbrev pub left_in : List Item → List Shown
left_in items = flat_map left_by items

-- the moves of step n of a run, counted from 0, which wrote these items
abbrev pub moves_in : Bundle → Beginning → Run → ℕ → List Item → List Move
moves_in b from r n items =
    step_moves (history_until b from n r) (joint_until n r).domains (context_of_step b r n) items

-- step n of a run, of the context with this number
abbrev pub seen_in : Bundle → Beginning → Run → ℕ → ℕ → Turn → SeenOfStep
seen_in b from r n ctx t = record {
  told = inward_half (domain_of ctx) t.items;
  loads = filter is_load (moves_in b from r n t.items);
  left = left_in t.items;
  listed = slice_index_or t.joint.ended (domain_of ctx) None;
  context = context_running t.joint ctx;
  stop = stop_of t;
}

-- After these answers a step asks this one of the two questions for its load.
pub data Asks (d : ℕ) (due : DueLoad) : List Item → Question → Type 0 where
  First : Asks d due [] due.first
  Second : Asks d due (item.Ok d ∷ []) due.second

-- the cause of a fault of an access of this kind
abbrev pub IsFaultOf : Kind → ℕ → Type 0
IsFaultOf kind cause = (cause ≡ page_fault kind) ⊎ (cause ≡ access_fault kind)

-- The four ways in which a step of context `ctx`, which is `c` and is to make this load, is seen to end. No step ends
-- in two of them.
pub data LoadEnds (c : Context) (ctx : ℕ) (due : DueLoad) : SeenOfStep → Type 0 where
  -- Completed: both questions were granted, and the load is the only one of the step.
  Completed : (after : Option Context) → LoadEnds c ctx due
      (record {
        told = item.Ok (domain_of ctx) ∷ item.Ok (domain_of ctx) ∷ [];
        loads = load_of due ∷ [];
        left = [];
        listed = None;
        context = after;
        stop = None;
      })
  -- Absent: a question was answered with a fault of its access, and the context left with this fault, as it was.
  Absent : (earlier : List Item) (q : Question) → Asks (domain_of ctx) due earlier q → (cause : ℕ) →
      IsFaultOf q.kind cause → LoadEnds c ctx due
      (record {
        told = earlier ++ item.Absent (domain_of ctx) cause ∷ [];
        loads = [];
        left = shown c ctx (Trap cause q.address) ∷ [];
        listed = None;
        context = Some (suspended c);
        stop = None;
      })
  -- Ended: a question for a page of the program was stopped, and the program's domain ended. The violation names this
  -- page; why it was met is said in `cause_law`. A draw may be missing at the end, which then stops the run too.
  Ended : (earlier : List Item) (q : Question) → Asks (domain_of ctx) due earlier q → (p : PageId) →
      q.page ≡ Some p → p.domain ≡ domain_of ctx → (frame : Frame) (missed : Bool) → LoadEnds c ctx due
      (record {
        told = earlier ++ item.Stopped (domain_of ctx) ∷ item.Ended (domain_of ctx) ∷ [];
        loads = [];
        left = [];
        listed = Some (violation.Page p frame);
        context = None;
        stop = if missed then Some stop.NoRandom else None;
      })
  -- Stopped: a draw was missing for a question, and the run stopped.
  Stopped : (earlier : List Item) (q : Question) → Asks (domain_of ctx) due earlier q → LoadEnds c ctx due
      (record {
        told = earlier ++ item.Stopped (domain_of ctx) ∷ [];
        loads = [];
        left = [];
        listed = None;
        context = Some c;
        stop = Some stop.NoRandom;
      })

-- What a run does: if a context makes a step of it, and is to make a cloaked load in it, the step ends in one of these
-- ways.
abbrev pub EndsDueLoads : Bundle → Beginning → Run → Type 0
EndsDueLoads b from r =
    (n : ℕ) (t : Turn) → slice_get r.turns n ≡ Some t → (s : StepsInside (moment_at b r n)) (due : DueLoad) →
    load_due s.context.phase (history_until b from n r) s.domain.control s.context ≡ Some due →
    LoadEnds s.context s.ctx due (seen_in b from r n s.ctx t)

-- A step of a context that is to make this load.
pub record IsToMake (b : Bundle) (from : Beginning) (r : Run) (n : ℕ) (load : Move) : Type 0 where
  pub step : StepsInside (moment_at b r n)
  pub due : DueLoad
  pub is : load_due step.context.phase (history_until b from n r) step.domain.control step.context ≡ Some due
  pub same : load_of due ≡ load

-- It makes no other loads: if there are loads among what a step did to pages, the first of them was due.
abbrev pub MakesDueLoads : Bundle → Beginning → Run → Type 0
MakesDueLoads b from r =
    (n : ℕ) (t : Turn) → slice_get r.turns n ≡ Some t → (load : Move) (more : List Move) →
    filter is_load (moves_in b from r n t.items) ≡ load ∷ more → IsToMake b from r n load

-- A step that stops it for want of a draw is its last, and the report says so.
pub record IsLastStep (r : Run) (n : ℕ) : Type 0 where
  pub last : suc n ≡ length r.turns
  pub reported : r.stop ≡ stop.NoRandom

abbrev pub MissesAreLast : Run → Type 0
MissesAreLast r =
    (n : ℕ) (t : Turn) → slice_get r.turns n ≡ Some t → stop_of t ≡ Some stop.NoRandom → IsLastStep r n

-- A violation that is listed after a step is listed as the run is closed: so the report has it.
abbrev pub KeepsListed : Run → Type 0
KeepsListed r =
    (n : ℕ) (t : Turn) → slice_get r.turns n ≡ Some t → (d : ℕ) (v : Violation) →
    slice_index_or t.joint.ended d None ≡ Some v → slice_index_or r.closed.joint.ended d None ≡ Some v

-- The laws, of every run from whatever beginning.

abbrev pub DueLoadsEnd : Type 0
DueLoadsEnd =
    (b : Bundle) (from : Beginning) (budget : ℕ) (r : Run) → IsInGrammar b → IsBeginning b from →
    run_from b from budget ≡ Ok r → EndsDueLoads b from r

abbrev pub OnlyDueLoads : Type 0
OnlyDueLoads =
    (b : Bundle) (from : Beginning) (budget : ℕ) (r : Run) → run_from b from budget ≡ Ok r → MakesDueLoads b from r

abbrev pub MissingDrawsStop : Type 0
MissingDrawsStop =
    (b : Bundle) (from : Beginning) (budget : ℕ) (r : Run) → run_from b from budget ≡ Ok r → MissesAreLast r

abbrev pub ListedStay : Type 0
ListedStay =
    (b : Bundle) (from : Beginning) (budget : ℕ) (r : Run) → IsInGrammar b → run_from b from budget ≡ Ok r →
    KeepsListed r
