-- The trace of a program's side: what each item adds, by the states of the program alone before and after it.
use Rattle.std.specs.Prelude.{ℕ, ◌%◌, ◌==◌, ◌&&◌, ◌||◌, Bool, true, false, List, [], ◌∷◌, ◌++◌, codes, decimal, Option, Some, None, is_none, option_map, if◌then◌else◌}
use Rattle.cloak_base.specs.declared.names.PageId.{PageId}
use Rattle.cloak_model.specs.Contexts.{Context, context_at, context_number}
use Rattle.cloak_model.specs.declared.context.Phase.{Phase}
use Rattle.cloak_model.specs.declared.context.Phase.TheVariants.{Plain, CopyIn, Waiting, CopyOut}
use Rattle.cloak_model.specs.declared.image.KernelImage.{KernelImage}
use Rattle.cloak_model.specs.Parts.{DomainPart}
use Rattle.cloak_model.specs.Items.{Item}
use Rattle.cloak_model.specs.Items as item
use Rattle.cloak_model.specs.DomainAlone as model
use Rattle.cloak_model.specs.DomainAlone.{opened_with_part, take_domain_item}
use Rattle.cloak_model.specs.Memory.{value_in}
use Rattle.cloak_model.specs.Parts.{DomainPart}
use Rattle.cloak_model.specs.Resources.{page_at}
use Rattle.alone_views.specs.DomainMoments.{running_in}
use Rattle.alone_views.specs.DomainStanding.{hart_at}
use Rattle.alone_views.specs.KernelEnding.{is_end}
use Rattle.step_lines.specs.Ahead.{reach_of}
use Rattle.step_lines.specs.Contexts.{context_sight, context_step_line}
use Rattle.cloak_model.specs.Effect.{is_width}
use Rattle.step_lines.specs.Lines.{item_line}
use Rattle.step_lines.specs.declared.contexts.ContextAhead.{ContextAhead}
use Rattle.step_lines.specs.declared.contexts.LastAnswer.{LastAnswer}
use Rattle.step_lines.specs.declared.contexts.LastAnswer.TheVariants as last
use Rattle.step_lines.specs.declared.contexts.ReachedPage.{ReachedPage}
use Rattle.step_lines.specs.declared.reach.MemoryReach.{MemoryReach}
use Rattle.run_trace.specs.Choice.{has_step}
use Rattle.run_trace.specs.declared.choice.TraceChoice.{TraceChoice}
use Rattle.run_trace.specs.declared.program_side.OpenContext.{OpenContext}

-- The pages of a program.

-- the page at an address of a space
abbrev pub page_there : DomainPart → ℕ → ℕ → Option PageId
page_there p space address = page_at p.domain.control.number p.domain.control.resources space address

-- the value of so many bytes at an address that is a multiple of their count, 0 at any other
abbrev pub value_of_page : List ℕ → ℕ → ℕ → ℕ
value_of_page page address width =
    if is_width width && (address % width == 0) then value_in page (address % 4096) width else 0

-- the value in a page of the program
abbrev pub value_in_page : DomainPart → PageId → ℕ → ℕ → ℕ
value_in_page p q address width = value_of_page (p.plain q.resource q.page) address width

abbrev pub value_by : DomainPart → ℕ → ℕ → Option PageId → ℕ
value_by p address width None = 0
value_by p address width (Some q) = value_in_page p q address width

-- the value there, 0 if no page of the program lies there
abbrev pub cloaked_value : DomainPart → ℕ → ℕ → ℕ → ℕ
cloaked_value p space address width = value_by p address width (page_there p space address)

-- What a context is about to do.

abbrev pub word_by : DomainPart → ℕ → Option PageId → Option ℕ
word_by p pc None = None
word_by p pc (Some q) = Some (value_in_page p q pc 4)

-- the word at its program counter, if its next step is an instruction of a page of its own
abbrev pub word_in_phase : Phase → DomainPart → Context → Option ℕ
word_in_phase Plain p c = word_by p c.pc (page_there p c.space c.pc)
word_in_phase (CopyIn done) p c = None
word_in_phase Waiting p c = None
word_in_phase (CopyOut done total) p c = None

abbrev pub word_of : DomainPart → Context → Option ℕ
word_of p c = word_in_phase c.phase p c

abbrev pub reached_as : Bool → ℕ → MemoryReach → ReachedPage
reached_as is_cloaked value r = record {
  is_store = r.is_store;
  address = r.address;
  width = r.width;
  is_cloaked = is_cloaked;
  value = value;
  stored = r.stored;
}

-- What an access reaches: a page of the program, or memory that is not its own. An atomic instruction reaches no memory
-- that is not the program's.

abbrev pub uncloaked_reached : MemoryReach → Option ReachedPage
uncloaked_reached r = if r.is_atomic then None else Some (reached_as false 0 r)

abbrev pub page_reached : DomainPart → MemoryReach → Option PageId → Option ReachedPage
page_reached p r None = uncloaked_reached r
page_reached p r (Some q) = Some (reached_as true (value_in_page p q r.address r.width) r)

abbrev pub page_if : DomainPart → ℕ → Option MemoryReach → Option ReachedPage
page_if p space None = None
page_if p space (Some r) = page_reached p r (page_there p space r.address)

abbrev pub pages_reached : DomainPart → Context → Option ℕ → Option ReachedPage
pages_reached p c None = None
pages_reached p c (Some word) = page_if p c.space (reach_of c.regs c.pc word)

abbrev pub context_ahead : DomainPart → Context → ContextAhead
context_ahead p c = record {
  sight = context_sight c;
  phase = c.phase;
  word = word_of p c;
  reached = pages_reached p c (word_of p c);
}

-- The step of one of its contexts that is open and does not have its items, if it is chosen.

abbrev pub opened : ℕ → ℕ → ℕ → ℕ → DomainPart → Context → OpenContext
opened step hart slot ctx p x =
    record { step = step; hart = hart; slot = slot; ctx = ctx; space = x.space; ahead = context_ahead p x }

abbrev pub open_if : Bool → OpenContext → Option OpenContext
open_if chosen o = if chosen then Some o else None

abbrev pub open_with : TraceChoice → ℕ → List ℕ → model.DomainAlone → ℕ → Option Context → Option OpenContext
open_with c d turns s slot None = None
open_with c d turns s slot (Some x) =
    open_if (has_step c s.steps (Some (hart_at turns s.steps)))
    (opened s.steps (hart_at turns s.steps) slot (context_number d slot) s.part x)

abbrev pub open_slot : TraceChoice → ℕ → List ℕ → model.DomainAlone → Option ℕ → Option OpenContext
open_slot c d turns s None = None
open_slot c d turns s (Some slot) = open_with c d turns s slot (context_at s.part.domain.control.contexts slot)

abbrev pub open_context : TraceChoice → ℕ → List ℕ → model.DomainAlone → Option OpenContext
open_context c d turns s = open_slot c d turns s (running_in s.stage)

-- The last answer that a step got, by the item after which it was made.

abbrev pub last_answer : Item → LastAnswer
last_answer (item.Ok domain) = last.Granted
last_answer (item.Absent domain cause) = last.Absent cause
last_answer (item.Word domain value) = last.Word value
last_answer (item.Stopped domain) = last.Stopped
last_answer (item.Timer domain) = last.Timer
last_answer other = last.Nothing

-- what then stands where the step reached
abbrev pub value_after : DomainPart → ℕ → Option ReachedPage → ℕ
value_after p space None = 0
value_after p space (Some r) = cloaked_value p space r.address r.width

-- The line of a step that was open, over the state after the item after which it was made.
abbrev pub made_context : Option OpenContext → model.DomainAlone → Item → List ℕ
made_context None next i = []
made_context (Some o) next i =
    context_step_line o.step o.hart o.ctx o.ahead (last_answer i)
    (option_map context_sight (context_at next.part.domain.control.contexts o.slot))
    (value_after next.part o.space o.ahead.reached)

-- the step was made: it has its items, or it ended without one
abbrev pub is_made : Option ℕ → model.DomainStage → Item → Bool
is_made None stage i = is_end i || is_none (running_in stage)
is_made (Some unfit) stage i = false

abbrev pub made_if : Bool → Option OpenContext → model.DomainAlone → Item → List ℕ
made_if made o next i = if made then made_context o next i else []

-- The items that tell what was done to the program, and are for it.
abbrev pub is_own : ℕ → Item → Bool
is_own d (item.Resume domain ctx answer) = domain == d
is_own d (item.Ended domain) = domain == d
is_own d other = false

abbrev pub own_line : TraceChoice → List ℕ → Bool → model.DomainAlone → Item → List ℕ
own_line c turns fits s i =
    if fits && has_step c s.steps (Some (hart_at turns s.steps))
    then item_line s.steps (Some (hart_at turns s.steps)) i else []

-- What an item adds: that it tells what was done to the program, or the step that was made with it.
unfoldable pub program_added : TraceChoice → ℕ → List ℕ → model.DomainAlone → model.DomainAlone → Item → List ℕ
program_added c d turns s next i =
    if is_own d i then own_line c turns (is_none next.unfit) s i else
    made_if (is_made next.unfit next.stage i) (open_context c d turns s) next i

-- the items in their order
unfoldable pub program_traced : TraceChoice → ℕ → List ℕ → model.DomainAlone → List Item → List ℕ
program_traced c d turns s [] = []
program_traced c d turns s (i ∷ items) =
    program_added c d turns s (take_domain_item d turns s i) i
    ++ program_traced c d turns (take_domain_item d turns s i) items

abbrev pub program_trace : TraceChoice → ℕ → KernelImage → DomainPart → List Item → List ℕ
program_trace c d k p items = program_traced c d k.schedule (opened_with_part p) items

-- the last line, once a record was read to its end
abbrev pub program_end : model.DomainAlone → List ℕ
program_end s = codes "end: step " ++ (decimal s.steps ++ codes " was the last\n")
