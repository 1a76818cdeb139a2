-- A page that is presented to a step of a program: at which address the step asks for it, and in which frame it is found.
use Rattle.std.specs.Prelude.{ℕ, ◌≡◌, ◌≢◌, ◌<◌, ◌%◌, true, false, List, [], slice_get, slice_index_or, Bool, Option, Some, None, Ok}
use Rattle.cloak_base.specs.declared.names.Kind.{Kind}
use Rattle.cloak_base.specs.declared.names.Kind.TheVariants.{Fetch, Load, Store}
use Rattle.cloak_base.specs.declared.names.PageId.{PageId}
use Rattle.cloak_base.specs.Registers.{register}
use Rattle.rv_isa.specs.Table.{instruction}
use Rattle.rv_isa.specs.declared.instr.Instr.{Instr}
use Rattle.rv_atomic.specs.Table.{atomic_instruction}
use Rattle.rv_atomic.specs.declared.atomic.Atomic.{Atomic}
use Rattle.cloak_model.specs.declared.access.Walked.{Walked}
use Rattle.cloak_model.specs.declared.answer.Answer.TheVariants as answer
use Rattle.cloak_model.specs.declared.context.Phase.TheVariants.{Plain, CopyIn, CopyOut}
use Rattle.cloak_model.specs.declared.outcome.Effect.TheVariants as does
use Rattle.cloak_model.specs.AskPages.{ask_led_inside, ask_reach, ask_get}
use Rattle.cloak_model.specs.Calls.{buffer, call_length, area, byte_address, is_cloaked}
use Rattle.cloak_model.specs.Cloaking.{CloakedMemory, owed_in, owing_frame, settle, settle_frame_if}
use Rattle.cloak_model.specs.Contexts.{Context, context_at, domain_of, slot_of}
use Rattle.cloak_model.specs.Csr.{interrupt_due}
use Rattle.cloak_model.specs.DomainAlone.{runs_on}
use Rattle.cloak_model.specs.DomainState.{Domain}
use Rattle.cloak_model.specs.Effect.{effect}
use Rattle.cloak_model.specs.Hart.{Hart}
use Rattle.cloak_model.specs.Joint.{Moment, next_hart, hart_in, cloak_of, pages_for}
use Rattle.cloak_model.specs.KernelStep.{atomic_kind, ticked}
use Rattle.cloak_base.specs.Constants.{frame_of}
use Rattle.cloak_model.specs.Memory.{value_in}
use Rattle.cloak_model.specs.World.{World, MidStep, Cloaked, plain_of}

-- The step of a context.

-- the hart of the next step
abbrev pub hart_of_step : Moment → Hart
hart_of_step m = hart_in m.joint (next_hart m)

-- The next step is made by a context that runs on this hart: no interrupt is due.
pub record StepsInside (m : Moment) : Type 0 where
  pub ctx : ℕ
  pub runs : (hart_of_step m).inside ≡ Some ctx
  pub goes : interrupt_due (ticked (hart_of_step m)).mode (ticked (hart_of_step m)).csrs ≡ false
  pub domain : Domain
  pub program : slice_get m.joint.domains (domain_of ctx) ≡ Some domain
  pub context : Context
  pub there : context_at domain.control.contexts (slot_of ctx) ≡ Some context
  pub here : runs_on (next_hart m) (Some context) ≡ true

-- the page of the program that lies at an address of the context's space
abbrev pub page_here : {m : Moment} → StepsInside m → ℕ → Option PageId
page_here s va = pages_for s.domain (Some s.context) va

-- the memory as the step begins
abbrev pub world_inside : (m : Moment) → StepsInside m → World
world_inside m s = Cloaked (cloak_of m.joint.memory (ticked (hart_of_step m)) (domain_of s.ctx) (page_here s))

-- A context executes this word: its fetch is granted, which leaves memory w, and its page has it at the program counter.
pub record Executes (d : Domain) (c : Context) (begun : World) (word : ℕ) (w : World) : Type 0 where
  pub plain : c.phase ≡ Plain
  pub page : PageId
  pub lies : pages_for d (Some c) c.pc ≡ Some page
  pub granted : ask_reach page c.pc Fetch begun ≡ record { answer = answer.Ok; world = w }
  pub has : value_in (plain_of w page) (c.pc % 4096) 4 ≡ word

-- The area of a call, which the kernel sees, is not cloaked at this byte.
abbrev pub HasPlainArea : Domain → Context → ℕ → Type 0
HasPlainArea d c done = is_cloaked d.control.resources c (byte_address (area c) done) ≡ false

-- The step of a context, which began in this memory, asks for the page at an address, for an access of a kind, in memory w:
pub data AsksAt (d : Domain) (c : Context) (begun : World) (va : ℕ) (kind : Kind) (w : World) : Type 0 where
  -- for its instruction, as the step begins;
  Fetches : c.phase ≡ Plain → va ≡ c.pc → kind ≡ Fetch → w ≡ begun → AsksAt d c begun va kind w
  -- for what this loads or stores, after the fetch;
  LoadsAt : (word : ℕ) (i : Instr) → Executes d c begun word w → instruction word ≡ Some i →
      (rd width : ℕ) (is_signed : Bool) → effect i c.regs c.pc ≡ does.Load rd va width is_signed → kind ≡ Load →
      AsksAt d c begun va kind w
  StoresAt : (word : ℕ) (i : Instr) → Executes d c begun word w → instruction word ≡ Some i → (width value : ℕ) →
      effect i c.regs c.pc ≡ does.Store va width value → kind ≡ Store → AsksAt d c begun va kind w
  -- for the word of an atomic instruction, also where SC stores nothing;
  AtomicAt : (word : ℕ) (a : Atomic) → Executes d c begun word w → atomic_instruction word ≡ Some a →
      va ≡ register c.regs a.rs1 → va % 4 ≡ 0 → kind ≡ atomic_kind a.op → AsksAt d c begun va kind w
  -- for the next byte of a call's buffer, which is to go to the area, or which came from there.
  CopiesFrom : (done : ℕ) → c.phase ≡ CopyIn done → done < call_length c → va ≡ byte_address (buffer c) done →
      HasPlainArea d c done → kind ≡ Load → w ≡ begun → AsksAt d c begun va kind w
  CopiesTo : (done total byte : ℕ) → c.phase ≡ CopyOut done total → done < total →
      va ≡ byte_address (buffer c) done → HasPlainArea d c done →
      ask_get (byte_address (area c) done) 1 begun ≡ record { answer = answer.Word byte; world = w } →
      kind ≡ Store → AsksAt d c begun va kind w

-- The frame in which a page is found.

-- A frame has other bytes than those that are recorded of a page: what the kernel was last shown of it in this run, or
-- else the ciphertext of it with which the run began, as a file of an earlier run has it. The kernel sees the frame's
-- bytes, and no frame hides newer ones of the page.
pub record Differs (q : PageId) (f : ℕ) (m : CloakedMemory) : Type 0 where
  pub shown : List ℕ
  pub recorded : m.ledger.recorded q ≡ Some shown
  pub other : slice_index_or m.ram f [] ≢ shown
  pub visible : owed_in m f ≡ None
  pub newest : (g : ℕ) → owed_in m g ≢ Some q

-- the memory in which a frame is compared with what is recorded of a page: the frame is settled, and then the one that is
-- owed the page
abbrev pub at_comparison : PageId → ℕ → CloakedMemory → CloakedMemory
at_comparison q f m = let m' = (settle f m).memory in (settle_frame_if (owing_frame m' q) m').memory

-- The kernel's page table leads an access at an address to a frame of RAM. It is not the frame that is owed page q; and as
-- they are compared, with no draw missing, it differs from what is recorded of q.
pub record FindsOther (q : PageId) (va : ℕ) (kind : Kind) (f : ℕ) (c : MidStep) : Type 0 where
  pub walked : Walked
  pub found : MidStep
  pub leads : ask_led_inside va kind (Cloaked c) ≡ record { answer = Ok walked; world = Cloaked found }
  pub frame : frame_of walked.pa ≡ f
  pub elsewhere : owed_in found.memory f ≢ Some q
  pub drawn : (at_comparison q f found.memory).ledger.missed ≡ false
  pub differs : Differs q f (at_comparison q f found.memory)

-- In the step of a context, page q is presented in frame f: q lies, in the context's space, at the address for which the
-- step asks, and is found there in f.
pub record PresentsPage (m : Moment) (q : PageId) (f : ℕ) : Type 0 where
  pub step : StepsInside m
  pub va : ℕ
  pub kind : Kind
  pub lies : page_here step va ≡ Some q
  pub at : MidStep
  pub asks : AsksAt step.domain step.context (world_inside m step) va kind (Cloaked at)
  pub finds : FindsOther q va kind f at
