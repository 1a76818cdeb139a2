-- The cloaked load that a step of a context is to make, if it is to make one. It is told as what a step does to pages
-- (`latest_store`, `specs/Deeds`): by the contexts and the regions of the program, and by the history before the step.
-- What the step is answered is not looked at, nor any page, frame or page table.
use Rattle.std.specs.Prelude.{ℕ, ◌%◌, ◌==◌, nat_le, Bool, true, false, List, Option, Some, None, if◌then◌else◌}
use Rattle.cloak_base.specs.Registers.{register}
use Rattle.cloak_base.specs.declared.names.Kind.{Kind}
use Rattle.cloak_base.specs.declared.names.Kind.TheVariants.{Fetch, Load, Store}
use Rattle.cloak_base.specs.declared.names.PageId.{PageId}
use Rattle.rv_isa.specs.Table.{instruction}
use Rattle.rv_isa.specs.declared.instr.Instr.{Instr}
use Rattle.rv_atomic.specs.Table.{atomic_instruction}
use Rattle.rv_atomic.specs.declared.atomic.Atomic.{Atomic}
use Rattle.rv_atomic.specs.declared.atomic.AtomicOp.{AtomicOp}
use Rattle.rv_atomic.specs.declared.atomic.AtomicOp.TheVariants.{Sc}
use Rattle.cloak_model.specs.declared.context.Phase.{Phase}
use Rattle.cloak_model.specs.declared.context.Phase.TheVariants.{Plain, CopyIn, Waiting, CopyOut}
use Rattle.cloak_model.specs.declared.outcome.Effect.{Effect}
use Rattle.cloak_model.specs.declared.outcome.Effect.TheVariants as does
use Rattle.cloak_model.specs.Calls.{buffer, area, call_length, byte_address, is_cloaked}
use Rattle.cloak_model.specs.Contexts.{Context}
use Rattle.cloak_model.specs.DomainState.{Control}
use Rattle.cloak_model.specs.Effect.{effect}
use Rattle.cloak_model.specs.KernelStep.{atomic_kind}
use Rattle.latest_store.specs.Moves.{Move, Loads, latest_value}
use Rattle.latest_store.specs.Deeds.{page_for}

-- A question of a step: an access of a kind at an address, and the page of the program that lies there. None lies in
-- the area of a call, which the kernel sees.
pub record Question : Type 0 where
  pub kind : Kind
  pub address : ℕ
  pub page : Option PageId

-- A load of `width` bytes at a cloaked address, in the page that lies there. The step asks two questions for it, one
-- after the other.
pub record DueLoad : Type 0 where
  pub page : PageId
  pub address : ℕ
  pub width : ℕ
  pub first : Question
  pub second : Question

-- what it is among the moves of a step
abbrev pub load_of : DueLoad → Move
load_of due = Loads due.page due.address due.width

-- An instruction asks for itself, in page p, and then for what it loads, by an access of this kind.
abbrev pub instruction_load : Context → PageId → Kind → ℕ → ℕ → Option PageId → Option DueLoad
instruction_load c p kind address width None = None
instruction_load c p kind address width (Some q) =
    Some (record {
      page = q;
      address = address;
      width = width;
      first = record { kind = Fetch; address = c.pc; page = Some p };
      second = record { kind = kind; address = address; page = Some q };
    })

-- LR and the operations load their word, SC loads nothing
abbrev pub atomic_load : Context → PageId → AtomicOp → ℕ → Option PageId → Option DueLoad
atomic_load c p Sc address place = None
atomic_load c p op address place = instruction_load c p (atomic_kind op) address 4 place

-- what an instruction does
unfoldable pub effect_due : Control → Context → PageId → Effect → Option DueLoad
effect_due d c p (does.Load rd address width is_signed) =
    instruction_load c p Load address width (page_for d c address)
effect_due d c p _ = None

-- an atomic instruction, at an address that is a multiple of 4
unfoldable pub atomic_due : Control → Context → PageId → Option Atomic → Option DueLoad
atomic_due d c p None = None
atomic_due d c p (Some a) =
    let address = register c.regs a.rs1 in
    if address % 4 == 0 then atomic_load c p a.op address (page_for d c address) else None

-- a word, which may be an instruction
unfoldable pub word_due : Control → Context → PageId → ℕ → Option Instr → Option DueLoad
word_due d c p word None = atomic_due d c p (atomic_instruction word)
word_due d c p word (Some i) = effect_due d c p (effect i c.regs c.pc)

-- the word that was stored last at the program counter
unfoldable pub fetched_due : List Move → Control → Context → Option PageId → Option DueLoad
fetched_due earlier d c None = None
fetched_due earlier d c (Some p) =
    let word = latest_value earlier p (c.pc % 4096) 4 in word_due d c p word (instruction word)

-- A byte of a call's buffer is loaded from one address and put at another one in the area, unless that is cloaked.
abbrev pub byte_load : ℕ → ℕ → Option PageId → Bool → Option DueLoad
byte_load from to None cloaked = None
byte_load from to (Some q) true = None
byte_load from to (Some q) false =
    Some (record {
      page = q;
      address = from;
      width = 1;
      first = record { kind = Load; address = from; page = Some q };
      second = record { kind = Store; address = to; page = None };
    })

-- the next byte of a call, if it is not the last
unfoldable pub copy_due : Control → Context → ℕ → Option DueLoad
copy_due d c done =
    let from = byte_address (buffer c) done in
    let to = byte_address (area c) done in
    if nat_le (call_length c) done then None else
    byte_load from to (page_for d c from) (is_cloaked d.resources c to)

-- a step by the context's phase: an instruction, or a byte that is copied to the kernel
unfoldable pub load_due : Phase → List Move → Control → Context → Option DueLoad
load_due Plain earlier d c = fetched_due earlier d c (page_for d c c.pc)
load_due (CopyIn done) earlier d c = copy_due d c done
load_due Waiting earlier d c = None
load_due (CopyOut done total) earlier d c = None
