-- What the next step of a hart outside cloaked mode does to RAM and to reservations.
use Rattle.std.specs.Prelude.{ℕ, ◌%◌, ◌==◌, Bool, true, false, ◌&&◌, List, length, Option, Some, None, Ok, Err, if◌then◌else◌}
use Rattle.cloak_base.specs.Registers.{register}
use Rattle.cloak_base.specs.declared.names.Kind.{Kind}
use Rattle.cloak_base.specs.declared.names.Kind.TheVariants.{Fetch, Store}
use Rattle.cloak_base.specs.declared.names.Mode.{Mode}
use Rattle.cloak_base.specs.declared.names.Mode.TheVariants.{U, S}
use Rattle.rv_isa.specs.Table.{instruction}
use Rattle.rv_isa.specs.declared.instr.Instr.{Instr}
use Rattle.rv_atomic.specs.Table.{atomic_instruction}
use Rattle.rv_atomic.specs.declared.atomic.Atomic.{Atomic}
use Rattle.rv_atomic.specs.declared.atomic.AtomicOp.{AtomicOp}
use Rattle.rv_atomic.specs.declared.atomic.AtomicOp.TheVariants.{Lr, Sc}
use Rattle.cloak_model.specs.declared.outcome.Effect.{Effect}
use Rattle.cloak_model.specs.declared.outcome.Effect.TheVariants as does
use Rattle.cloak_model.specs.Ask.{is_reserved}
use Rattle.cloak_model.specs.Csr.{satp_of, interrupt_due}
use Rattle.cloak_model.specs.Effect.{effect}
use Rattle.cloak_model.specs.Hart.{Hart}
use Rattle.cloak_model.specs.HostCalls.{is_transfer}
use Rattle.cloak_model.specs.KernelStep.{access, is_ecall, atomic_kind, ticked}
use Rattle.cloak_model.specs.Memory.{Seen, is_in_ram, value_at, mark_of}
use Rattle.cloak_model.specs.Walk.{Walk, walk}

-- A step does at most one of these.
pub data Deed : Type 0 where
  -- it writes no byte of RAM, and makes no reservation
  Idle : Deed
  -- LR: the word at this address is reserved
  Reserves : ℕ → Deed
  -- SC: the word at this address is stored, since the hart has reserved it
  StoresReserved : ℕ → Deed
  -- a store or an atomic memory operation: this many bytes are stored from this address on
  Stores : ℕ → ℕ → Deed
  -- READ: the frame that begins at this address is filled from the disk
  Fills : ℕ → Deed

-- the address in RAM where an access leads, if it leads to one
abbrev pub target : List (List ℕ) → Walk → Option ℕ
target ram (Ok walked) = if is_in_ram ram walked.pa then Some walked.pa else None
target ram (Err cause) = None

abbrev pub target_of : Hart → List (List ℕ) → Kind → ℕ → Option ℕ
target_of h ram kind va = target ram (walk ram (satp_of h.csrs) (access h kind va))

-- what is done where an access leads
abbrev pub done_at : (ℕ → Deed) → Option ℕ → Deed
done_at deed None = Idle
done_at deed (Some pa) = deed pa

-- READ, host call 2 of S mode, if the transfer is accepted
abbrev pub read_deed : Mode → Hart → List (List ℕ) → List ℕ → Deed
read_deed U h ram disk = Idle
read_deed S h ram disk =
    if (register h.regs 17 == 2) && is_transfer (length ram) disk (register h.regs 10) (register h.regs 11)
    then Fills (register h.regs 11) else Idle

-- an instruction
unfoldable pub effect_deed : Hart → Seen → List ℕ → Instr → Effect → Deed
effect_deed h seen disk i (does.Store va width value) = done_at (λ pa. Stores pa width) (target_of h seen.ram Store va)
effect_deed h seen disk i does.System = if is_ecall i then read_deed h.mode h seen.ram disk else Idle
effect_deed h seen disk i _ = Idle

-- an atomic instruction that reaches the word at this address
abbrev pub atomic_deed : AtomicOp → Option ℕ → ℕ → Deed
atomic_deed Lr mark pa = Reserves pa
atomic_deed Sc mark pa = if is_reserved pa mark then StoresReserved pa else Idle
atomic_deed _ mark pa = Stores pa 4

-- a word that is no other instruction
unfoldable pub atomic_word_deed : Hart → Seen → Option Atomic → Deed
atomic_word_deed h seen None = Idle
atomic_word_deed h seen (Some a) =
    let va = register h.regs a.rs1 in
    if va % 4 == 0
    then done_at (atomic_deed a.op (mark_of h.id seen.marks)) (target_of h seen.ram (atomic_kind a.op) va)
    else Idle

-- a word
abbrev pub word_deed : Hart → Seen → List ℕ → ℕ → Option Instr → Deed
word_deed h seen disk w None = atomic_word_deed h seen (atomic_instruction w)
word_deed h seen disk w (Some i) = effect_deed h seen disk i (effect i h.regs h.pc)

-- the word at this address
abbrev pub fetched_deed : Hart → Seen → List ℕ → ℕ → Deed
fetched_deed h seen disk pa = let w = value_at seen.ram pa 4 in word_deed h seen disk w (instruction w)

-- a step whose timer has fallen: it takes an interrupt, or makes the instruction at the program counter
abbrev pub deed_after : Bool → Hart → Seen → List ℕ → Deed
deed_after true h seen disk = Idle
deed_after false h seen disk = done_at (fetched_deed h seen disk) (target_of h seen.ram Fetch h.pc)

unfoldable pub deed_of : Hart → Seen → List ℕ → Deed
deed_of h seen disk = let h' = ticked h in deed_after (interrupt_due h'.mode h'.csrs) h' seen disk
