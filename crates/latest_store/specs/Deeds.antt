-- What a step does to cloaked pages. It is told by the contexts and the regions of the program that makes the step, by
-- what the program is answered in the step, and by the history before it: the instruction is the word that was stored
-- last where the program counter points. No page, no frame and no page table is looked at.
use Rattle.std.specs.Prelude.{ℕ, ◌%◌, ◌==◌, Bool, true, false, List, [], ◌∷◌, map, slice_get, Option, Some, None, if◌then◌else◌, position, Result, Ok, Err}
use Rattle.std.specs.List.{flat_map}
use Rattle.cloak_base.specs.Registers.{register}
use Rattle.cloak_base.specs.declared.names.PageId.{PageId}
use Rattle.rv_isa.specs.Table.{instruction}
use Rattle.rv_isa.specs.declared.instr.Instr.{Instr}
use Rattle.rv_isa.specs.declared.instr.Instr.TheVariants.{Ecall}
use Rattle.rv_atomic.specs.Table.{atomic_instruction}
use Rattle.rv_atomic.specs.declared.atomic.Atomic.{Atomic}
use Rattle.rv_atomic.specs.declared.atomic.AtomicOp.{AtomicOp}
use Rattle.rv_atomic.specs.declared.atomic.AtomicOp.TheVariants.{Lr, Sc}
use Rattle.cloak_model.specs.declared.context.Phase.{Phase}
use Rattle.cloak_model.specs.declared.context.Phase.TheVariants.{Plain, CopyIn, Waiting, CopyOut}
use Rattle.cloak_model.specs.Items.{Item}
use Rattle.cloak_model.specs.Items as item
use Rattle.cloak_model.specs.declared.outcome.Effect.{Effect}
use Rattle.cloak_model.specs.declared.outcome.Effect.TheVariants as does
use Rattle.cloak_model.specs.declared.resource.MapFault.{MapFault}
use Rattle.cloak_model.specs.declared.resource.Owner.TheVariants.{Space, File}
use Rattle.cloak_model.specs.Effect.{effect}
use Rattle.cloak_model.specs.Halves.{inward_half}
use Rattle.cloak_model.specs.Opening.{numbers_below}
use Rattle.cloak_model.specs.Resources.{page_at, new_resource}
use Rattle.cloak_model.specs.Contexts.{Context, context_at, domain_of, slot_of, word_of_page, is_reserved}
use Rattle.cloak_model.specs.DomainState.{Control, Domain}
use Rattle.cloak_model.specs.Calls.{buffer, byte_address}
use Rattle.cloak_model.specs.Fork.{copies, private_numbers}
use Rattle.cloak_model.specs.Files.{holds_file}
use Rattle.cloak_model.specs.Hypercalls as hyper
use Rattle.cloak_model.specs.Hypercalls.{Hypercall, New, ForkSpace, Exit, hypercall_of}
use Rattle.latest_store.specs.Moves.{Move, Stores, Combines, Copies, Zeros, Drops, Loads, latest_value}

-- A step of a program asks at most twice: mostly for its instruction, and then for what this is about. Here is what it
-- does if the first question was granted, or if both were.

abbrev pub is_granted : Item → Bool
is_granted (item.Ok domain) = true
is_granted _ = false

abbrev pub first_granted : List Item → Bool
first_granted [] = false
first_granted (first ∷ later) = is_granted first

abbrev pub both_granted : List Item → Bool
both_granted (first ∷ second ∷ []) = if is_granted first then is_granted second else false
both_granted _ = false

-- the page at an address of a context's space
abbrev pub page_for : Control → Context → ℕ → Option PageId
page_for d c address = page_at d.number d.resources c.space address

-- a load, and a store, if the address is cloaked

abbrev pub load_at : ℕ → ℕ → Option PageId → List Move
load_at address width None = []
load_at address width (Some q) = Loads q address width ∷ []

abbrev pub store_at : ℕ → ℕ → ℕ → Option PageId → List Move
store_at address width value None = []
store_at address width value (Some q) = Stores q (address % 4096) width value ∷ []

-- An atomic instruction of the word at an address, if this is cloaked. LR is a load. SC is a store if the context has
-- the word reserved. An operation is a load of the word that stood, and then stores what it makes of this word and its
-- operand.
abbrev pub atomic_at : Context → AtomicOp → ℕ → ℕ → Option PageId → List Move
atomic_at c op address operand None = []
atomic_at c Lr address operand (Some q) = Loads q address 4 ∷ []
atomic_at c Sc address operand (Some q) =
    if is_reserved (word_of_page q address) c.mark then Stores q (address % 4096) 4 operand ∷ [] else []
atomic_at c op address operand (Some q) = Loads q address 4 ∷ Combines q (address % 4096) op operand ∷ []

-- a resource that was made, if one was
abbrev pub made_moves : ℕ → Result ℕ MapFault → List Move
made_moves domain (Ok n) = Zeros domain n ∷ []
made_moves domain (Err fault) = []

-- FILE makes the resource of a file that is not there.
abbrev pub file_moves : Control → Context → Option ℕ → List Move
file_moves d c None =
    made_moves d.number (new_resource (File (register c.regs 10)) (register c.regs 11) d.resources).answer
file_moves d c (Some n) = []

-- NEW makes a resource. FORK copies each private resource of the caller's space, and EXIT of a space's last context
-- drops them.
unfoldable pub hypercall_moves : Hypercall → Control → Context → List Item → List Move
hypercall_moves New d c told =
    made_moves d.number (new_resource (Space c.space) (register c.regs 10) d.resources).answer
hypercall_moves hyper.File d c told = file_moves d c (position (holds_file (register c.regs 10)) d.resources.held)
hypercall_moves ForkSpace d c told =
    if both_granted told then map (λ (copy : ℕ × ℕ). Copies d.number copy.0 copy.1) (copies c.space d.resources) else []
hypercall_moves Exit d c told =
    if both_granted told then map (λ (n : ℕ). Drops d.number n) (private_numbers c.space d.resources) else []
hypercall_moves _ d c told = []

-- an instruction that is an ecall
unfoldable pub ecall_moves : Control → Context → Instr → List Item → List Move
ecall_moves d c Ecall told = hypercall_moves (hypercall_of c) d c told
ecall_moves d c _ told = []

-- what an instruction does
unfoldable pub effect_moves : Control → Context → Instr → Effect → List Item → List Move
effect_moves d c i (does.Load rd address width is_signed) told =
    if both_granted told then load_at address width (page_for d c address) else []
effect_moves d c i (does.Store address width value) told =
    if both_granted told then store_at address width value (page_for d c address) else []
effect_moves d c i does.System told = ecall_moves d c i told
effect_moves d c i _ told = []

-- what an atomic instruction does, at an address that is a multiple of 4
unfoldable pub atomic_moves : Control → Context → Option Atomic → List Item → List Move
atomic_moves d c None told = []
atomic_moves d c (Some a) told =
    let address = register c.regs a.rs1 in
    if address % 4 == 0 then
    (if both_granted told then atomic_at c a.op address (register c.regs a.rs2) (page_for d c address) else []) else []

-- a word, which may be an instruction
unfoldable pub word_moves : Control → Context → ℕ → Option Instr → List Item → List Move
word_moves d c word None told = atomic_moves d c (atomic_instruction word) told
word_moves d c word (Some i) told = effect_moves d c i (effect i c.regs c.pc) told

-- the word at the program counter
unfoldable pub fetched_moves : List Move → Control → Context → Option PageId → List Item → List Move
fetched_moves earlier d c None told = []
fetched_moves earlier d c (Some q) told =
    let word = latest_value earlier q (c.pc % 4096) 4 in word_moves d c word (instruction word) told

-- READ: the byte that was told is stored at an address of the buffer, if this was granted
abbrev pub byte_moves : ℕ → Option PageId → List Item → List Move
byte_moves address place (item.Word domain byte ∷ item.Ok domain' ∷ []) = store_at address 1 byte place
byte_moves address place _ = []

-- A step by the context's phase: an instruction, a byte that is copied to the kernel, or one that is copied from it.
unfoldable pub phase_moves : Phase → List Move → Control → Context → List Item → List Move
phase_moves Plain earlier d c told =
    if first_granted told then fetched_moves earlier d c (page_for d c c.pc) told else []
phase_moves (CopyIn done) earlier d c told =
    let address = byte_address (buffer c) done in
    if both_granted told then load_at address 1 (page_for d c address) else []
phase_moves Waiting earlier d c told = []
phase_moves (CopyOut done total) earlier d c told =
    let address = byte_address (buffer c) done in byte_moves address (page_for d c address) told

-- a step of the context of a slot
unfoldable pub context_moves : Option Context → List Move → Control → List Item → List Move
context_moves None earlier d told = []
context_moves (Some c) earlier d told = phase_moves c.phase earlier d c told

-- a step of a program
unfoldable pub program_moves : Option Domain → List Move → ℕ → List Item → List Move
program_moves None earlier slot told = []
program_moves (Some d) earlier slot told = context_moves (context_at d.control.contexts slot) earlier d.control told

-- A step of a hart that is inside this context, or in none, among these programs, which wrote these items: the kernel
-- does nothing to cloaked pages. A context that does not run on the hart is told nothing, and does nothing.
unfoldable pub step_moves : List Move → List Domain → Option ℕ → List Item → List Move
step_moves earlier domains None items = []
step_moves earlier domains (Some ctx) items =
    program_moves (slice_get domains (domain_of ctx)) earlier (slot_of ctx) (inward_half (domain_of ctx) items)

-- The end of a domain drops its pages, those of every number of a resource.
abbrev pub ending_moves : Item → List Move
ending_moves (item.Ended d) = map (λ (n : ℕ). Drops d n) (numbers_below 16)
ending_moves _ = []

-- the domains that end among these items
abbrev pub end_moves : List Item → List Move
end_moves items = flat_map ending_moves items
