-- The registers of a context after a step that it makes. The step is told as in the law of the latest store: by the
-- contexts and the regions of the program, by what the program was answered in the step, and by the history before it. So
-- the instruction is the word that was stored last at the program counter, and does what `effect` says; and a completed
-- load puts the value that was stored last, extended as the instruction says, into its register. Register 0 stays 0.
use Rattle.std.specs.Prelude.{ℕ, ◌≡◌, ◌%◌, ◌==◌, nat_le, Bool, false, List, [], ◌∷◌, length, slice_get, Option, Some, None, option_map, unwrap_or, Result, Ok, Err, if◌then◌else◌}
use Rattle.cloak_base.specs.Registers.{register, with_register}
use Rattle.cloak_base.specs.declared.names.PageId.{PageId}
use Rattle.rv_isa.specs.Table.{instruction}
use Rattle.rv_isa.specs.declared.instr.Instr.{Instr}
use Rattle.rv_isa.specs.declared.instr.Instr.TheVariants as instr
use Rattle.rv_atomic.specs.Table.{atomic_instruction}
use Rattle.rv_atomic.specs.declared.atomic.Atomic.{Atomic}
use Rattle.rv_atomic.specs.declared.atomic.AtomicOp.{AtomicOp}
use Rattle.rv_atomic.specs.declared.atomic.AtomicOp.TheVariants.{Sc}
use Rattle.cloak_model.specs.declared.context.Phase.{Phase}
use Rattle.cloak_model.specs.declared.context.Phase.TheVariants.{Plain, CopyIn, Waiting, CopyOut}
use Rattle.cloak_model.specs.declared.image.Bundle.{Bundle}
use Rattle.cloak_model.specs.declared.inside.Begun.{Begun}
use Rattle.cloak_model.specs.declared.outcome.Effect.{Effect}
use Rattle.cloak_model.specs.declared.outcome.Effect.TheVariants as does
use Rattle.cloak_model.specs.declared.resource.MapFault.{MapFault}
use Rattle.cloak_model.specs.declared.resource.MapFault.TheVariants as fault
use Rattle.cloak_model.specs.declared.resource.Owner.TheVariants.{Space}
use Rattle.cloak_model.specs.Items.{Item}
use Rattle.cloak_model.specs.Items as item
use Rattle.cloak_model.specs.Beginning.{Beginning, IsBeginning}
use Rattle.cloak_model.specs.Bundle.{IsInGrammar}
use Rattle.cloak_model.specs.Calls.{buffer, area, call_length, byte_address, is_cloaked, begin_call}
use Rattle.cloak_model.specs.Contexts.{Context, context_number, domain_of, moved_on, word_of_page, is_reserved}
use Rattle.cloak_model.specs.DomainState.{Control}
use Rattle.cloak_model.specs.Effect.{effect}
use Rattle.cloak_model.specs.Files.{file_resource}
use Rattle.cloak_model.specs.Fork.{fork_fits}
use Rattle.cloak_model.specs.Halves.{inward_half}
use Rattle.cloak_model.specs.Hypercalls as hyper
use Rattle.cloak_model.specs.Hypercalls.{Hypercall, New, Map, Unmap, Thread, ForkSpace, Exit, Call, Unknown, hypercall_of, fault_word, number_word, bad_call}
use Rattle.cloak_model.specs.Joint.{Turn}
use Rattle.cloak_model.specs.KernelStep.{extended}
use Rattle.cloak_model.specs.Resources.{first_free, new_resource, map_region, unmap_region}
use Rattle.cloak_model.specs.Run.{Run, run_from}
use Rattle.kernel_isolation.specs.Isolation.{joint_until}
use Rattle.latest_store.specs.Moves.{Move, latest_value}
use Rattle.latest_store.specs.Deeds.{first_granted, both_granted, page_for}
use Rattle.latest_store.specs.LatestStore.{history_until}
use Rattle.cause_law.specs.Causes.{moment_at, context_running}
use Rattle.cause_law.specs.Presented.{StepsInside}

-- Loads.

-- the value that was told of an address that is not cloaked, after the fetch was granted
abbrev pub told_value : List Item → Option ℕ
told_value (item.Ok domain ∷ item.Word domain' value ∷ []) = Some value
told_value _ = None

-- with a word in a register, if there is one
abbrev pub with_some : List ℕ → ℕ → Option ℕ → List ℕ
with_some regs rd None = regs
with_some regs rd (Some value) = with_register regs rd value

-- A load by the page that lies at its address: if it is completed, the value that was stored last; of an address that is
-- not cloaked, the value that was told.
unfoldable pub loaded_registers : List Move → Context → ℕ → ℕ → ℕ → Bool → Option PageId → List Item → List ℕ
loaded_registers earlier c rd va width is_signed None told =
    with_some c.regs rd (option_map (extended is_signed width) (told_value told))
loaded_registers earlier c rd va width is_signed (Some q) told =
    if both_granted told
    then with_register c.regs rd (extended is_signed width (latest_value earlier q (va % 4096) width)) else c.regs

-- Atomic instructions: LR and the operations take the word that was stored last; SC takes 0 if its word is reserved, and
-- 1 if not.

abbrev pub atomic_value : List Move → Context → AtomicOp → PageId → ℕ → ℕ
atomic_value earlier c Sc q va = if is_reserved (word_of_page q va) c.mark then 0 else 1
atomic_value earlier c op q va = latest_value earlier q (va % 4096) 4

abbrev pub placed_registers : List Move → Context → ℕ → AtomicOp → ℕ → Option PageId → List ℕ
placed_registers earlier c rd op va None = c.regs
placed_registers earlier c rd op va (Some q) = with_register c.regs rd (atomic_value earlier c op q va)

-- at an address that is a multiple of 4, if both questions were granted
unfoldable pub atomic_registers : List Move → Control → Context → Option Atomic → List Item → List ℕ
atomic_registers earlier d c None told = c.regs
atomic_registers earlier d c (Some a) told =
    let va = register c.regs a.rs1 in
    if va % 4 == 0 then
    (if both_granted told then placed_registers earlier c a.rd a.op va (page_for d c va) else c.regs) else c.regs

-- Hypercalls answer in x10.

-- 0, or a fault
abbrev pub done_word : Result (Unit {0}) MapFault → ℕ
done_word (Ok done) = 0
done_word (Err f) = fault_word f

-- THREAD: the number of the new context, if a slot is free
abbrev pub thread_word : ℕ → Option ℕ → ℕ
thread_word domain None = fault_word fault.Full
thread_word domain (Some free) = context_number domain free

-- FORK: the number of the new context, if there is room and the frames were settled
abbrev pub fork_word : Control → Result (Unit {0}) MapFault → List Item → Option ℕ
fork_word d (Err f) told = Some (fault_word f)
fork_word d (Ok fits) told =
    if both_granted told then Some (context_number d.number (unwrap_or (first_free d.contexts) 0)) else None

-- CALL: a fault, or nothing yet
abbrev pub call_word : Result Begun MapFault → Option ℕ
call_word (Ok begun) = None
call_word (Err f) = Some (fault_word f)

-- after EXIT there is no context
unfoldable pub hypercall_word : Hypercall → Control → Context → List Item → Option ℕ
hypercall_word New d c told =
    Some (number_word (new_resource (Space c.space) (register c.regs 10) d.resources).answer)
hypercall_word Map d c told =
    Some (done_word (map_region c.space
    (record {
      start = register c.regs 11;
      pages = register c.regs 13;
      resource = register c.regs 10;
      first = register c.regs 12;
    }) d.resources).answer)
hypercall_word Unmap d c told = Some (done_word (unmap_region c.space (register c.regs 10) d.resources).answer)
hypercall_word hyper.File d c told =
    Some (number_word (file_resource (register c.regs 10) (register c.regs 11) d.resources).answer)
hypercall_word Thread d c told =
    if register c.regs 10 % 4 == 0 then Some (thread_word d.number (first_free d.contexts)) else
    Some (fault_word fault.BadArg)
hypercall_word ForkSpace d c told = fork_word d (fork_fits c.space d.resources d.contexts) told
hypercall_word Exit d c told = None
hypercall_word Call d c told = call_word (begin_call d.resources (moved_on c)).answer
hypercall_word Unknown d c told = Some bad_call

-- Every word.

unfoldable pub system_registers : Control → Context → Instr → List Item → List ℕ
system_registers d c instr.Ecall told = with_some c.regs 10 (hypercall_word (hypercall_of c) d c told)
system_registers d c _ told = c.regs

-- what an instruction does
unfoldable pub effect_registers : List Move → Control → Context → Instr → Effect → List Item → List ℕ
effect_registers earlier d c i (does.Write rd value) told = with_register c.regs rd value
effect_registers earlier d c i (does.Jump rd link target) told = with_register c.regs rd link
effect_registers earlier d c i (does.Load rd va width is_signed) told =
    loaded_registers earlier c rd va width is_signed (page_for d c va) told
effect_registers earlier d c i does.System told = system_registers d c i told
effect_registers earlier d c i _ told = c.regs

unfoldable pub word_registers : List Move → Control → Context → ℕ → Option Instr → List Item → List ℕ
word_registers earlier d c word None told = atomic_registers earlier d c (atomic_instruction word) told
word_registers earlier d c word (Some i) told = effect_registers earlier d c i (effect i c.regs c.pc) told

-- the word at the program counter, if it was fetched
unfoldable pub fetched_registers : List Move → Control → Context → Option PageId → List Item → List ℕ
fetched_registers earlier d c None told = c.regs
fetched_registers earlier d c (Some q) told =
    let word = latest_value earlier q (c.pc % 4096) 4 in word_registers earlier d c word (instruction word) told

-- A byte of a call changes no register. If the space's regions do not fit the call any more, it is over with a fault.

abbrev pub apart_registers : Context → Option PageId → Bool → List ℕ
apart_registers c (Some q) false = c.regs
apart_registers c _ _ = with_register c.regs 10 (fault_word fault.BadArg)

-- the next byte goes from one address to the other, if it is not the last: which of them is in the buffer
unfoldable pub copied_registers : Control → Context → ℕ → ℕ → List ℕ
copied_registers d c done total =
    let inner = byte_address (buffer c) done in
    let outer = byte_address (area c) done in
    if nat_le total done then c.regs else
    apart_registers c (page_for d c inner) (is_cloaked d.resources c outer)

-- a step by the context's phase
unfoldable pub registers_after : Phase → List Move → Control → Context → List Item → List ℕ
registers_after Plain earlier d c told =
    if first_granted told then fetched_registers earlier d c (page_for d c c.pc) told else c.regs
registers_after (CopyIn done) earlier d c told = copied_registers d c done (call_length c)
registers_after Waiting earlier d c told = c.regs
registers_after (CopyOut done total) earlier d c told = copied_registers d c done total

-- What a run does: after a step of it that a context made, and after which the context is still there, its registers are
-- these, and register 0 is 0.

pub record HasRegisters (b : Bundle) (from : Beginning) (r : Run) (n : ℕ) (t : Turn) (s : StepsInside (moment_at b r n))
    (after : Context) : Type 0 where
  pub registers : after.regs
      ≡ registers_after s.context.phase (history_until b from n r) s.domain.control s.context
      (inward_half (domain_of s.ctx) t.items)
  pub long : length after.regs ≡ 32
  pub zero : register after.regs 0 ≡ 0

abbrev pub StepsHaveRegisters : Bundle → Beginning → Run → Type 0
StepsHaveRegisters b from r =
    (n : ℕ) (t : Turn) → slice_get r.turns n ≡ Some t → (s : StepsInside (moment_at b r n)) (after : Context) →
    context_running t.joint s.ctx ≡ Some after → HasRegisters b from r n t s after

-- Any other step, of the kernel or of another context, leaves a context that is there before and after it its registers.
-- But if it waits for the answer of a call, it may be resumed with one, which goes into x10.
pub data RegistersStay (was after : Context) : Type 0 where
  Same : after.regs ≡ was.regs → RegistersStay was after
  Answered : was.phase ≡ Waiting → (answer : ℕ) → after.regs ≡ with_register was.regs 10 answer →
      RegistersStay was after

abbrev pub OthersKeepRegisters : Bundle → Run → Type 0
OthersKeepRegisters b r =
    (n : ℕ) (t : Turn) → slice_get r.turns n ≡ Some t → (ctx : ℕ) →
    ((s : StepsInside (moment_at b r n)) → s.ctx ≡ ctx → ⊥) → (was after : Context) →
    context_running (joint_until n r) ctx ≡ Some was → context_running t.joint ctx ≡ Some after →
    RegistersStay was after

-- The laws: every run of an image in the grammar does, from whatever beginning.
abbrev pub RunsHaveRegisters : Type 0
RunsHaveRegisters =
    (b : Bundle) (from : Beginning) (budget : ℕ) (r : Run) → IsInGrammar b → IsBeginning b from →
    run_from b from budget ≡ Ok r → StepsHaveRegisters b from r

abbrev pub RunsKeepRegisters : Type 0
RunsKeepRegisters =
    (b : Bundle) (from : Beginning) (budget : ℕ) (r : Run) → run_from b from budget ≡ Ok r → OthersKeepRegisters b r
