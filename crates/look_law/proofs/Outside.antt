-- A step of a hart outside asks at most twice where an access leads.
use Rattle.std.proofs.Common.{ℕ, ◌%◌, Bool, true, false, cond, List, Option, Some, None, Result, Ok, Err}
use Rattle.std.specs.Prelude.{◌==◌, not}
use Rattle.cloak_base.specs.Registers.{register}
use Rattle.cloak_base.specs.declared.names.Kind.TheVariants.{Fetch, Load, Store}
use Rattle.cloak_base.specs.declared.names.Mode.{Mode}
use Rattle.cloak_base.specs.declared.names.Mode.TheVariants.{U, S}
use Rattle.rv_isa.specs.declared.instr.Instr.{Instr}
use Rattle.rv_isa.specs.Table.{instruction}
use Rattle.rv_atomic.specs.Table.{atomic_instruction}
use Rattle.rv_atomic.specs.declared.atomic.Atomic.{Atomic}
use Rattle.rv_atomic.specs.declared.atomic.AtomicOp.{AtomicOp}
use Rattle.rv_atomic.specs.declared.atomic.AtomicOp.TheVariants.{Lr, Sc, Swap, Add, Xor, And, Or, Min, Max, Minu, Maxu}
use Rattle.cloak_model.specs.declared.outcome.Effect.{Effect}
use Rattle.cloak_model.specs.declared.outcome.Effect.TheVariants as does
use Rattle.cloak_model.specs.Ask.{ask_count, ask_load, ask_store_at, ask_reserve, ask_store_conditional, ask_combine}
use Rattle.cloak_model.specs.Asking.{Asking, then_ask}
use Rattle.cloak_model.specs.Csr.{satp_of, interrupt_due}
use Rattle.cloak_model.specs.Effect.{effect, flag}
use Rattle.cloak_model.specs.Hart.{Hart}
use Rattle.cloak_model.specs.HartStep.{with_word, gone_on, stays, raised, system}
use Rattle.cloak_model.specs.HostCalls.{SteppedKernel, ends, read_block, write_block, read_call, write_call, host_call, ecall_in, ecall}
use Rattle.cloak_model.specs.KernelStep.{access, extended, is_ecall, or_trap, carried_out, misaligned, atomic_access, atomic_executed, executed, instruction_step, ends_reservation, released, ticked, kernel_step}
use Rattle.cloak_model.specs.World.{World}
use Rattle.look_law.proofs.Questions.{Looks, still, none, at_most_one, then_one, then_still, either, asks_load, asks_store, asks_frame, asks_fill, asks_unmark, asks_reserve, asks_store_conditional, asks_combine}

-- one of two steps
pub one_of : {A : Type 0} {n : ℕ} (b : Bool) (m o : Asking A) (w : World) → Looks n w (m w).world →
    Looks n w (o w).world → Looks n w (cond b m o w).world
one_of true m o w p q = p
one_of false m o w p q = q

-- Host calls.

pub looks_read_block : (h : Hart) (disk : List ℕ) (frames : ℕ) (w : World) →
    Looks 0 w (read_block h disk frames w).world
unfolding read_block
looks_read_block h disk frames w = either _ _ _ w (asks_fill _ _ w) (still w)

pub looks_write_block : (h : Hart) (disk : List ℕ) (frames : ℕ) (w : World) →
    Looks 0 w (write_block h disk frames w).world
unfolding write_block
looks_write_block h disk frames w = either _ _ _ w (asks_frame _ w) (still w)

pub looks_read_call : (h : Hart) (disk : List ℕ) (w : World) → Looks 0 w (read_call h disk w).world
unfolding read_call ask_count
looks_read_call h disk w = looks_read_block h disk _ w

pub looks_write_call : (h : Hart) (disk : List ℕ) (w : World) → Looks 0 w (write_call h disk w).world
unfolding write_call ask_count
looks_write_call h disk w = looks_write_block h disk _ w

pub looks_host_call : (h : Hart) (disk : List ℕ) (w : World) → Looks 0 w (host_call h disk w).world
unfolding host_call
looks_host_call h disk w = search (either, still, looks_read_call, looks_write_call) depth 9

pub looks_ecall_in : (mode : Mode) (h : Hart) (disk : List ℕ) (w : World) → Looks 0 w (ecall_in mode h disk w).world
unfolding ecall_in
looks_ecall_in U h disk w = still w
looks_ecall_in S h disk w = looks_host_call h disk w

pub looks_ecall : (h : Hart) (disk : List ℕ) (w : World) → Looks 0 w (ecall h disk w).world
unfolding ecall
looks_ecall h disk w = either _ _ _ w (still w) (looks_ecall_in h.mode h disk w)

-- Instructions.

pub looks_or_trap : {A : Type 0} {n : ℕ} (h : Hart) (disk : List ℕ) (va : ℕ) (found : Result A ℕ)
    (next : A → Asking SteppedKernel) (w : World) → ((x : A) → Looks n w (next x w).world) →
    Looks n w (or_trap h disk va found next w).world
looks_or_trap h disk va (Err cause) next w on = none w
looks_or_trap h disk va (Ok x) next w on = on x

pub looks_carried : (h : Hart) (disk : List ℕ) (word : ℕ) (i : Instr) (e : Effect) (w : World) →
    Looks 1 w (carried_out h disk word i e w).world
unfolding carried_out
looks_carried h disk word i (does.Load rd va width signed) w =
    let told = ask_load (satp_of h.csrs) (access h Load va) width w in
    then_still w told.world _ (asks_load (satp_of h.csrs) (access h Load va) width w)
    (looks_or_trap h disk va told.answer
    (λ value. ends disk (stays (gone_on (with_word h rd (extended signed width value))))) told.world
    (λ value. none told.world))
looks_carried h disk word i (does.Store va width value) w =
    let told = ask_store_at (satp_of h.csrs) (access h Store va) width value w in
    then_still w told.world _ (asks_store (satp_of h.csrs) (access h Store va) width value w)
    (looks_or_trap h disk va told.answer (λ done. ends disk (stays (gone_on h))) told.world
    (λ done. none told.world))
looks_carried h disk word i does.System w =
    one_of (is_ecall i) (ecall h disk) (ends disk (system h word i)) w (at_most_one _ _ (looks_ecall h disk w)) (none w)
looks_carried h disk word i _ w = none w

-- an operation
pub looks_operation : (h : Hart) (disk : List ℕ) (a : Atomic) (op : AtomicOp) (va operand : ℕ) (w : World) →
    Looks 1 w
    (then_ask (ask_combine (satp_of h.csrs) (access h Store va) op operand)
    (λ found. or_trap h disk va found (λ old. ends disk (stays (gone_on (with_word h a.rd old))))) w).world
looks_operation h disk a op va operand w =
    let told = ask_combine (satp_of h.csrs) (access h Store va) op operand w in
    then_still w told.world _ (asks_combine (satp_of h.csrs) (access h Store va) op operand w)
    (looks_or_trap h disk va told.answer (λ old. ends disk (stays (gone_on (with_word h a.rd old)))) told.world
    (λ old. none told.world))

pub looks_atomic_access : (h : Hart) (disk : List ℕ) (a : Atomic) (op : AtomicOp) (va operand : ℕ) (w : World) →
    Looks 1 w (atomic_access h disk a op va operand w).world
unfolding atomic_access
looks_atomic_access h disk a Lr va operand w =
    let told = ask_reserve (satp_of h.csrs) (access h Load va) h.id w in
    then_still w told.world _ (asks_reserve (satp_of h.csrs) (access h Load va) h.id w)
    (looks_or_trap h disk va told.answer (λ value. ends disk (stays (gone_on (with_word h a.rd value)))) told.world
    (λ value. none told.world))
looks_atomic_access h disk a Sc va operand w =
    let told = ask_store_conditional (satp_of h.csrs) (access h Store va) h.id operand w in
    then_still w told.world _
    (asks_store_conditional (satp_of h.csrs) (access h Store va) h.id operand w)
    (looks_or_trap h disk va told.answer
    (λ is_stored. ends disk (stays (gone_on (with_word h a.rd (flag (not is_stored)))))) told.world
    (λ is_stored. none told.world))
looks_atomic_access h disk a Swap va operand w = looks_operation h disk a Swap va operand w
looks_atomic_access h disk a Add va operand w = looks_operation h disk a Add va operand w
looks_atomic_access h disk a Xor va operand w = looks_operation h disk a Xor va operand w
looks_atomic_access h disk a And va operand w = looks_operation h disk a And va operand w
looks_atomic_access h disk a Or va operand w = looks_operation h disk a Or va operand w
looks_atomic_access h disk a Min va operand w = looks_operation h disk a Min va operand w
looks_atomic_access h disk a Max va operand w = looks_operation h disk a Max va operand w
looks_atomic_access h disk a Minu va operand w = looks_operation h disk a Minu va operand w
looks_atomic_access h disk a Maxu va operand w = looks_operation h disk a Maxu va operand w

pub looks_atomic : (h : Hart) (disk : List ℕ) (word : ℕ) (a : Option Atomic) (w : World) →
    Looks 1 w (atomic_executed h disk word a w).world
unfolding atomic_executed
looks_atomic h disk word None w = none w
looks_atomic h disk word (Some a) w =
    let va = register h.regs a.rs1 in
    let operand = register h.regs a.rs2 in
    one_of (va % 4 == 0) (atomic_access h disk a a.op va operand) (ends disk (raised h (misaligned a.op) va)) w
    (looks_atomic_access h disk a a.op va operand w) (none w)

pub looks_executed : (h : Hart) (disk : List ℕ) (word : ℕ) (i : Option Instr) (w : World) →
    Looks 1 w (executed h disk word i w).world
looks_executed h disk word None w = looks_atomic h disk word (atomic_instruction word) w
looks_executed h disk word (Some i) w = looks_carried h disk word i (effect i h.regs h.pc) w

pub looks_instruction : (h : Hart) (disk : List ℕ) (w : World) → Looks 2 w (instruction_step h disk w).world
unfolding instruction_step
looks_instruction h disk w =
    let told = ask_load (satp_of h.csrs) (access h Fetch h.pc) 4 w in
    then_one w told.world _ (asks_load (satp_of h.csrs) (access h Fetch h.pc) 4 w)
    (looks_or_trap h disk h.pc told.answer (λ word. executed h disk word (instruction word)) told.world
    (λ word. looks_executed h disk word (instruction word) told.world))

pub looks_released : (made : SteppedKernel) (w : World) → Looks 0 w (released made w).world
unfolding released
looks_released made w =
    either (ends_reservation made.ending) _ _ w (asks_unmark made.hart.id w)
    (still w)

pub looks_step : (h : Hart) (disk : List ℕ) (w : World) → Looks 2 w (kernel_step h disk w).world
unfolding kernel_step
looks_step h disk w =
    let h' = ticked h in
    let due = interrupt_due h'.mode h'.csrs in
    let told = cond due (ends disk (raised h' 0x80000005 0)) (instruction_step h' disk) w in
    then_still w told.world _
    (one_of due (ends disk (raised h' 0x80000005 0)) (instruction_step h' disk) w (none w)
    (looks_instruction h' disk w)) (looks_released told.answer told.world)
