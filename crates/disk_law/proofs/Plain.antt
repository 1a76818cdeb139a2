-- The plain step of a hart over a flat memory keeps the size of the disk.
use Rattle.std.proofs.Common.{◌≡◌, ◌∙◌, ◌<◌, ℕ, ◌+◌, ◌*◌, ◌/◌, ◌%◌, Bool, true, false, cond, ◌&&◌, nat_lt, nat_le, List, ◌++◌, length, take, drop, slice_index_or, [], Option, Some, None, Result, Ok, Err, refl, sym, ap, subst, arith, length-append, length-drop}
use Rattle.std.specs.Prelude.{◌==◌, not}
use Rattle.std.proofs.lemmas.Bool.{ltb-true, and_parts}
use Rattle.std.proofs.lemmas.List.{length-take}
use Rattle.cloak_base.specs.Constants.{ram_start, frame_of, is_in_frames}
use Rattle.cloak_base.specs.Registers.{register}
use Rattle.cloak_base.specs.declared.names.Kind.TheVariants.{Fetch, Load, Store}
use Rattle.cloak_base.specs.declared.names.Mode.{Mode}
use Rattle.cloak_base.specs.declared.names.Mode.TheVariants.{U, S}
use Rattle.rv_isa.specs.Table.{instruction}
use Rattle.rv_isa.specs.declared.instr.Instr.{Instr}
use Rattle.rv_atomic.specs.Table.{atomic_instruction}
use Rattle.rv_atomic.specs.declared.atomic.Atomic.{Atomic}
use Rattle.rv_atomic.specs.declared.atomic.AtomicOp.{AtomicOp}
use Rattle.rv_atomic.specs.declared.atomic.AtomicOp.TheVariants.{Lr, Sc}
use Rattle.cloak_model.specs.declared.access.Access.{Access}
use Rattle.cloak_model.specs.declared.outcome.Effect.{Effect}
use Rattle.cloak_model.specs.declared.outcome.Effect.TheVariants as does
use Rattle.cloak_model.specs.Ask.{ask_count, ask_frame, ask_in_ram, ask_led, ask_load, ask_store_at, ask_reserve, ask_store_conditional, ask_combine, ask_translate, ask_value, loaded_at}
use Rattle.cloak_model.specs.Asking.{Asking, Told, then_ask}
use Rattle.cloak_model.specs.Csr.{interrupt_due, satp_of}
use Rattle.cloak_model.specs.Effect.{effect, flag}
use Rattle.cloak_model.specs.Hart.{Hart}
use Rattle.cloak_model.specs.HartStep.{raised, stays, gone_on, with_word, system}
use Rattle.cloak_model.specs.HostCalls.{SteppedKernel, ecall, ecall_in, ends, host_call, is_transfer, read_block, read_call, with_block, write_block, write_call}
use Rattle.cloak_model.specs.KernelStep.{access, atomic_access, atomic_executed, carried_out, ends_reservation, executed, extended, instruction_step, is_ecall, kernel_step, misaligned, or_trap, released, ticked}
use Rattle.cloak_model.specs.Memory.{Seen}
use Rattle.cloak_model.specs.Walk.{Walk, walk}
use Rattle.cloak_model.specs.World.{World, Flat}
use Rattle.cloak_model.proofs.FlatWalk.{ask_walk-flat}
use Rattle.reservation_law.proofs.Keeping.{AreWhole}

-- A load changes nothing of a flat memory.

inside_flat : (a : Access) (found : Walk) (s : Seen) → (ask_in_ram a found (Flat s)).world ≡ Flat s
unfolding ask_in_ram
inside_flat a (Err cause) s = refl
inside_flat a (Ok walked) s = refl

translate_flat : (satp : ℕ) (a : Access) (s : Seen) → (ask_translate satp a (Flat s)).world ≡ Flat s
unfolding ask_translate
translate_flat satp a s =
    ap (λ (told : Told Walk). (ask_in_ram a told.answer told.world).world) (ask_walk-flat satp a s)
    ∙ inside_flat a (walk s.ram satp a) s

loaded_flat : (satp : ℕ) (a : Access) (width : ℕ) (found : Walk) (s : Seen) →
    (loaded_at satp a width found (Flat s)).world ≡ Flat s
unfolding loaded_at ask_value
loaded_flat satp a width (Err cause) s = refl
loaded_flat satp a width (Ok walked) s = refl

load_flat : (satp : ℕ) (a : Access) (width : ℕ) (s : Seen) → (ask_load satp a width (Flat s)).world ≡ Flat s
unfolding ask_load ask_led
load_flat satp a width s =
    let found : Walk = (ask_translate satp a (Flat s)).answer in
    ap (λ (w : World). (loaded_at satp a width found w).world) (translate_flat satp a s)
    ∙ loaded_flat satp a width found s

-- What was told has a disk of this size.

abbrev Keeps : ℕ → Told SteppedKernel → Type 0
Keeps n told = length told.answer.disk ≡ n

keeps_if : (n : ℕ) (b : Bool) (x y : Told SteppedKernel) → Keeps n x → Keeps n y → Keeps n (cond b x y)
keeps_if n true x y here there = here
keeps_if n false x y here there = there

keeps_known : (n : ℕ) (b : Bool) (x y : Told SteppedKernel) → (b ≡ true → Keeps n x) → Keeps n y → Keeps n (cond b x y)
keeps_known n true x y here there = here refl
keeps_known n false x y here there = there

keeps_asking : (n : ℕ) (b : Bool) (f g : Asking SteppedKernel) (w : World) → Keeps n (f w) → Keeps n (g w) →
    Keeps n (cond b f g w)
keeps_asking n true f g w here there = here
keeps_asking n false f g w here there = there

or_trap_keeps : {A : Type 0} (n : ℕ) (h : Hart) (disk : List ℕ) (va : ℕ) (found : Result A ℕ)
    (next : A → Asking SteppedKernel) (w : World) → length disk ≡ n → ((a : A) → Keeps n (next a w)) →
    Keeps n (or_trap h disk va found next w)
or_trap_keeps n h disk va (Err cause) next w long more = long
or_trap_keeps n h disk va (Ok a) next w long more = more a

-- Host calls.

with_block-length : (disk : List ℕ) (block : ℕ) (bytes : List ℕ) → block < length disk / 4096 →
    length bytes ≡ 4096 → length (with_block disk block bytes) ≡ length disk
with_block-length disk block bytes less long =
    let front = length-take (4096 * block) disk in
    let back = length-drop (4096 * block + 4096) disk in
    let one = length-append (take (4096 * block) disk) (bytes ++ drop (4096 * block + 4096) disk) in
    let two = length-append bytes (drop (4096 * block + 4096) disk) in
    omega (arith, front, back, one, two, less, long)

write_block_keeps : (h : Hart) (disk : List ℕ) (s : Seen) → AreWhole s.ram →
    Keeps (length disk) (write_block h disk (length s.ram) (Flat s))
unfolding write_block ask_frame
write_block_keeps h disk s whole =
    let block : ℕ = register h.regs 10 in
    let pa : ℕ = register h.regs 11 in
    let n : ℕ = length s.ram in
    keeps_known (length disk) (is_transfer n disk block pa) _ _ (λ is.
    let first = and_parts (nat_lt block (length disk / 4096)) ((pa % 4096 == 0) && is_in_frames n pa) is in
    let second = and_parts (pa % 4096 == 0) (is_in_frames n pa) first.1 in
    let third = and_parts (nat_le ram_start pa) (nat_lt (frame_of pa) n) second.1 in
    with_block-length disk block (slice_index_or s.ram (frame_of pa) []) (ltb-true block (length disk / 4096) first.0)
    (whole.long (frame_of pa) (ltb-true (frame_of pa) n third.1))) refl

write_call_keeps : (h : Hart) (disk : List ℕ) (s : Seen) → AreWhole s.ram →
    Keeps (length disk) (write_call h disk (Flat s))
unfolding write_call ask_count
write_call_keeps h disk s whole = write_block_keeps h disk s whole

read_block_keeps : (h : Hart) (disk : List ℕ) (frames : ℕ) (w : World) → Keeps (length disk) (read_block h disk frames w)
unfolding read_block
read_block_keeps h disk frames w =
    keeps_if (length disk) (is_transfer frames disk (register h.regs 10) (register h.regs 11)) _ _ refl refl

read_call_keeps : (h : Hart) (disk : List ℕ) (w : World) → Keeps (length disk) (read_call h disk w)
unfolding read_call
read_call_keeps h disk w = read_block_keeps h disk (ask_count w).answer (ask_count w).world

host_call_keeps : (h : Hart) (disk : List ℕ) (s : Seen) → AreWhole s.ram →
    Keeps (length disk) (host_call h disk (Flat s))
unfolding host_call
host_call_keeps h disk s whole =
    let n = length disk in
    keeps_if n (register h.regs 17 == 0) _ _ refl
    (keeps_if n (register h.regs 17 == 1) _ _ refl
    (keeps_if n (register h.regs 17 == 2) _ _ (read_call_keeps h disk (Flat s))
    (keeps_if n (register h.regs 17 == 3) _ _ (write_call_keeps h disk s whole)
    (keeps_if n (register h.regs 17 == 4) _ _ refl refl))))

ecall_in_keeps : (mode : Mode) (h : Hart) (disk : List ℕ) (s : Seen) → AreWhole s.ram →
    Keeps (length disk) (ecall_in mode h disk (Flat s))
unfolding ecall_in
ecall_in_keeps U h disk s whole = refl
ecall_in_keeps S h disk s whole = host_call_keeps h disk s whole

ecall_keeps : (h : Hart) (disk : List ℕ) (s : Seen) → AreWhole s.ram → Keeps (length disk) (ecall h disk (Flat s))
unfolding ecall
ecall_keeps h disk s whole =
    keeps_if (length disk) (register h.regs 17 == 0x4F560000) _ _ refl (ecall_in_keeps h.mode h disk s whole)

-- Instructions.

carried_out_keeps : (h : Hart) (disk : List ℕ) (word : ℕ) (i : Instr) (e : Effect) (s : Seen) → AreWhole s.ram →
    Keeps (length disk) (carried_out h disk word i e (Flat s))
unfolding carried_out
carried_out_keeps h disk word i (does.Load rd va width is_signed) s whole =
    let told = ask_load (satp_of h.csrs) (access h Load va) width (Flat s) in
    or_trap_keeps (length disk) h disk va told.answer
    (λ (value : ℕ). ends disk (stays (gone_on (with_word h rd (extended is_signed width value))))) told.world refl
    (λ value. refl)
carried_out_keeps h disk word i (does.Store va width value) s whole =
    let told = ask_store_at (satp_of h.csrs) (access h Store va) width value (Flat s) in
    or_trap_keeps (length disk) h disk va told.answer (λ (done : Unit {0}). ends disk (stays (gone_on h))) told.world refl
    (λ done. refl)
carried_out_keeps h disk word i does.System s whole =
    keeps_asking (length disk) (is_ecall i) (ecall h disk) (ends disk (system h word i)) (Flat s)
    (ecall_keeps h disk s whole) refl
carried_out_keeps h disk word i _ s whole = refl

combine_keeps : (h : Hart) (disk : List ℕ) (rd : ℕ) (op : AtomicOp) (va operand : ℕ) (w : World) →
    Keeps (length disk) (then_ask (ask_combine (satp_of h.csrs) (access h Store va) op operand)
    (λ (found : Result ℕ ℕ). or_trap h disk va found (λ (old : ℕ). ends disk (stays (gone_on (with_word h rd old))))) w)
combine_keeps h disk rd op va operand w =
    let told = ask_combine (satp_of h.csrs) (access h Store va) op operand w in
    or_trap_keeps (length disk) h disk va told.answer
    (λ (old : ℕ). ends disk (stays (gone_on (with_word h rd old)))) told.world refl (λ old. refl)

atomic_access_keeps : (h : Hart) (disk : List ℕ) (a : Atomic) (op : AtomicOp) (va operand : ℕ) (w : World) →
    Keeps (length disk) (atomic_access h disk a op va operand w)
unfolding atomic_access
atomic_access_keeps h disk a Lr va operand w =
    let told = ask_reserve (satp_of h.csrs) (access h Load va) h.id w in
    or_trap_keeps (length disk) h disk va told.answer
    (λ (value : ℕ). ends disk (stays (gone_on (with_word h a.rd value)))) told.world refl (λ value. refl)
atomic_access_keeps h disk a Sc va operand w =
    let told = ask_store_conditional (satp_of h.csrs) (access h Store va) h.id operand w in
    or_trap_keeps (length disk) h disk va told.answer
    (λ (is_stored : Bool). ends disk (stays (gone_on (with_word h a.rd (flag (not is_stored)))))) told.world refl
    (λ is_stored. refl)
atomic_access_keeps h disk a op va operand w = combine_keeps h disk a.rd op va operand w

atomic_keeps : (h : Hart) (disk : List ℕ) (word : ℕ) (o : Option Atomic) (w : World) →
    Keeps (length disk) (atomic_executed h disk word o w)
unfolding atomic_executed
atomic_keeps h disk word None w = refl
atomic_keeps h disk word (Some a) w =
    let va = register h.regs a.rs1 in
    keeps_asking (length disk) (va % 4 == 0) (atomic_access h disk a a.op va (register h.regs a.rs2))
    (ends disk (raised h (misaligned a.op) va)) w
    (atomic_access_keeps h disk a a.op va (register h.regs a.rs2) w) refl

executed_keeps : (h : Hart) (disk : List ℕ) (word : ℕ) (o : Option Instr) (s : Seen) → AreWhole s.ram →
    Keeps (length disk) (executed h disk word o (Flat s))
executed_keeps h disk word None s whole = atomic_keeps h disk word (atomic_instruction word) (Flat s)
executed_keeps h disk word (Some i) s whole = carried_out_keeps h disk word i (effect i h.regs h.pc) s whole

-- A step.

instruction_keeps : (h : Hart) (disk : List ℕ) (s : Seen) → AreWhole s.ram →
    Keeps (length disk) (instruction_step h disk (Flat s))
unfolding instruction_step
instruction_keeps h disk s whole =
    let told = ask_load (satp_of h.csrs) (access h Fetch h.pc) 4 (Flat s) in
    let next : ℕ → Asking SteppedKernel = λ word. executed h disk word (instruction word) in
    subst (λ (w : World). Keeps (length disk) (or_trap h disk h.pc told.answer next w))
    (sym (load_flat (satp_of h.csrs) (access h Fetch h.pc) 4 s))
    (or_trap_keeps (length disk) h disk h.pc told.answer next (Flat s) refl
    (λ word. executed_keeps h disk word (instruction word) s whole))

released_keeps : (n : ℕ) (made : SteppedKernel) (w : World) → length made.disk ≡ n → Keeps n (released made w)
unfolding released
released_keeps n made w long = keeps_if n (ends_reservation made.ending) _ _ long long

pub kernel_step_keeps : (h : Hart) (disk : List ℕ) (s : Seen) → AreWhole s.ram →
    length (kernel_step h disk (Flat s)).answer.disk ≡ length disk
unfolding kernel_step
kernel_step_keeps h disk s whole =
    let h' : Hart = ticked h in
    let made : Told SteppedKernel =
    cond (interrupt_due h'.mode h'.csrs) (ends disk (raised h' 0x80000005 0)) (instruction_step h' disk) (Flat s) in
    released_keeps (length disk) made.answer made.world
    (keeps_asking (length disk) (interrupt_due h'.mode h'.csrs) (ends disk (raised h' 0x80000005 0))
    (instruction_step h' disk) (Flat s) refl (instruction_keeps h' disk s whole))
