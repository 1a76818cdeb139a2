-- Where a hart is inside after a step outside: in the context that it resumes, or where it was.
use Rattle.std.proofs.Common.{◌≡◌, true, false, cond, ℕ, Bool, List, Option, Some, None, Result, Ok, Err, refl, subst, ◌^◌, ◌-◌, ◌%◌, sym}
use Rattle.std.specs.Prelude.{◌==◌, not}
use Rattle.cloak_base.specs.Registers.{register}
use Rattle.cloak_base.specs.declared.names.Mode.{Mode}
use Rattle.cloak_base.specs.declared.names.Mode.TheVariants.{U, S}
use Rattle.cloak_base.specs.declared.names.Kind.TheVariants.{Fetch, Load, Store}
use Rattle.rv_isa.specs.Table.{instruction}
use Rattle.rv_isa.specs.declared.instr.Instr.{Instr}
use Rattle.rv_isa.specs.declared.instr.Instr.TheVariants.{Csrrw, Csrrs, Csrrc, Csrrwi, Csrrsi, Csrrci, Ebreak, Sret, Wfi, SfenceVma}
use Rattle.cloak_model.specs.declared.outcome.Kernel.{Kernel}
use Rattle.cloak_model.specs.declared.outcome.Kernel.TheVariants.{Resume}
use Rattle.cloak_model.specs.declared.outcome.Effect.{Effect}
use Rattle.cloak_model.specs.declared.outcome.Effect.TheVariants as does
use Rattle.cloak_model.specs.Csr.{csr_read, satp_of, interrupt_due, with_pending}
use Rattle.cloak_base.specs.Constants.{frame_of}
use Rattle.cloak_model.specs.Effect.{effect, flag}
use Rattle.cloak_model.specs.Hart.{Hart}
use Rattle.cloak_model.specs.World.{World}
use Rattle.cloak_model.specs.Asking.{Asking, then_ask, Told}
use Rattle.cloak_model.specs.Ask.{ask_load, ask_store_at, ask_count, ask_fill, ask_frame, ask_reserve, ask_store_conditional, ask_combine}
use Rattle.cloak_model.specs.HartStep.{SteppedHart, with_word, gone_on, stays, raised, csr_written, csr_found, csr_step, returned, idle, system}
use Rattle.cloak_model.specs.HostCalls.{SteppedKernel, is_transfer, block_at, with_block, ends, host_answers, put_call, timer_call, halt_call, read_block, write_block, read_call, write_call, host_call, resumed, ecall_in, ecall}
use Rattle.cloak_model.specs.KernelStep.{access, extended, is_ecall, or_trap, carried_out, executed, instruction_step, ticked, kernel_step, atomic_access, atomic_executed, misaligned}
use Rattle.rv_atomic.specs.Table.{atomic_instruction}
use Rattle.rv_atomic.specs.declared.atomic.Atomic.{Atomic}
use Rattle.rv_atomic.specs.declared.atomic.AtomicOp.{AtomicOp}
use Rattle.rv_atomic.specs.declared.atomic.AtomicOp.TheVariants.{Lr, Sc, Swap, Add, Xor, And, Or, Min, Max, Minu, Maxu}
use Rattle.cloak_base.proofs.Choices.{either}
use Rattle.kernel_isolation.proofs.Resumes.{released_answer}

abbrev pub inside_after : Kernel → Option ℕ → Option ℕ
inside_after (Resume ctx answer) was = Some ctx
inside_after _ was = was

abbrev MadeSo : Option ℕ → SteppedHart → Type 0
MadeSo was m = m.hart.inside ≡ inside_after m.ending was

-- whatever the world is
abbrev StepsSo : Option ℕ → Asking SteppedKernel → Type 0
StepsSo was ask = (w : World) → (ask w).answer.hart.inside ≡ inside_after (ask w).answer.ending was

steps_either : (was : Option ℕ) (test : Bool) (x y : Asking SteppedKernel) → StepsSo was x → StepsSo was y → (w : World) →
    (cond test (x w) (y w)).answer.hart.inside ≡ inside_after (cond test (x w) (y w)).answer.ending was
steps_either was true x y first second w = first w
steps_either was false x y first second w = second w

raised_so : (h : Hart) (cause value : ℕ) → MadeSo h.inside (raised h cause value)
unfolding raised
raised_so h cause value = refl

or_trap_so : {A : Type 0} (was : Option ℕ) (h : Hart) (disk : List ℕ) (va : ℕ) (to : Result A ℕ)
    (next : A → Asking SteppedKernel) → h.inside ≡ was → ((found : A) → StepsSo was (next found)) →
    StepsSo was (or_trap h disk va to next)
or_trap_so was h disk va (Err cause) next is rest w =
    subst (λ (x : Option ℕ). MadeSo x (raised h cause va)) is (raised_so h cause va)
or_trap_so was h disk va (Ok found) next is rest w = rest found w

csr_written_so : (h : Hart) (rd n was : ℕ) (new : Option ℕ) → MadeSo h.inside (csr_written h rd n was new)
unfolding csr_written
csr_written_so h rd n was None = refl
csr_written_so h rd n was (Some new) = refl

csr_found_so : (h : Hart) (w rd n : ℕ) (new found : Option ℕ) → MadeSo h.inside (csr_found h w rd n new found)
unfolding csr_found
csr_found_so h w rd n new None = raised_so h 2 w
csr_found_so h w rd n new (Some was) = csr_written_so h rd n was new

csr_step_so : (m : Mode) (h : Hart) (w rd n : ℕ) (new : Option ℕ) → MadeSo h.inside (csr_step m h w rd n new)
unfolding csr_step
csr_step_so U h w rd n new = raised_so h 2 w
csr_step_so S h w rd n new = csr_found_so h w rd n new (csr_read h.csrs n)

returned_so : (m : Mode) (h : Hart) (w : ℕ) → MadeSo h.inside (returned m h w)
unfolding returned
returned_so U h w = raised_so h 2 w
returned_so S h w = refl

idle_so : (m : Mode) (h : Hart) (w : ℕ) → MadeSo h.inside (idle m h w)
unfolding idle
idle_so U h w = raised_so h 2 w
idle_so S h w = refl

system_so : (h : Hart) (w : ℕ) (i : Instr) → MadeSo h.inside (system h w i)
unfolding system
system_so h w (Csrrw rd rs1 n) = csr_step_so h.mode h w rd n _
system_so h w (Csrrs rd rs1 n) = csr_step_so h.mode h w rd n _
system_so h w (Csrrc rd rs1 n) = csr_step_so h.mode h w rd n _
system_so h w (Csrrwi rd uimm n) = csr_step_so h.mode h w rd n _
system_so h w (Csrrsi rd uimm n) = csr_step_so h.mode h w rd n _
system_so h w (Csrrci rd uimm n) = csr_step_so h.mode h w rd n _
system_so h w Ebreak = raised_so h 3 0
system_so h w Sret = returned_so h.mode h w
system_so h w Wfi = idle_so h.mode h w
system_so h w (SfenceVma rs1 rs2) = idle_so h.mode h w
system_so h w i = raised_so h 2 w

read_block_so : (h : Hart) (disk : List ℕ) (frames : ℕ) → StepsSo h.inside (read_block h disk frames)
unfolding read_block
read_block_so h disk frames w =
    steps_either h.inside (is_transfer frames disk (register h.regs 10) (register h.regs 11))
    (then_ask (ask_fill (frame_of (register h.regs 11)) (block_at disk (register h.regs 10)))
    (λ done. ends disk (host_answers h 0)))
    (ends disk (host_answers h 1)) (λ v. refl) (λ v. refl) w

write_block_so : (h : Hart) (disk : List ℕ) (frames : ℕ) → StepsSo h.inside (write_block h disk frames)
unfolding write_block
write_block_so h disk frames w =
    steps_either h.inside (is_transfer frames disk (register h.regs 10) (register h.regs 11))
    (then_ask (ask_frame (frame_of (register h.regs 11)))
    (λ bytes. ends (with_block disk (register h.regs 10) bytes) (host_answers h 0)))
    (ends disk (host_answers h 1)) (λ v. refl) (λ v. refl) w

read_so : (h : Hart) (disk : List ℕ) → StepsSo h.inside (read_call h disk)
unfolding read_call
read_so h disk w = read_block_so h disk (ask_count w).answer (ask_count w).world

write_so : (h : Hart) (disk : List ℕ) → StepsSo h.inside (write_call h disk)
unfolding write_call
write_so h disk w = write_block_so h disk (ask_count w).answer (ask_count w).world

host_call_so : (h : Hart) (disk : List ℕ) → StepsSo h.inside (host_call h disk)
unfolding host_call put_call timer_call halt_call
host_call_so h disk w =
    let n = register h.regs 17 in
    let any : Asking SteppedKernel = ends disk (host_answers h (2 ^ 32 - 1)) in
    let fourth : Asking SteppedKernel = λ v. cond (n == 4) (ends disk (halt_call h) v) (any v) in
    let third : Asking SteppedKernel = λ v. cond (n == 3) (write_call h disk v) (fourth v) in
    let second : Asking SteppedKernel = λ v. cond (n == 2) (read_call h disk v) (third v) in
    let first : Asking SteppedKernel = λ v. cond (n == 1) (ends disk (timer_call h) v) (second v) in
    steps_either h.inside (n == 0) (ends disk (put_call h)) first (λ v. refl)
    (steps_either h.inside (n == 1) (ends disk (timer_call h)) second (λ v. refl)
    (steps_either h.inside (n == 2) (read_call h disk) third (read_so h disk)
    (steps_either h.inside (n == 3) (write_call h disk) fourth (write_so h disk)
    (steps_either h.inside (n == 4) (ends disk (halt_call h)) any (λ v. refl) (λ v. refl))))) w

ecall_in_so : (m : Mode) (h : Hart) (disk : List ℕ) → StepsSo h.inside (ecall_in m h disk)
unfolding ecall_in
ecall_in_so U h disk w = raised_so h 8 0
ecall_in_so S h disk w = host_call_so h disk w

ecall_so : (h : Hart) (disk : List ℕ) → StepsSo h.inside (ecall h disk)
unfolding ecall resumed
ecall_so h disk w =
    steps_either h.inside (register h.regs 17 == 0x4F560000) (ends disk (resumed h)) (ecall_in h.mode h disk)
    (λ v. refl) (ecall_in_so h.mode h disk) w

carried_out_so : (h : Hart) (disk : List ℕ) (word : ℕ) (i : Instr) (e : Effect) →
    StepsSo h.inside (carried_out h disk word i e)
unfolding carried_out
carried_out_so h disk word i (does.Load rd va width is_signed) w =
    let found = ask_load (satp_of h.csrs) (access h Load va) width w in
    let next : ℕ → Asking SteppedKernel = λ value.
    ends disk (stays (gone_on (with_word h rd (extended is_signed width value)))) in
    or_trap_so h.inside h disk va found.answer next refl (λ value v. refl) found.world
carried_out_so h disk word i (does.Store va width value) w =
    let found = ask_store_at (satp_of h.csrs) (access h Store va) width value w in
    let next : Unit {0} → Asking SteppedKernel = λ done. ends disk (stays (gone_on h)) in
    or_trap_so h.inside h disk va found.answer next refl (λ done v. refl) found.world
carried_out_so h disk word i does.System w =
    either (λ (ask : Asking SteppedKernel). (ask w).answer.hart.inside ≡ inside_after (ask w).answer.ending h.inside)
    (is_ecall i) (ecall h disk) (ends disk (system h word i))
    (ecall_so h disk w) (system_so h word i)
carried_out_so h disk word i (does.Raise cause value) w = raised_so h cause value
carried_out_so h disk word i _ w = refl

operation_so : (h : Hart) (disk : List ℕ) (a : Atomic) (op : AtomicOp) (va operand : ℕ) → (w : World) →
    let found = ask_combine (satp_of h.csrs) (access h Store va) op operand w in
    let next : ℕ → Asking SteppedKernel = λ old. ends disk (stays (gone_on (with_word h a.rd old))) in
    let after = or_trap h disk va found.answer next found.world in
    after.answer.hart.inside ≡ inside_after after.answer.ending h.inside
operation_so h disk a op va operand w =
    let found = ask_combine (satp_of h.csrs) (access h Store va) op operand w in
    let next : ℕ → Asking SteppedKernel = λ old. ends disk (stays (gone_on (with_word h a.rd old))) in
    or_trap_so h.inside h disk va found.answer next refl (λ old v. refl) found.world

atomic_access_so : (h : Hart) (disk : List ℕ) (a : Atomic) (op : AtomicOp) (va operand : ℕ) →
    StepsSo h.inside (atomic_access h disk a op va operand)
unfolding atomic_access
atomic_access_so h disk a Lr va operand w =
    let found = ask_reserve (satp_of h.csrs) (access h Load va) h.id w in
    let next : ℕ → Asking SteppedKernel = λ value. ends disk (stays (gone_on (with_word h a.rd value))) in
    or_trap_so h.inside h disk va found.answer next refl (λ value v. refl) found.world
atomic_access_so h disk a Sc va operand w =
    let found = ask_store_conditional (satp_of h.csrs) (access h Store va) h.id operand w in
    let next : Bool → Asking SteppedKernel = λ is_stored.
    ends disk (stays (gone_on (with_word h a.rd (flag (not is_stored))))) in
    or_trap_so h.inside h disk va found.answer next refl (λ done v. refl) found.world
atomic_access_so h disk a Swap va operand w = operation_so h disk a Swap va operand w
atomic_access_so h disk a Add va operand w = operation_so h disk a Add va operand w
atomic_access_so h disk a Xor va operand w = operation_so h disk a Xor va operand w
atomic_access_so h disk a And va operand w = operation_so h disk a And va operand w
atomic_access_so h disk a Or va operand w = operation_so h disk a Or va operand w
atomic_access_so h disk a Min va operand w = operation_so h disk a Min va operand w
atomic_access_so h disk a Max va operand w = operation_so h disk a Max va operand w
atomic_access_so h disk a Minu va operand w = operation_so h disk a Minu va operand w
atomic_access_so h disk a Maxu va operand w = operation_so h disk a Maxu va operand w

atomic_so : (h : Hart) (disk : List ℕ) (word : ℕ) (a : Option Atomic) → StepsSo h.inside (atomic_executed h disk word a)
unfolding atomic_executed
atomic_so h disk word None w = raised_so h 2 word
atomic_so h disk word (Some a) w =
    let va = register h.regs a.rs1 in
    either (λ (ask : Asking SteppedKernel). (ask w).answer.hart.inside ≡ inside_after (ask w).answer.ending h.inside)
    (va % 4 == 0) (atomic_access h disk a a.op va (register h.regs a.rs2)) (ends disk (raised h (misaligned a.op) va))
    (atomic_access_so h disk a a.op va (register h.regs a.rs2) w) (raised_so h (misaligned a.op) va)

executed_so : (h : Hart) (disk : List ℕ) (word : ℕ) (o : Option Instr) → StepsSo h.inside (executed h disk word o)
executed_so h disk word None w = atomic_so h disk word (atomic_instruction word) w
executed_so h disk word (Some i) w = carried_out_so h disk word i (effect i h.regs h.pc) w

instruction_so : (h : Hart) (disk : List ℕ) → StepsSo h.inside (instruction_step h disk)
unfolding instruction_step
instruction_so h disk w =
    let found = ask_load (satp_of h.csrs) (access h Fetch h.pc) 4 w in
    let next : ℕ → Asking SteppedKernel = λ word. executed h disk word (instruction word) in
    or_trap_so h.inside h disk h.pc found.answer next refl (λ word. executed_so h disk word (instruction word))
    found.world

pub ticked_inside : (h : Hart) → (ticked h).inside ≡ h.inside
unfolding ticked
ticked_inside h =
    let falls : Hart = record h { timer = h.timer - 1 } in
    let due : Hart = record h { timer = 0; csrs = with_pending true h.csrs } in
    either (λ (x : Hart). x.inside ≡ h.inside) (h.timer == 0) h (cond (h.timer == 1) due falls) refl
    (either (λ (x : Hart). x.inside ≡ h.inside) (h.timer == 1) due falls refl refl)

pub kernel_step_inside : (h : Hart) (disk : List ℕ) (w : World) →
    let a = (kernel_step h disk w).answer in a.hart.inside ≡ inside_after a.ending h.inside
unfolding kernel_step
kernel_step_inside h disk w =
    let h' = ticked h in
    let due = interrupt_due h'.mode h'.csrs in
    let step : Told SteppedKernel = cond due (ends disk (raised h' 0x80000005 0)) (instruction_step h' disk) w in
    let made = step.answer in
    let so : made.hart.inside ≡ inside_after made.ending h'.inside =
    either (λ (ask : Asking SteppedKernel).
    (ask w).answer.hart.inside ≡ inside_after (ask w).answer.ending h'.inside) due
    (ends disk (raised h' 0x80000005 0)) (instruction_step h' disk) (raised_so h' 0x80000005 0)
    (instruction_so h' disk w) in
    subst (λ (s : SteppedKernel). s.hart.inside ≡ inside_after s.ending h.inside)
    (sym (released_answer made step.world))
    (subst (λ (was : Option ℕ). made.hart.inside ≡ inside_after made.ending was) (ticked_inside h) so)
