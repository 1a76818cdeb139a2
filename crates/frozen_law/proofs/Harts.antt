-- A plain step of a hart, whatever is answered to its questions: the hart stays in range.
use Rattle.std.proofs.Common.{◌≡◌, ℕ, ◌+◌, ◌-◌, ◌%◌, ◌^◌, Bool, true, false, ℤ, cond, List, [], ◌∷◌, length, Option, Some, None, Result, Ok, Err, refl}
use Rattle.std.specs.Prelude.{◌==◌, not}
use Rattle.std.proofs.lemmas.Bool.{eqb-true}
use Rattle.cloak_base.specs.Registers.{register, with_register, zero_registers}
use Rattle.cloak_base.specs.declared.causes.Shown.{Shown}
use Rattle.cloak_base.specs.declared.names.Kind.TheVariants.{Fetch, Load, Store}
use Rattle.cloak_base.specs.declared.names.Mode.{Mode}
use Rattle.cloak_base.specs.declared.names.Mode.TheVariants.{U, S}
use Rattle.rv_isa.specs.Table.{instruction}
use Rattle.rv_isa.specs.declared.instr.Instr.{Instr}
use Rattle.rv_isa.specs.declared.instr.Instr.TheVariants as instr
use Rattle.rv_atomic.specs.Table.{atomic_instruction}
use Rattle.rv_atomic.specs.declared.atomic.Atomic.{Atomic}
use Rattle.rv_atomic.specs.declared.atomic.AtomicOp.{AtomicOp}
use Rattle.rv_atomic.specs.declared.atomic.AtomicOp.TheVariants.{Lr, Sc}
use Rattle.cloak_model.specs.declared.outcome.Effect.{Effect}
use Rattle.cloak_model.specs.declared.outcome.Effect.TheVariants as does
use Rattle.cloak_model.specs.Ask.{ask_load, ask_store_at, ask_reserve, ask_store_conditional, ask_combine}
use Rattle.cloak_model.specs.Asking.{Told, Asking, then_ask}
use Rattle.cloak_model.specs.Csr.{with_pending, satp_of, interrupt_due, csr_read, csr_write, trap_return}
use Rattle.cloak_model.specs.Effect.{flag, jump, go, branch, load_effect, store_effect, effect}
use Rattle.cloak_model.specs.Hart.{Hart, started}
use Rattle.cloak_model.specs.HartStep.{SteppedHart, with_word, gone_on, stays, raised, csr_written, csr_found, csr_step, returned, idle, system}
use Rattle.cloak_model.specs.HostCalls.{SteppedKernel, ends, is_transfer, put_call, timer_call, halt_call, read_block, write_block, read_call, write_call, host_call, resumed, ecall_in, ecall}
use Rattle.cloak_model.specs.KernelStep.{access, extended, misaligned, is_ecall, or_trap, carried_out, atomic_access, atomic_executed, executed, instruction_step, ticked, ends_reservation, released, kernel_step}
use Rattle.cloak_model.specs.Leaving.{with_registers, shown_registers, leave}
use Rattle.cloak_model.specs.World.{World}
use Rattle.limit_law.proofs.Contexts.{with_register_length, with_register_zero, next_word}
use Rattle.frozen_law.proofs.Csrs.{HasCsrs, zero_has, write_has, pending_has, entry_has, return_has, vector_aligned, return_aligned}

-- Registers.

pub record HasRegisters (regs : List ℕ) : Type 0 where
  pub count : length regs ≡ 32
  pub none : register regs 0 ≡ 0

pub zeros_have : HasRegisters zero_registers
unfolding zero_registers
zeros_have = record { count = refl; none = refl }

pub written_have : (regs : List ℕ) (i v : ℕ) → HasRegisters regs → HasRegisters (with_register regs i v)
written_have regs i v here = record {
  count = with_register_length regs i v here.count;
  none = with_register_zero regs i v here.none;
}

all_have : (regs : List ℕ) (i : ℕ) (words : List ℕ) → HasRegisters regs → HasRegisters (with_registers regs i words)
all_have regs i [] here = here
all_have regs i (w ∷ words) here =
    all_have (with_register regs i w) (i + 1) words (written_have regs i w here)

-- Harts.

pub record Fits (h : Hart) : Type 0 where
  pub regs : HasRegisters h.regs
  pub pc : h.pc % 4 ≡ 0
  pub csrs : HasCsrs h.csrs

pub started_fits : (entry h : ℕ) → entry % 4 ≡ 0 → Fits (started entry h)
unfolding started
started_fits entry h aligned =
    record { regs = written_have zero_registers 10 h zeros_have; pc = aligned; csrs = zero_has }

word_fits : (h : Hart) (rd value : ℕ) → Fits h → Fits (with_word h rd value)
word_fits h rd value here =
    record { regs = written_have h.regs rd value here.regs; pc = here.pc; csrs = here.csrs }

on_fits : (h : Hart) → Fits h → Fits (gone_on h)
on_fits h here = record { regs = here.regs; pc = next_word h.pc here.pc; csrs = here.csrs }

at_fits : (h : Hart) (pc : ℕ) → pc % 4 ≡ 0 → Fits h → Fits (record h { pc = pc })
at_fits h pc aligned here = record { regs = here.regs; pc = aligned; csrs = here.csrs }

either_fits : (b : Bool) (x y : Hart) → Fits x → Fits y → Fits (cond b x y)
either_fits true x y here there = here
either_fits false x y here there = there

pub ticked_fits : (h : Hart) → Fits h → Fits (ticked h)
unfolding ticked
ticked_fits h here =
    either_fits (h.timer == 0) _ _ here
    (either_fits (h.timer == 1) _ _
    (record { regs = here.regs; pc = here.pc; csrs = pending_has true h.csrs here.csrs })
    (record { regs = here.regs; pc = here.pc; csrs = here.csrs }))

pub leave_fits : (h : Hart) (s : Shown) → Fits h → Fits (leave h s)
unfolding leave shown_registers
leave_fits h s here = record {
  regs = written_have _ 17 s.number (all_have _ 10 s.args (written_have zero_registers 5 s.ctx zeros_have));
  pc = vector_aligned h.csrs here.csrs;
  csrs = entry_has U s.cause s.stval 0x00001000 h.csrs here.csrs;
}

-- A step that reaches no memory.

abbrev MadeFits : SteppedHart → Type 0
MadeFits m = Fits m.hart

raised_fits : (h : Hart) (cause value : ℕ) → Fits h → MadeFits (raised h cause value)
unfolding raised
raised_fits h cause value here = record {
  regs = here.regs;
  pc = vector_aligned h.csrs here.csrs;
  csrs = entry_has h.mode cause value h.pc h.csrs here.csrs;
}

written_fits : (h : Hart) (rd n was : ℕ) (new : Option ℕ) → Fits h → MadeFits (csr_written h rd n was new)
unfolding csr_written
written_fits h rd n was None here = on_fits _ (word_fits h rd was here)
written_fits h rd n was (Some w) here =
    on_fits _ (word_fits (record h { csrs = csr_write h.csrs n w }) rd was
    (record { regs = here.regs; pc = here.pc; csrs = write_has h.csrs n w here.csrs }))

found_fits : (h : Hart) (w rd n : ℕ) (new found : Option ℕ) → Fits h → MadeFits (csr_found h w rd n new found)
unfolding csr_found
found_fits h w rd n new None here = raised_fits h 2 w here
found_fits h w rd n new (Some was) here = written_fits h rd n was new here

csr_fits : (mode : Mode) (h : Hart) (w rd n : ℕ) (new : Option ℕ) → Fits h → MadeFits (csr_step mode h w rd n new)
unfolding csr_step
csr_fits U h w rd n new here = raised_fits h 2 w here
csr_fits S h w rd n new here = found_fits h w rd n new (csr_read h.csrs n) here

returned_fits : (mode : Mode) (h : Hart) (w : ℕ) → Fits h → MadeFits (returned mode h w)
unfolding returned trap_return
returned_fits U h w here = raised_fits h 2 w here
returned_fits S h w here =
    record { regs = here.regs; pc = return_aligned h.csrs here.csrs; csrs = return_has h.csrs here.csrs }

idle_fits : (mode : Mode) (h : Hart) (w : ℕ) → Fits h → MadeFits (idle mode h w)
unfolding idle
idle_fits U h w here = raised_fits h 2 w here
idle_fits S h w here = on_fits h here

system_fits : (h : Hart) (w : ℕ) (i : Instr) → Fits h → MadeFits (system h w i)
unfolding system
system_fits h w (instr.Csrrw rd rs1 n) here = csr_fits h.mode h w rd n _ here
system_fits h w (instr.Csrrs rd rs1 n) here = csr_fits h.mode h w rd n _ here
system_fits h w (instr.Csrrc rd rs1 n) here = csr_fits h.mode h w rd n _ here
system_fits h w (instr.Csrrwi rd uimm n) here = csr_fits h.mode h w rd n _ here
system_fits h w (instr.Csrrsi rd uimm n) here = csr_fits h.mode h w rd n _ here
system_fits h w (instr.Csrrci rd uimm n) here = csr_fits h.mode h w rd n _ here
system_fits h w instr.Ebreak here = raised_fits h 3 0 here
system_fits h w instr.Sret here = returned_fits h.mode h w here
system_fits h w instr.Wfi here = idle_fits h.mode h w here
system_fits h w (instr.SfenceVma rs1 rs2) here = idle_fits h.mode h w here
system_fits h w _ here = raised_fits h 2 w here

-- A step that asks.

abbrev ToldFits : Told SteppedKernel → Type 0
ToldFits t = Fits t.answer.hart

either_told : (b : Bool) (x y : Told SteppedKernel) → ToldFits x → ToldFits y → ToldFits (cond b x y)
either_told true x y here there = here
either_told false x y here there = there

either_asked : (b : Bool) (f g : Asking SteppedKernel) (w : World) → ToldFits (f w) → ToldFits (g w) →
    ToldFits (cond b f g w)
either_asked true f g w here there = here
either_asked false f g w here there = there

answers_fit : (h : Hart) (value : ℕ) → Fits h → Fits (gone_on (with_word h 10 value))
answers_fit h value here = on_fits _ (word_fits h 10 value here)

put_fits : (h : Hart) → Fits h → MadeFits (put_call h)
unfolding put_call
put_fits h here = answers_fit h 0 here

timer_fits : (h : Hart) → Fits h → MadeFits (timer_call h)
unfolding timer_call
timer_fits h here =
    answers_fit (record h { timer = register h.regs 10; csrs = with_pending false h.csrs }) 0
    (record { regs = here.regs; pc = here.pc; csrs = pending_has false h.csrs here.csrs })

halt_fits : (h : Hart) → Fits h → MadeFits (halt_call h)
unfolding halt_call
halt_fits h here = on_fits h here

read_fits : (h : Hart) (disk : List ℕ) (frames : ℕ) (w : World) → Fits h → ToldFits (read_block h disk frames w)
unfolding read_block
read_fits h disk frames w here =
    either_told (is_transfer frames disk (register h.regs 10) (register h.regs 11)) _ _ (answers_fit h 0 here)
    (answers_fit h 1 here)

write_fits : (h : Hart) (disk : List ℕ) (frames : ℕ) (w : World) → Fits h → ToldFits (write_block h disk frames w)
unfolding write_block
write_fits h disk frames w here =
    either_told (is_transfer frames disk (register h.regs 10) (register h.regs 11)) _ _ (answers_fit h 0 here)
    (answers_fit h 1 here)

read_call_fits : (h : Hart) (disk : List ℕ) (w : World) → Fits h → ToldFits (read_call h disk w)
unfolding read_call
read_call_fits h disk w here = read_fits h disk _ _ here

write_call_fits : (h : Hart) (disk : List ℕ) (w : World) → Fits h → ToldFits (write_call h disk w)
unfolding write_call
write_call_fits h disk w here = write_fits h disk _ _ here

host_fits : (h : Hart) (disk : List ℕ) (w : World) → Fits h → ToldFits (host_call h disk w)
unfolding host_call
host_fits h disk w here =
    either_told (register h.regs 17 == 0) _ _ (put_fits h here)
    (either_told (register h.regs 17 == 1) _ _ (timer_fits h here)
    (either_told (register h.regs 17 == 2) _ _ (read_call_fits h disk w here)
    (either_told (register h.regs 17 == 3) _ _ (write_call_fits h disk w here)
    (either_told (register h.regs 17 == 4) _ _ (halt_fits h here) (answers_fit h (2 ^ 32 - 1) here)))))

resumed_fits : (h : Hart) → Fits h → MadeFits (resumed h)
unfolding resumed
resumed_fits h here = record { regs = zeros_have; pc = refl; csrs = here.csrs }

ecall_in_fits : (mode : Mode) (h : Hart) (disk : List ℕ) (w : World) → Fits h → ToldFits (ecall_in mode h disk w)
unfolding ecall_in
ecall_in_fits U h disk w here = raised_fits h 8 0 here
ecall_in_fits S h disk w here = host_fits h disk w here

ecall_fits : (h : Hart) (disk : List ℕ) (w : World) → Fits h → ToldFits (ecall h disk w)
unfolding ecall
ecall_fits h disk w here =
    either_told (register h.regs 17 == 0x4F560000) _ _ (resumed_fits h here) (ecall_in_fits h.mode h disk w here)

or_trap_fits : {A : Type 0} (h : Hart) (disk : List ℕ) (va : ℕ) (found : Result A ℕ) (next : A → Asking SteppedKernel)
    (w : World) → Fits h → ((a : A) → ToldFits (next a w)) → ToldFits (or_trap h disk va found next w)
or_trap_fits h disk va (Err cause) next w here more = raised_fits h cause va here
or_trap_fits h disk va (Ok a) next w here more = more a

-- memory is asked for an access, which may fault
asked_fits : {A : Type 0} (ask : Asking (Result A ℕ)) (h : Hart) (disk : List ℕ) (va : ℕ)
    (next : A → Asking SteppedKernel) (w : World) → Fits h → ((a : A) (v : World) → ToldFits (next a v)) →
    ToldFits (then_ask ask (λ found. or_trap h disk va found next) w)
asked_fits ask h disk va next w here more =
    or_trap_fits h disk va (ask w).answer next (ask w).world here (λ a. more a (ask w).world)

-- Where an effect leads.

abbrev Leads : Effect → Type 0
Leads (does.Jump rd link target) = target % 4 ≡ 0
Leads (does.Go target) = target % 4 ≡ 0
Leads _ = Unit {0}

either_leads : (t : Bool) (x y : Effect) → (t ≡ true → Leads x) → Leads y → Leads (cond t x y)
either_leads true x y here there = here refl
either_leads false x y here there = there

jump_leads : (rd pc target : ℕ) → Leads (jump rd pc target)
jump_leads rd pc target =
    either_leads (target % 4 == 0) (does.Jump rd _ target) _ (λ is. eqb-true (target % 4) 0 is) tt

go_leads : (target : ℕ) → Leads (go target)
go_leads target = either_leads (target % 4 == 0) (does.Go target) _ (λ is. eqb-true (target % 4) 0 is) tt

branch_leads : (taken : Bool) (pc : ℕ) (imm : ℤ) → Leads (branch taken pc imm)
branch_leads taken pc imm = either_leads taken (go _) does.Nothing (λ is. go_leads _) tt

load_leads : (rd va width : ℕ) (is_signed : Bool) → Leads (load_effect rd va width is_signed)
load_leads rd va width is_signed = either_leads (va % width == 0) (does.Load rd va width is_signed) _ (λ is. tt) tt

store_leads : (va width value : ℕ) → Leads (store_effect va width value)
store_leads va width value = either_leads (va % width == 0) (does.Store va width _) _ (λ is. tt) tt

effect_leads : (i : Instr) (r : List ℕ) (pc : ℕ) → Leads (effect i r pc)
unfolding effect
effect_leads (instr.Jal rd imm) r pc = jump_leads rd pc _
effect_leads (instr.Jalr rd rs1 imm) r pc = jump_leads rd pc _
effect_leads (instr.Beq rs1 rs2 imm) r pc = branch_leads _ pc imm
effect_leads (instr.Bne rs1 rs2 imm) r pc = branch_leads _ pc imm
effect_leads (instr.Blt rs1 rs2 imm) r pc = branch_leads _ pc imm
effect_leads (instr.Bge rs1 rs2 imm) r pc = branch_leads _ pc imm
effect_leads (instr.Bltu rs1 rs2 imm) r pc = branch_leads _ pc imm
effect_leads (instr.Bgeu rs1 rs2 imm) r pc = branch_leads _ pc imm
effect_leads (instr.Lb rd rs1 imm) r pc = load_leads rd _ 1 true
effect_leads (instr.Lh rd rs1 imm) r pc = load_leads rd _ 2 true
effect_leads (instr.Lw rd rs1 imm) r pc = load_leads rd _ 4 true
effect_leads (instr.Lbu rd rs1 imm) r pc = load_leads rd _ 1 false
effect_leads (instr.Lhu rd rs1 imm) r pc = load_leads rd _ 2 false
effect_leads (instr.Sb rs1 rs2 imm) r pc = store_leads _ 1 _
effect_leads (instr.Sh rs1 rs2 imm) r pc = store_leads _ 2 _
effect_leads (instr.Sw rs1 rs2 imm) r pc = store_leads _ 4 _
effect_leads _ r pc = tt

-- Instructions.

carried_fits : (h : Hart) (disk : List ℕ) (word : ℕ) (i : Instr) (e : Effect) (w : World) → Fits h → Leads e →
    ToldFits (carried_out h disk word i e w)
unfolding carried_out
carried_fits h disk word i (does.Write rd value) w here to = on_fits _ (word_fits h rd value here)
carried_fits h disk word i (does.Jump rd link target) w here to =
    at_fits (with_word h rd link) target to (word_fits h rd link here)
carried_fits h disk word i (does.Go target) w here to = at_fits h target to here
carried_fits h disk word i (does.Load rd va width is_signed) w here to =
    asked_fits (ask_load (satp_of h.csrs) (access h Load va) width) h disk va
    (λ value. ends disk (stays (gone_on (with_word h rd (extended is_signed width value))))) w here
    (λ value v. on_fits _ (word_fits h rd (extended is_signed width value) here))
carried_fits h disk word i (does.Store va width value) w here to =
    asked_fits (ask_store_at (satp_of h.csrs) (access h Store va) width value) h disk va
    (λ done. ends disk (stays (gone_on h))) w here (λ done v. on_fits h here)
carried_fits h disk word i does.System w here to =
    either_asked (is_ecall i) (ecall h disk) (ends disk (system h word i)) w (ecall_fits h disk w here)
    (system_fits h word i here)
carried_fits h disk word i does.Nothing w here to = on_fits h here
carried_fits h disk word i (does.Raise cause value) w here to = raised_fits h cause value here

atomic_fits : (h : Hart) (disk : List ℕ) (a : Atomic) (op : AtomicOp) (va operand : ℕ) (w : World) → Fits h →
    ToldFits (atomic_access h disk a op va operand w)
unfolding atomic_access
atomic_fits h disk a Lr va operand w here =
    asked_fits (ask_reserve (satp_of h.csrs) (access h Load va) h.id) h disk va
    (λ value. ends disk (stays (gone_on (with_word h a.rd value)))) w here
    (λ value v. on_fits _ (word_fits h a.rd value here))
atomic_fits h disk a Sc va operand w here =
    asked_fits (ask_store_conditional (satp_of h.csrs) (access h Store va) h.id operand) h disk va
    (λ is_stored. ends disk (stays (gone_on (with_word h a.rd (flag (not is_stored)))))) w here
    (λ is_stored v. on_fits _ (word_fits h a.rd (flag (not is_stored)) here))
atomic_fits h disk a op va operand w here =
    asked_fits (ask_combine (satp_of h.csrs) (access h Store va) op operand) h disk va
    (λ old. ends disk (stays (gone_on (with_word h a.rd old)))) w here
    (λ old v. on_fits _ (word_fits h a.rd old here))

atomic_word_fits : (h : Hart) (disk : List ℕ) (word : ℕ) (a : Option Atomic) (w : World) → Fits h →
    ToldFits (atomic_executed h disk word a w)
unfolding atomic_executed
atomic_word_fits h disk word None w here = raised_fits h 2 word here
atomic_word_fits h disk word (Some a) w here =
    let va = register h.regs a.rs1 in
    either_asked (va % 4 == 0) (atomic_access h disk a a.op va (register h.regs a.rs2))
    (ends disk (raised h (misaligned a.op) va)) w (atomic_fits h disk a a.op va _ w here)
    (raised_fits h (misaligned a.op) va here)

executed_fits : (h : Hart) (disk : List ℕ) (word : ℕ) (i : Option Instr) (w : World) → Fits h →
    ToldFits (executed h disk word i w)
executed_fits h disk word None w here = atomic_word_fits h disk word (atomic_instruction word) w here
executed_fits h disk word (Some i) w here =
    carried_fits h disk word i (effect i h.regs h.pc) w here (effect_leads i h.regs h.pc)

instruction_fits : (h : Hart) (disk : List ℕ) (w : World) → Fits h → ToldFits (instruction_step h disk w)
unfolding instruction_step
instruction_fits h disk w here =
    asked_fits (ask_load (satp_of h.csrs) (access h Fetch h.pc) 4) h disk h.pc
    (λ word. executed h disk word (instruction word)) w here
    (λ word v. executed_fits h disk word (instruction word) v here)

released_fits : (made : SteppedKernel) (w : World) → Fits made.hart → ToldFits (released made w)
unfolding released
released_fits made w here = either_told (ends_reservation made.ending) _ _ here here

pub step_fits : (h : Hart) (disk : List ℕ) (w : World) → Fits h → ToldFits (kernel_step h disk w)
unfolding kernel_step
step_fits h disk w here =
    let h' = ticked h in
    released_fits _ _
    (either_asked (interrupt_due h'.mode h'.csrs) (ends disk (raised h' 0x80000005 0)) (instruction_step h' disk) w
    (raised_fits h' 0x80000005 0 (ticked_fits h here)) (instruction_fits h' disk w (ticked_fits h here)))
