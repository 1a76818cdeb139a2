-- The plain step of a hart: the hart, the disk and memory stay words and bytes.
use Rattle.std.proofs.Common.{ℕ, ◌+◌, ◌-◌, ◌*◌, ◌^◌, ◌<◌, Bool, true, false, cond, List, Option, Some, None, IfSome, Result, Ok, Err, arith}
use Rattle.std.specs.Prelude.{◌==◌, ◌%◌, not}
use Rattle.cloak_base.specs.Registers.{register}
use Rattle.cloak_base.specs.declared.names.Kind.TheVariants.{Fetch, Load, Store}
use Rattle.cloak_base.specs.declared.names.Mode.{Mode}
use Rattle.cloak_base.specs.declared.names.Mode.TheVariants.{U, S}
use Rattle.rv_isa.specs.Table.{instruction}
use Rattle.rv_isa.specs.declared.instr.Instr.{Instr}
use Rattle.rv_atomic.specs.Table.{atomic_instruction}
use Rattle.rv_atomic.specs.declared.atomic.Atomic.{Atomic}
use Rattle.rv_atomic.specs.declared.atomic.AtomicOp.{AtomicOp}
use Rattle.rv_atomic.specs.declared.atomic.AtomicOp.TheVariants.{Lr, Sc}
use Rattle.cloak_model.specs.Ask.{ask_count, ask_frame, ask_fill, ask_load, ask_store_at, ask_reserve, ask_store_conditional, ask_combine}
use Rattle.cloak_model.specs.Asking.{Asking, then_ask}
use Rattle.cloak_model.specs.Csr.{interrupt_due, with_pending, satp_of}
use Rattle.cloak_model.specs.Effect.{effect, flag}
use Rattle.cloak_model.specs.declared.outcome.Effect.{Effect}
use Rattle.cloak_model.specs.declared.outcome.Effect.TheVariants as does
use Rattle.cloak_model.specs.Hart.{Hart}
use Rattle.cloak_model.specs.HartStep.{SteppedHart, with_word, gone_on, stays, raised, system}
use Rattle.cloak_model.specs.HostCalls.{SteppedKernel, ends, block_at, with_block, is_transfer, host_answers, put_call, timer_call, halt_call, read_block, write_block, read_call, write_call, host_call, resumed, ecall_in, ecall}
use Rattle.cloak_model.specs.KernelStep.{access, extended, is_ecall, misaligned, or_trap, carried_out, atomic_access, atomic_executed, executed, instruction_step, ticked, ends_reservation, released, kernel_step}
use Rattle.cloak_base.specs.Constants.{frame_of}
use Rattle.cloak_model.specs.Record.{IsWord}
use Rattle.cloak_model.specs.World.{World}
use Rattle.range_law.specs.Writing.{AreBytes}
use Rattle.range_law.proofs.Bounds.{all_take, all_drop, extended_below}
use Rattle.range_law.proofs.Effects.{FieldsFit, EffectFits, instruction_fits, flag_fits, effect_fits}
use Rattle.range_law.proofs.Harts.{HartFits, EndingFits, MadeFits, zero_registers_fit, with_pending_fits, register_fits, with_word_fits, gone_on_fits, with_pc_fits, ticked_fits, stays_fits, raised_fits, illegal_fits, system_fits}
use Rattle.range_law.proofs.Worlds.{WorldFits, ToldFits, Anything, FoundFits, then_fits, either_told, count_told, load_told, store_at_told, unmark_told, reserve_told, store_conditional_told, combine_told, frame_told, fill_told}
use Rattle.cloak_base.proofs.Lists.{each_append}

pub record AfterFits (a : SteppedKernel) : Type 0 where
  pub hart : HartFits a.hart
  pub disk : AreBytes a.disk
  pub ending : EndingFits a.ending

ends_told : (disk : List ℕ) (made : SteppedHart) (w : World) → AreBytes disk → MadeFits made → WorldFits w →
    ToldFits AfterFits (ends disk made w)
ends_told disk made w bytes fits world =
    record { answer = record { hart = fits.hart; disk = bytes; ending = fits.ending }; world = world }

either_asking : {A : Type 0} (P : A → Type 0) (b : Bool) (f g : Asking A) (w : World) → ToldFits P (f w) →
    ToldFits P (g w) → ToldFits P (cond b f g w)
either_asking P true f g w here there = here
either_asking P false f g w here there = there

-- Host calls.

block_fits : (disk : List ℕ) (block : ℕ) → AreBytes disk → AreBytes (block_at disk block)
block_fits disk block bytes =
    let P : ℕ → Type 0 = λ b. b < 256 in all_take P 4096 _ (all_drop P (4096 * block) disk bytes)

with_block_fits : (disk : List ℕ) (block : ℕ) (bytes : List ℕ) → AreBytes disk → AreBytes bytes →
    AreBytes (with_block disk block bytes)
with_block_fits disk block bytes all here =
    let P : ℕ → Type 0 = λ b. b < 256 in
    each_append P _ _ (all_take P (4096 * block) disk all)
    (each_append P bytes _ here (all_drop P (4096 * block + 4096) disk all))

answers_fit : (h : Hart) (value : ℕ) → HartFits h → IsWord value → MadeFits (host_answers h value)
answers_fit h value fits here = stays_fits _ (gone_on_fits _ (with_word_fits h 10 value fits here))

put_fits : (h : Hart) → HartFits h → MadeFits (put_call h)
unfolding put_call
put_fits h fits = record { hart = gone_on_fits _ (with_word_fits h 10 0 fits (omega arith)); ending = tt }

timer_fits : (h : Hart) → HartFits h → MadeFits (timer_call h)
unfolding timer_call
timer_fits h fits =
    answers_fit (record h { timer = register h.regs 10; csrs = with_pending false h.csrs }) 0
    (record { regs = fits.regs; csrs = with_pending_fits false h.csrs fits.csrs; pc = fits.pc; inside = fits.inside }) (omega arith)

halt_fits : (h : Hart) → HartFits h → MadeFits (halt_call h)
unfolding halt_call
halt_fits h fits = record { hart = gone_on_fits h fits; ending = tt }

read_block_told : (h : Hart) (disk : List ℕ) (frames : ℕ) (w : World) → HartFits h → AreBytes disk → WorldFits w →
    ToldFits AfterFits (read_block h disk frames w)
unfolding read_block
read_block_told h disk frames w fits bytes world =
    let f : ℕ = frame_of (register h.regs 11) in
    let block : List ℕ = block_at disk (register h.regs 10) in
    either_told AfterFits (is_transfer frames disk (register h.regs 10) (register h.regs 11)) _ _
    (then_fits Anything AfterFits (ask_fill f block) (λ done. ends disk (host_answers h 0)) w
    (fill_told f block w world (block_fits disk _ bytes))
    (λ done v p there. ends_told disk _ v bytes (answers_fit h 0 fits (omega arith)) there))
    (ends_told disk _ w bytes (answers_fit h 1 fits (omega arith)) world)

write_block_told : (h : Hart) (disk : List ℕ) (frames : ℕ) (w : World) → HartFits h → AreBytes disk → WorldFits w →
    ToldFits AfterFits (write_block h disk frames w)
unfolding write_block
write_block_told h disk frames w fits bytes world =
    let f : ℕ = frame_of (register h.regs 11) in
    either_told AfterFits (is_transfer frames disk (register h.regs 10) (register h.regs 11)) _ _
    (then_fits AreBytes AfterFits (ask_frame f)
    (λ page. ends (with_block disk (register h.regs 10) page) (host_answers h 0)) w (frame_told f w world)
    (λ page v here there. ends_told (with_block disk (register h.regs 10) page) _ v
    (with_block_fits disk _ page bytes here) (answers_fit h 0 fits (omega arith)) there))
    (ends_told disk _ w bytes (answers_fit h 1 fits (omega arith)) world)

read_call_told : (h : Hart) (disk : List ℕ) (w : World) → HartFits h → AreBytes disk → WorldFits w →
    ToldFits AfterFits (read_call h disk w)
unfolding read_call
read_call_told h disk w fits bytes world =
    then_fits Anything AfterFits ask_count (read_block h disk) w (count_told w world)
    (λ frames v p there. read_block_told h disk frames v fits bytes there)

write_call_told : (h : Hart) (disk : List ℕ) (w : World) → HartFits h → AreBytes disk → WorldFits w →
    ToldFits AfterFits (write_call h disk w)
unfolding write_call
write_call_told h disk w fits bytes world =
    then_fits Anything AfterFits ask_count (write_block h disk) w (count_told w world)
    (λ frames v p there. write_block_told h disk frames v fits bytes there)

host_call_told : (h : Hart) (disk : List ℕ) (w : World) → HartFits h → AreBytes disk → WorldFits w →
    ToldFits AfterFits (host_call h disk w)
unfolding host_call
host_call_told h disk w fits bytes world =
    either_told AfterFits (register h.regs 17 == 0) _ _ (ends_told disk _ w bytes (put_fits h fits) world)
    (either_told AfterFits (register h.regs 17 == 1) _ _ (ends_told disk _ w bytes (timer_fits h fits) world)
    (either_told AfterFits (register h.regs 17 == 2) _ _ (read_call_told h disk w fits bytes world)
    (either_told AfterFits (register h.regs 17 == 3) _ _ (write_call_told h disk w fits bytes world)
    (either_told AfterFits (register h.regs 17 == 4) _ _ (ends_told disk _ w bytes (halt_fits h fits) world)
    (ends_told disk _ w bytes (answers_fit h (2 ^ 32 - 1) fits (omega arith)) world)))))

resumed_fits : (h : Hart) → HartFits h → MadeFits (resumed h)
unfolding resumed
resumed_fits h fits = record {
  hart = record { regs = zero_registers_fit; csrs = fits.csrs; pc = omega arith; inside = register_fits h 5 fits };
  ending = (register_fits h 5 fits, register_fits h 10 fits);
}

ecall_in_told : (mode : Mode) (h : Hart) (disk : List ℕ) (w : World) → HartFits h → AreBytes disk → WorldFits w →
    ToldFits AfterFits (ecall_in mode h disk w)
unfolding ecall_in
ecall_in_told U h disk w fits bytes world =
    ends_told disk _ w bytes (raised_fits h 8 0 fits (omega arith) (omega arith)) world
ecall_in_told S h disk w fits bytes world = host_call_told h disk w fits bytes world

ecall_told : (h : Hart) (disk : List ℕ) (w : World) → HartFits h → AreBytes disk → WorldFits w →
    ToldFits AfterFits (ecall h disk w)
unfolding ecall
ecall_told h disk w fits bytes world =
    either_told AfterFits (register h.regs 17 == 0x4F560000) _ _ (ends_told disk _ w bytes (resumed_fits h fits) world)
    (ecall_in_told h.mode h disk w fits bytes world)

-- Instructions.

or_trap_told : {A : Type 0} (P : A → Type 0) (h : Hart) (disk : List ℕ) (va : ℕ) (found : Result A ℕ)
    (next : A → Asking SteppedKernel) (w : World) → FoundFits P found → HartFits h → AreBytes disk → IsWord va → WorldFits w →
    ((a : A) → P a → ToldFits AfterFits (next a w)) → ToldFits AfterFits (or_trap h disk va found next w)
or_trap_told P h disk va (Err cause) next w finds fits bytes at world more =
    ends_told disk _ w bytes (raised_fits h cause va fits finds at) world
or_trap_told P h disk va (Ok a) next w finds fits bytes at world more = more a finds

carried_out_told : (h : Hart) (disk : List ℕ) (word : ℕ) (i : Instr) (e : Effect) (w : World) → HartFits h →
    AreBytes disk → IsWord word → FieldsFit i → EffectFits e → WorldFits w →
    ToldFits AfterFits (carried_out h disk word i e w)
unfolding carried_out
carried_out_told h disk word i (does.Write rd value) w fits bytes here f e world =
    ends_told disk _ w bytes (stays_fits _ (gone_on_fits _ (with_word_fits h rd value fits e))) world
carried_out_told h disk word i (does.Jump rd link target) w fits bytes here f e world =
    ends_told disk _ w bytes (stays_fits _ (with_pc_fits (with_word h rd link) target (with_word_fits h rd link fits e.0) e.1)) world
carried_out_told h disk word i (does.Go target) w fits bytes here f e world =
    ends_told disk _ w bytes (stays_fits _ (with_pc_fits h target fits e)) world
carried_out_told h disk word i (does.Load rd va width is_signed) w fits bytes here f e world =
    let done : ℕ → Asking SteppedKernel = λ value. ends disk (stays (gone_on (with_word h rd (extended is_signed width value)))) in
    then_fits (FoundFits IsWord) AfterFits (ask_load (satp_of h.csrs) (access h Load va) width)
    (λ found. or_trap h disk va found done) w (load_told (satp_of h.csrs) (access h Load va) width w world)
    (λ found v finds there. or_trap_told IsWord h disk va found done v finds fits bytes e.0 there
    (λ value below. ends_told disk _ v bytes
    (stays_fits _ (gone_on_fits _ (with_word_fits h rd _ fits (extended_below is_signed width value below)))) there))
carried_out_told h disk word i (does.Store va width value) w fits bytes here f e world =
    let done : Unit {0} → Asking SteppedKernel = λ done. ends disk (stays (gone_on h)) in
    then_fits (FoundFits Anything) AfterFits (ask_store_at (satp_of h.csrs) (access h Store va) width value)
    (λ found. or_trap h disk va found done) w (store_at_told (satp_of h.csrs) (access h Store va) width value w world)
    (λ found v finds there. or_trap_told Anything h disk va found done v finds fits bytes e.0 there
    (λ stored p. ends_told disk _ v bytes (stays_fits _ (gone_on_fits h fits)) there))
carried_out_told h disk word i does.System w fits bytes here f e world =
    either_asking AfterFits (is_ecall i) (ecall h disk) (ends disk (system h word i)) w
    (ecall_told h disk w fits bytes world) (ends_told disk _ w bytes (system_fits h word i fits here f) world)
carried_out_told h disk word i does.Nothing w fits bytes here f e world =
    ends_told disk _ w bytes (stays_fits _ (gone_on_fits h fits)) world
carried_out_told h disk word i (does.Raise cause value) w fits bytes here f e world =
    ends_told disk _ w bytes (raised_fits h cause value fits e.0 e.1) world

-- Atomic instructions.

pub misaligned_fits : (op : AtomicOp) → IsWord (misaligned op)
misaligned_fits Lr = omega arith
misaligned_fits op = omega arith

combine_step_told : (h : Hart) (disk : List ℕ) (rd : ℕ) (op : AtomicOp) (va operand : ℕ) (w : World) → HartFits h →
    AreBytes disk → IsWord va → WorldFits w →
    let done : ℕ → Asking SteppedKernel = λ old. ends disk (stays (gone_on (with_word h rd old))) in
    ToldFits AfterFits (then_ask (ask_combine (satp_of h.csrs) (access h Store va) op operand)
    (λ (found : Result ℕ ℕ). or_trap h disk va found done) w)
combine_step_told h disk rd op va operand w fits bytes at world =
    let done : ℕ → Asking SteppedKernel = λ old. ends disk (stays (gone_on (with_word h rd old))) in
    then_fits (FoundFits IsWord) AfterFits (ask_combine (satp_of h.csrs) (access h Store va) op operand)
    (λ found. or_trap h disk va found done) w (combine_told (satp_of h.csrs) (access h Store va) op operand w world)
    (λ found v finds there. or_trap_told IsWord h disk va found done v finds fits bytes at there
    (λ old below. ends_told disk _ v bytes (stays_fits _ (gone_on_fits _ (with_word_fits h rd old fits below))) there))

atomic_access_told : (h : Hart) (disk : List ℕ) (a : Atomic) (op : AtomicOp) (va operand : ℕ) (w : World) →
    HartFits h → AreBytes disk → IsWord va → WorldFits w →
    ToldFits AfterFits (atomic_access h disk a op va operand w)
unfolding atomic_access
atomic_access_told h disk a Lr va operand w fits bytes at world =
    let done : ℕ → Asking SteppedKernel = λ value. ends disk (stays (gone_on (with_word h a.rd value))) in
    then_fits (FoundFits IsWord) AfterFits (ask_reserve (satp_of h.csrs) (access h Load va) h.id)
    (λ found. or_trap h disk va found done) w (reserve_told (satp_of h.csrs) (access h Load va) h.id w world)
    (λ found v finds there. or_trap_told IsWord h disk va found done v finds fits bytes at there
    (λ value below. ends_told disk _ v bytes (stays_fits _ (gone_on_fits _ (with_word_fits h a.rd value fits below)))
    there))
atomic_access_told h disk a Sc va operand w fits bytes at world =
    let done : Bool → Asking SteppedKernel = λ is_stored.
    ends disk (stays (gone_on (with_word h a.rd (flag (not is_stored))))) in
    then_fits (FoundFits Anything) AfterFits (ask_store_conditional (satp_of h.csrs) (access h Store va) h.id operand)
    (λ found. or_trap h disk va found done) w
    (store_conditional_told (satp_of h.csrs) (access h Store va) h.id operand w world)
    (λ found v finds there. or_trap_told Anything h disk va found done v finds fits bytes at there
    (λ is_stored p. ends_told disk _ v bytes
    (stays_fits _ (gone_on_fits _ (with_word_fits h a.rd _ fits (flag_fits (not is_stored))))) there))
atomic_access_told h disk a op va operand w fits bytes at world =
    combine_step_told h disk a.rd op va operand w fits bytes at world

atomic_told : (h : Hart) (disk : List ℕ) (word : ℕ) (o : Option Atomic) (w : World) → HartFits h → AreBytes disk →
    IsWord word → WorldFits w → ToldFits AfterFits (atomic_executed h disk word o w)
unfolding atomic_executed
atomic_told h disk word None w fits bytes here world = ends_told disk _ w bytes (illegal_fits h word fits here) world
atomic_told h disk word (Some a) w fits bytes here world =
    let va = register h.regs a.rs1 in
    let at = register_fits h a.rs1 fits in
    either_asking AfterFits (va % 4 == 0) (atomic_access h disk a a.op va (register h.regs a.rs2))
    (ends disk (raised h (misaligned a.op) va)) w
    (atomic_access_told h disk a a.op va (register h.regs a.rs2) w fits bytes at world)
    (ends_told disk _ w bytes (raised_fits h (misaligned a.op) va fits (misaligned_fits a.op) at) world)

-- A step.

executed_told : (h : Hart) (disk : List ℕ) (word : ℕ) (o : Option Instr) (w : World) → HartFits h → AreBytes disk →
    IsWord word → IfSome o FieldsFit → WorldFits w → ToldFits AfterFits (executed h disk word o w)
executed_told h disk word None w fits bytes here f world =
    atomic_told h disk word (atomic_instruction word) w fits bytes here world
executed_told h disk word (Some i) w fits bytes here f world =
    carried_out_told h disk word i (effect i h.regs h.pc) w fits bytes here f (effect_fits i h.regs h.pc f fits.regs) world

instruction_told : (h : Hart) (disk : List ℕ) (w : World) → HartFits h → AreBytes disk → WorldFits w →
    ToldFits AfterFits (instruction_step h disk w)
unfolding instruction_step
instruction_told h disk w fits bytes world =
    let done : ℕ → Asking SteppedKernel = λ word. executed h disk word (instruction word) in
    then_fits (FoundFits IsWord) AfterFits (ask_load (satp_of h.csrs) (access h Fetch h.pc) 4)
    (λ found. or_trap h disk h.pc found done) w (load_told (satp_of h.csrs) (access h Fetch h.pc) 4 w world)
    (λ found v finds there. or_trap_told IsWord h disk h.pc found done v finds fits bytes fits.pc there
    (λ word here. executed_told h disk word (instruction word) v fits bytes here (instruction_fits word) there))

released_told : (made : SteppedKernel) (w : World) → AfterFits made → WorldFits w →
    ToldFits AfterFits (released made w)
unfolding released
released_told made w fits world =
    let told = unmark_told made.hart.id w world in
    either_told AfterFits (ends_reservation made.ending) _ _ (record { answer = fits; world = told.world })
    (record { answer = fits; world = world })

pub kernel_step_told : (h : Hart) (disk : List ℕ) (w : World) → HartFits h → AreBytes disk → WorldFits w →
    ToldFits AfterFits (kernel_step h disk w)
unfolding kernel_step
kernel_step_told h disk w fits bytes world =
    let h' : Hart = ticked h in
    let fits' = ticked_fits h fits in
    let made : Asking SteppedKernel =
    cond (interrupt_due h'.mode h'.csrs) (ends disk (raised h' 0x80000005 0)) (instruction_step h' disk) in
    then_fits AfterFits AfterFits made released w
    (either_asking AfterFits (interrupt_due h'.mode h'.csrs) (ends disk (raised h' 0x80000005 0))
    (instruction_step h' disk) w
    (ends_told disk _ w bytes (raised_fits h' 0x80000005 0 fits' (omega arith) (omega arith)) world)
    (instruction_told h' disk w fits' bytes world))
    (λ a v m there. released_told a v m there)
