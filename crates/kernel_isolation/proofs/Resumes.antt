-- A step of a hart outside that resumes a context depends on no reservation, and ends only that of its hart.
use Rattle.std.proofs.Common.{◌≡◌, ◌∙◌, true, false, cond, ℕ, Bool, List, Option, Some, None, Result, Ok, Err, refl, ap, sym, subst}
use Rattle.std.specs.Prelude.{◌==◌, ◌%◌, not}
use Rattle.std.proofs.lemmas.Bool.{false≢true}
use Rattle.cloak_base.specs.Registers.{register}
use Rattle.cloak_base.specs.declared.names.Mode.{Mode}
use Rattle.cloak_base.specs.declared.names.Mode.TheVariants.{U, S}
use Rattle.cloak_base.specs.declared.names.Kind.TheVariants.{Fetch, Load, Store}
use Rattle.rv_isa.specs.Table.{instruction}
use Rattle.rv_isa.specs.declared.instr.Instr.{Instr}
use Rattle.rv_isa.specs.declared.instr.Instr.TheVariants.{Csrrw, Csrrs, Csrrc, Csrrwi, Csrrsi, Csrrci, Ebreak, Sret, Wfi, SfenceVma}
use Rattle.rv_atomic.specs.Table.{atomic_instruction}
use Rattle.rv_atomic.specs.declared.atomic.Atomic.{Atomic}
use Rattle.rv_atomic.specs.declared.atomic.AtomicOp.{AtomicOp}
use Rattle.rv_atomic.specs.declared.atomic.AtomicOp.TheVariants.{Lr, Sc}
use Rattle.cloak_model.specs.declared.access.Access.{Access}
use Rattle.cloak_model.specs.declared.outcome.Kernel.{Kernel}
use Rattle.cloak_model.specs.declared.outcome.Kernel.TheVariants.{Resume, Trapped}
use Rattle.cloak_model.specs.declared.outcome.Effect.{Effect}
use Rattle.cloak_model.specs.declared.outcome.Effect.TheVariants as does
use Rattle.cloak_model.specs.Csr.{csr_read, satp_of, interrupt_due}
use Rattle.cloak_model.specs.Effect.{effect, flag}
use Rattle.cloak_model.specs.Hart.{Hart}
use Rattle.cloak_model.specs.Memory.{Seen}
use Rattle.cloak_model.specs.World.{World, Flat}
use Rattle.cloak_model.specs.Asking.{Told, Asking, answered, then_ask}
use Rattle.cloak_model.specs.Walk.{Walk}
use Rattle.cloak_model.specs.Ask.{ask_walk, ask_in_ram, ask_translate, ask_led, ask_value, loaded_at, ask_load, ask_store_at, ask_count, ask_unmark, ask_reserve, ask_store_conditional, ask_combine}
use Rattle.cloak_model.specs.HartStep.{SteppedHart, with_word, gone_on, stays, raised, csr_written, csr_found, csr_step, returned, idle, system}
use Rattle.cloak_model.specs.HostCalls.{SteppedKernel, is_transfer, ends, put_call, timer_call, halt_call, read_block, write_block, read_call, write_call, host_call, resumed, ecall_in, ecall}
use Rattle.cloak_model.specs.KernelStep.{access, extended, is_ecall, misaligned, or_trap, carried_out, atomic_access, atomic_executed, executed, instruction_step, ticked, ends_reservation, released, kernel_step}
use Rattle.cloak_model.proofs.FlatWalk.{ask_walk-flat}
use Rattle.settling_ahead.proofs.Planning.{unmarked}

abbrev pub is_resume : Kernel → Bool
is_resume (Resume ctx answer) = true
is_resume _ = false

-- the same frames with other reservations
abbrev pub marked : List (Option ℕ) → Seen → Seen
marked marks seen = record seen { marks = marks }

-- what was told, with this memory after it
abbrev told_with : {A : Type 0} → Told A → Seen → Told A
told_with told seen = record { answer = told.answer; world = Flat seen }

-- if it resumes a context, it does so with other reservations too, and memory is as it was
abbrev Keeps : Asking SteppedKernel → Type 0
Keeps ask =
    (seen : Seen) (marks : List (Option ℕ)) → is_resume (ask (Flat seen)).answer.ending ≡ true →
    ask (Flat (marked marks seen)) ≡ told_with (ask (Flat seen)) (marked marks seen)

-- a step that resumes none
abbrev NoResume : SteppedHart → Type 0
NoResume m = is_resume m.ending ≡ false

abbrev NoneAsked : Asking SteppedKernel → Type 0
NoneAsked ask = (w : World) → is_resume (ask w).answer.ending ≡ false

keeps_none : (ask : Asking SteppedKernel) → NoneAsked ask → Keeps ask
keeps_none ask none seen marks is = absurd (false≢true (sym (none (Flat seen)) ∙ is))

keeps_either : (test : Bool) (x y : Asking SteppedKernel) → Keeps x → Keeps y → Keeps (cond test x y)
keeps_either true x y first second = first
keeps_either false x y first second = second

keeps_chosen : (test : Bool) (x y : Asking SteppedKernel) → Keeps x → Keeps y → Keeps (λ w. cond test (x w) (y w))
keeps_chosen true x y first second = first
keeps_chosen false x y first second = second

none_either : (test : Bool) (x y : Told SteppedKernel) → is_resume x.answer.ending ≡ false →
    is_resume y.answer.ending ≡ false → is_resume (cond test x y).answer.ending ≡ false
none_either true x y first second = first
none_either false x y first second = second

-- What the hart alone does.

raised_none : (h : Hart) (cause value : ℕ) → NoResume (raised h cause value)
unfolding raised
raised_none h cause value = refl

csr_written_none : (h : Hart) (rd n was : ℕ) (new : Option ℕ) → NoResume (csr_written h rd n was new)
unfolding csr_written
csr_written_none h rd n was None = refl
csr_written_none h rd n was (Some new) = refl

csr_found_none : (h : Hart) (w rd n : ℕ) (new found : Option ℕ) → NoResume (csr_found h w rd n new found)
unfolding csr_found
csr_found_none h w rd n new None = raised_none h 2 w
csr_found_none h w rd n new (Some was) = csr_written_none h rd n was new

csr_step_none : (m : Mode) (h : Hart) (w rd n : ℕ) (new : Option ℕ) → NoResume (csr_step m h w rd n new)
unfolding csr_step
csr_step_none U h w rd n new = raised_none h 2 w
csr_step_none S h w rd n new = csr_found_none h w rd n new (csr_read h.csrs n)

returned_none : (m : Mode) (h : Hart) (w : ℕ) → NoResume (returned m h w)
unfolding returned
returned_none U h w = raised_none h 2 w
returned_none S h w = refl

idle_none : (m : Mode) (h : Hart) (w : ℕ) → NoResume (idle m h w)
unfolding idle
idle_none U h w = raised_none h 2 w
idle_none S h w = refl

system_none : (h : Hart) (w : ℕ) (i : Instr) → NoResume (system h w i)
unfolding system
system_none h w (Csrrw rd rs1 n) = csr_step_none h.mode h w rd n _
system_none h w (Csrrs rd rs1 n) = csr_step_none h.mode h w rd n _
system_none h w (Csrrc rd rs1 n) = csr_step_none h.mode h w rd n _
system_none h w (Csrrwi rd uimm n) = csr_step_none h.mode h w rd n _
system_none h w (Csrrsi rd uimm n) = csr_step_none h.mode h w rd n _
system_none h w (Csrrci rd uimm n) = csr_step_none h.mode h w rd n _
system_none h w Ebreak = raised_none h 3 0
system_none h w Sret = returned_none h.mode h w
system_none h w Wfi = idle_none h.mode h w
system_none h w (SfenceVma rs1 rs2) = idle_none h.mode h w
system_none h w i = raised_none h 2 w

-- Ecalls.

read_none : (h : Hart) (disk : List ℕ) → NoneAsked (read_call h disk)
unfolding read_call read_block
read_none h disk w =
    none_either (is_transfer (ask_count w).answer disk (register h.regs 10) (register h.regs 11)) _ _ refl refl

write_none : (h : Hart) (disk : List ℕ) → NoneAsked (write_call h disk)
unfolding write_call write_block
write_none h disk w =
    none_either (is_transfer (ask_count w).answer disk (register h.regs 10) (register h.regs 11)) _ _ refl refl

host_call_none : (h : Hart) (disk : List ℕ) → NoneAsked (host_call h disk)
unfolding host_call put_call timer_call halt_call
host_call_none h disk w =
    let n = register h.regs 17 in
    none_either (n == 0) _ _ refl
    (none_either (n == 1) _ _ refl
    (none_either (n == 2) _ _ (read_none h disk w)
    (none_either (n == 3) _ _ (write_none h disk w)
    (none_either (n == 4) _ _ refl refl))))

ecall_in_none : (m : Mode) (h : Hart) (disk : List ℕ) → NoneAsked (ecall_in m h disk)
unfolding ecall_in
ecall_in_none U h disk w = raised_none h 8 0
ecall_in_none S h disk w = host_call_none h disk w

ecall_keeps : (h : Hart) (disk : List ℕ) → Keeps (ecall h disk)
unfolding ecall
ecall_keeps h disk =
    keeps_chosen (register h.regs 17 == 0x4F560000) (ends disk (resumed h)) (ecall_in h.mode h disk)
    (λ seen marks is. refl) (keeps_none (ecall_in h.mode h disk) (ecall_in_none h.mode h disk))

-- Atomic instructions resume none.

or_trap_none : {A : Type 0} (h : Hart) (disk : List ℕ) (va : ℕ) (to : Result A ℕ) (next : A → Asking SteppedKernel) →
    ((found : A) → NoneAsked (next found)) → NoneAsked (or_trap h disk va to next)
or_trap_none h disk va (Err cause) next rest w = raised_none h cause va
or_trap_none h disk va (Ok found) next rest w = rest found w

combined_none : (h : Hart) (disk : List ℕ) (rd : ℕ) (op : AtomicOp) (va operand : ℕ) →
    let next : ℕ → Asking SteppedKernel = λ old. ends disk (stays (gone_on (with_word h rd old))) in
    NoneAsked (then_ask (ask_combine (satp_of h.csrs) (access h Store va) op operand)
    (λ (found : Result ℕ ℕ). or_trap h disk va found next))
combined_none h disk rd op va operand w =
    let found = ask_combine (satp_of h.csrs) (access h Store va) op operand w in
    or_trap_none h disk va found.answer (λ old. ends disk (stays (gone_on (with_word h rd old)))) (λ old v. refl)
    found.world

atomic_access_none : (h : Hart) (disk : List ℕ) (a : Atomic) (op : AtomicOp) (va operand : ℕ) →
    NoneAsked (atomic_access h disk a op va operand)
unfolding atomic_access
atomic_access_none h disk a Lr va operand w =
    let found = ask_reserve (satp_of h.csrs) (access h Load va) h.id w in
    or_trap_none h disk va found.answer (λ value. ends disk (stays (gone_on (with_word h a.rd value))))
    (λ value v. refl) found.world
atomic_access_none h disk a Sc va operand w =
    let found = ask_store_conditional (satp_of h.csrs) (access h Store va) h.id operand w in
    or_trap_none h disk va found.answer
    (λ is_stored. ends disk (stays (gone_on (with_word h a.rd (flag (not is_stored)))))) (λ is_stored v. refl)
    found.world
atomic_access_none h disk a op va operand w = combined_none h disk a.rd op va operand w

none_chosen : (test : Bool) (x y : Asking SteppedKernel) → NoneAsked x → NoneAsked y → NoneAsked (cond test x y)
none_chosen true x y first second = first
none_chosen false x y first second = second

atomic_none : (h : Hart) (disk : List ℕ) (word : ℕ) (a : Option Atomic) → NoneAsked (atomic_executed h disk word a)
unfolding atomic_executed
atomic_none h disk word None w = raised_none h 2 word
atomic_none h disk word (Some a) w =
    let va = register h.regs a.rs1 in
    none_chosen (va % 4 == 0) (atomic_access h disk a a.op va (register h.regs a.rs2))
    (ends disk (raised h (misaligned a.op) va)) (atomic_access_none h disk a a.op va (register h.regs a.rs2))
    (λ v. raised_none h (misaligned a.op) va) w

-- An instruction.

carried_out_keeps : (h : Hart) (disk : List ℕ) (word : ℕ) (i : Instr) (e : Effect) →
    Keeps (carried_out h disk word i e)
unfolding carried_out
carried_out_keeps h disk word i (does.Write rd value) =
    keeps_none (ends disk (stays (gone_on (with_word h rd value)))) (λ w. refl)
carried_out_keeps h disk word i (does.Jump rd link target) =
    keeps_none (ends disk (stays (record (with_word h rd link) { pc = target }))) (λ w. refl)
carried_out_keeps h disk word i (does.Go target) =
    keeps_none (ends disk (stays (record h { pc = target }))) (λ w. refl)
carried_out_keeps h disk word i (does.Load rd va width is_signed) =
    let next : ℕ → Asking SteppedKernel = λ value.
    ends disk (stays (gone_on (with_word h rd (extended is_signed width value)))) in
    let ask : Asking (Result ℕ ℕ) = ask_load (satp_of h.csrs) (access h Load va) width in
    keeps_none (then_ask ask (λ found. or_trap h disk va found next))
    (λ w. or_trap_none h disk va (ask w).answer next (λ value v. refl) (ask w).world)
carried_out_keeps h disk word i (does.Store va width value) =
    let next : Unit {0} → Asking SteppedKernel = λ done. ends disk (stays (gone_on h)) in
    let ask : Asking (Result (Unit {0}) ℕ) = ask_store_at (satp_of h.csrs) (access h Store va) width value in
    keeps_none (then_ask ask (λ found. or_trap h disk va found next))
    (λ w. or_trap_none h disk va (ask w).answer next (λ done v. refl) (ask w).world)
carried_out_keeps h disk word i does.System =
    keeps_either (is_ecall i) (ecall h disk) (ends disk (system h word i)) (ecall_keeps h disk)
    (keeps_none (ends disk (system h word i)) (λ w. system_none h word i))
carried_out_keeps h disk word i does.Nothing = keeps_none (ends disk (stays (gone_on h))) (λ w. refl)
carried_out_keeps h disk word i (does.Raise cause value) =
    keeps_none (ends disk (raised h cause value)) (λ w. raised_none h cause value)

executed_keeps : (h : Hart) (disk : List ℕ) (word : ℕ) (o : Option Instr) → Keeps (executed h disk word o)
executed_keeps h disk word None =
    let a : Option Atomic = atomic_instruction word in
    keeps_none (atomic_executed h disk word a) (atomic_none h disk word a)
executed_keeps h disk word (Some i) = carried_out_keeps h disk word i (effect i h.regs h.pc)

-- A load reads frames alone, and changes nothing.

abbrev ReadsFrames : {A : Type 0} → Asking A → Type 0
ReadsFrames ask =
    (seen : Seen) (marks : List (Option ℕ)) →
    ask (Flat (marked marks seen)) ≡ told_with (ask (Flat seen)) (marked marks seen)

-- the world after it
world_behind : {A : Type 0} (ask : Asking A) → ReadsFrames ask → (seen : Seen) → (ask (Flat seen)).world ≡ Flat seen
world_behind ask reads seen = ap (λ (told : Told _). told.world) (reads seen seen.marks)

then_reads : {A B : Type 0} (ask : Asking A) (next : A → Asking B) → ReadsFrames ask →
    ((a : A) → ReadsFrames (next a)) → ReadsFrames (then_ask ask next)
then_reads ask next reads more seen marks =
    let a = (ask (Flat seen)).answer in
    ap (λ (told : Told _). next told.answer told.world) (reads seen marks)
    ∙ more a seen marks
    ∙ ap (λ (w : World). told_with (next a w) (marked marks seen)) (sym (world_behind ask reads seen))

then_keeps : {A : Type 0} (ask : Asking A) (next : A → Asking SteppedKernel) → ReadsFrames ask →
    ((a : A) → Keeps (next a)) → Keeps (then_ask ask next)
then_keeps ask next reads more seen marks is =
    let a = (ask (Flat seen)).answer in
    let same = world_behind ask reads seen in
    ap (λ (told : Told _). next told.answer told.world) (reads seen marks)
    ∙ more a seen marks (subst (λ (w : World). is_resume (next a w).answer.ending ≡ true) same is)
    ∙ ap (λ (w : World). told_with (next a w) (marked marks seen)) (sym same)

walk_reads : (satp : ℕ) (a : Access) → ReadsFrames (ask_walk satp a)
walk_reads satp a seen marks =
    ask_walk-flat satp a (marked marks seen)
    ∙ ap (λ (told : Told Walk). told_with told (marked marks seen)) (sym (ask_walk-flat satp a seen))

inside_reads : (a : Access) (walk : Walk) → ReadsFrames (ask_in_ram a walk)
unfolding ask_in_ram
inside_reads a (Err cause) seen marks = refl
inside_reads a (Ok walked) seen marks = refl

led_reads : (satp : ℕ) (a : Access) → ReadsFrames (ask_led satp a)
unfolding ask_led ask_translate
led_reads satp a seen marks =
    then_reads (ask_walk satp a) (ask_in_ram a) (walk_reads satp a) (inside_reads a) seen marks

loaded_reads : (satp : ℕ) (a : Access) (width : ℕ) (to : Walk) → ReadsFrames (loaded_at satp a width to)
unfolding loaded_at ask_value
loaded_reads satp a width (Err cause) seen marks = refl
loaded_reads satp a width (Ok walked) seen marks = refl

load_reads : (satp : ℕ) (a : Access) (width : ℕ) → ReadsFrames (ask_load satp a width)
unfolding ask_load
load_reads satp a width seen marks =
    then_reads (ask_led satp a) (loaded_at satp a width) (led_reads satp a) (loaded_reads satp a width) seen marks

-- A step.

or_trap_keeps : {A : Type 0} (h : Hart) (disk : List ℕ) (va : ℕ) (to : Result A ℕ) (next : A → Asking SteppedKernel) →
    ((found : A) → Keeps (next found)) → Keeps (or_trap h disk va to next)
or_trap_keeps h disk va (Err cause) next rest =
    keeps_none (ends disk (raised h cause va)) (λ w. raised_none h cause va)
or_trap_keeps h disk va (Ok found) next rest = rest found

instruction_keeps : (h : Hart) (disk : List ℕ) → Keeps (instruction_step h disk)
unfolding instruction_step
instruction_keeps h disk =
    let satp = satp_of h.csrs in
    let next : ℕ → Asking SteppedKernel = λ word. executed h disk word (instruction word) in
    then_keeps (ask_load satp (access h Fetch h.pc) 4) (λ (found : Result ℕ ℕ). or_trap h disk h.pc found next)
    (load_reads satp (access h Fetch h.pc) 4)
    (λ found. or_trap_keeps h disk h.pc found next (λ word. executed_keeps h disk word (instruction word)))

-- what it makes, before its reservation ends
abbrev made_by : Hart → List ℕ → Asking SteppedKernel
made_by h disk =
    cond (interrupt_due h.mode h.csrs) (ends disk (raised h 0x80000005 0)) (instruction_step h disk)

made_keeps : (h : Hart) (disk : List ℕ) → Keeps (made_by h disk)
made_keeps h disk =
    keeps_either (interrupt_due h.mode h.csrs) (ends disk (raised h 0x80000005 0)) (instruction_step h disk)
    (keeps_none (ends disk (raised h 0x80000005 0)) (λ w. raised_none h 0x80000005 0)) (instruction_keeps h disk)

-- it is told as it was made
pub released_answer : (made : SteppedKernel) (w : World) → (released made w).answer ≡ made
unfolding released ask_unmark
released_answer made w =
    by (ends_reservation made.ending) (then_ask (ask_unmark made.hart.id) (λ done. answered made) w) (answered made w)
    refl refl
  where
    by : (test : Bool) (x y : Told SteppedKernel) → x.answer ≡ made → y.answer ≡ made → (cond test x y).answer ≡ made
    by true x y first second = first
    by false x y first second = second

resume_releases : (e : Kernel) → is_resume e ≡ true → ends_reservation e ≡ true
resume_releases Trapped is = refl
resume_releases (Resume ctx answer) is = refl
resume_releases _ is = absurd cc

released_resume : (made : SteppedKernel) (seen : Seen) → is_resume made.ending ≡ true →
    released made (Flat seen) ≡ record { answer = made; world = Flat (unmarked made.hart.id seen) }
unfolding released ask_unmark
released_resume made seen is =
    ap (λ (test : Bool). cond test (then_ask (ask_unmark made.hart.id) (λ done. answered made) (Flat seen))
    (answered made (Flat seen))) (resume_releases made.ending is)

-- a step that resumes a context does so with any reservations
pub resume_keeps : (h : Hart) (disk : List ℕ) (seen : Seen) (marks : List (Option ℕ)) →
    let a = (kernel_step h disk (Flat seen)).answer in is_resume a.ending ≡ true →
    kernel_step h disk (Flat (marked marks seen))
    ≡ record { answer = a; world = Flat (unmarked a.hart.id (marked marks seen)) }
unfolding kernel_step
resume_keeps h disk seen marks is =
    let told : Told SteppedKernel = made_by (ticked h) disk (Flat seen) in
    let same = released_answer told.answer told.world in
    let resumes : is_resume told.answer.ending ≡ true =
    ap (λ (a : SteppedKernel). is_resume a.ending) (sym same) ∙ is in
    ap (λ (t : Told SteppedKernel). released t.answer t.world) (made_keeps (ticked h) disk seen marks resumes)
    ∙ released_resume told.answer (marked marks seen) resumes
    ∙ ap (λ (a : SteppedKernel). let t : Told SteppedKernel =
    record { answer = a; world = Flat (unmarked a.hart.id (marked marks seen)) } in t) (sym same)
