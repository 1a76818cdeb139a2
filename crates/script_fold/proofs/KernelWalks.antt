-- What each change of a world keeps, a plain step of a hart keeps.
use Rattle.std.proofs.Common.{ℕ, ◌%◌, Bool, true, false, cond, List, Option, Some, None, Result, Ok, Err}
use Rattle.std.specs.Prelude.{◌==◌, not}
use Rattle.cloak_base.specs.Constants.{frame_of}
use Rattle.cloak_base.specs.Registers.{register}
use Rattle.cloak_base.specs.declared.names.Kind.TheVariants.{Fetch, Load, Store}
use Rattle.cloak_base.specs.declared.names.Mode.{Mode}
use Rattle.cloak_base.specs.declared.names.Mode.TheVariants.{U, S}
use Rattle.rv_isa.specs.Table.{instruction}
use Rattle.rv_isa.specs.declared.instr.Instr.{Instr}
use Rattle.rv_atomic.specs.Table.{atomic_instruction}
use Rattle.rv_atomic.specs.declared.atomic.Atomic.{Atomic}
use Rattle.rv_atomic.specs.declared.atomic.AtomicOp.{AtomicOp}
use Rattle.rv_atomic.specs.declared.atomic.AtomicOp.TheVariants.{Lr, Sc}
use Rattle.cloak_model.specs.declared.access.Access.{Access}
use Rattle.cloak_model.specs.declared.access.Walked.{Walked}
use Rattle.cloak_model.specs.declared.outcome.Effect.{Effect}
use Rattle.cloak_model.specs.declared.outcome.Effect.TheVariants as does
use Rattle.cloak_model.specs.Ask.{ask_value, ask_store, loaded_at, ask_load, stored_to, ask_store_at, reserved_at, ask_reserve, stored_if, conditional_at, ask_store_conditional, combined_at, ask_combine, ask_count, ask_frame, ask_fill, ask_mark, ask_unmark, ask_marked, opened}
use Rattle.cloak_model.specs.Asking.{Asking, then_ask}
use Rattle.cloak_model.specs.Csr.{satp_of, interrupt_due}
use Rattle.cloak_model.specs.Effect.{flag, effect}
use Rattle.cloak_model.specs.Hart.{Hart}
use Rattle.cloak_model.specs.HartStep.{with_word, gone_on, stays, raised, system}
use Rattle.cloak_model.specs.HostCalls.{SteppedKernel, ends, block_at, is_transfer, read_block, write_block, read_call, write_call, host_call, ecall_in, ecall}
use Rattle.cloak_model.specs.KernelStep.{access, extended, misaligned, is_ecall, or_trap, carried_out, atomic_access, atomic_executed, executed, instruction_step, ticked, ends_reservation, released, kernel_step}
use Rattle.cloak_model.specs.Memory.{with_mark}
use Rattle.cloak_model.specs.Walk.{Walk}
use Rattle.cloak_model.specs.World.{World, marks_of, with_marks, settled, stored_at, filled_frame}
use Rattle.script_fold.proofs.Questions.{Opens, keeps_either, keeps_led}

-- What a plain step makes of a world.
pub record Reaches (R : World → World → Type 0) : Type 0 where
  pub opens : Opens R
  pub stored_at : (pa width value : ℕ) (w : World) → R w (stored_at pa width value w)
  pub marked : (hart : ℕ) (mark : Option ℕ) (w : World) → R w (with_marks (with_mark hart mark (marks_of w)) w)
  pub filled : (f : ℕ) (bytes : List ℕ) (w : World) → R w (filled_frame f bytes w)

module _ (R : World → World → Type 0) (k : Reaches R) where
  nothing : (w : World) → R w w
  nothing = k.opens.settles.same

  and_then : (u v w : World) → R u v → R v w → R u w
  and_then = k.opens.settles.chained

  AsksIn : {A : Type 0} → Asking A → Type 0
  AsksIn ask = (w : World) → R w (ask w).world

  then_kept : {A B : Type 0} (ask : Asking A) (next : A → Asking B) (w : World) → R w (ask w).world →
      ((a : A) (v : World) → R v (next a v).world) → R w (then_ask ask next w).world
  then_kept ask next w here more = and_then _ _ _ here (more (ask w).answer (ask w).world)

  -- words of memory

  value_kept : (satp : ℕ) (a : Access) (walked : Walked) (width : ℕ) (w : World) → R w (ask_value satp a walked width w).world
  unfolding ask_value
  value_kept satp a walked width w = and_then _ _ _ (k.opens.opened satp a walked w) (k.opens.read _ _)

  store_kept : (satp : ℕ) (a : Access) (walked : Walked) (width value : ℕ) (w : World) →
      R w (ask_store satp a walked width value w).world
  unfolding ask_store
  store_kept satp a walked width value w =
      and_then _ _ _ (k.opens.opened satp a walked w) (k.stored_at walked.pa width value (opened satp a walked w))

  loaded_kept : (satp : ℕ) (a : Access) (width : ℕ) (to : Walk) (w : World) →
      R w (loaded_at satp a width to w).world
  unfolding loaded_at
  loaded_kept satp a width (Err cause) w = nothing w
  loaded_kept satp a width (Ok walked) w = value_kept satp a walked width w

  load_kept : (satp : ℕ) (a : Access) (width : ℕ) (w : World) → R w (ask_load satp a width w).world
  unfolding ask_load
  load_kept satp a width w = and_then _ _ _ (keeps_led R k.opens satp a w) (loaded_kept satp a width _ _)

  stored_kept : (satp : ℕ) (a : Access) (width value : ℕ) (to : Walk) (w : World) →
      R w (stored_to satp a width value to w).world
  unfolding stored_to
  stored_kept satp a width value (Err cause) w = nothing w
  stored_kept satp a width value (Ok walked) w = store_kept satp a walked width value w

  store_at_kept : (satp : ℕ) (a : Access) (width value : ℕ) (w : World) →
      R w (ask_store_at satp a width value w).world
  unfolding ask_store_at
  store_at_kept satp a width value w = and_then _ _ _ (keeps_led R k.opens satp a w) (stored_kept satp a width value _ _)

  mark_kept : (hart pa : ℕ) (w : World) → R w (ask_mark hart pa w).world
  unfolding ask_mark
  mark_kept hart pa w = k.marked hart (Some pa) w

  unmark_kept : (hart : ℕ) (w : World) → R w (ask_unmark hart w).world
  unfolding ask_unmark
  unmark_kept hart w = k.marked hart None w

  reserved_kept : (satp : ℕ) (a : Access) (hart : ℕ) (to : Walk) (w : World) →
      R w (reserved_at satp a hart to w).world
  unfolding reserved_at
  reserved_kept satp a hart (Err cause) w = nothing w
  reserved_kept satp a hart (Ok walked) w = and_then _ _ _ (value_kept satp a walked 4 w) (mark_kept hart walked.pa _)

  reserve_kept : (satp : ℕ) (a : Access) (hart : ℕ) (w : World) → R w (ask_reserve satp a hart w).world
  unfolding ask_reserve
  reserve_kept satp a hart w = and_then _ _ _ (keeps_led R k.opens satp a w) (reserved_kept satp a hart _ _)

  if_kept : (b : Bool) (hart pa value : ℕ) (w : World) → R w (stored_if b hart pa value w).world
  unfolding stored_if
  if_kept true hart pa value w = and_then _ _ _ (k.stored_at pa 4 value w) (unmark_kept hart _)
  if_kept false hart pa value w = unmark_kept hart w

  conditional_kept : (satp : ℕ) (a : Access) (hart value : ℕ) (to : Walk) (w : World) →
      R w (conditional_at satp a hart value to w).world
  unfolding conditional_at ask_marked
  conditional_kept satp a hart value (Err cause) w = nothing w
  conditional_kept satp a hart value (Ok walked) w = and_then _ _ _ (value_kept satp a walked 4 w) (if_kept _ hart walked.pa value _)

  store_conditional_kept : (satp : ℕ) (a : Access) (hart value : ℕ) (w : World) →
      R w (ask_store_conditional satp a hart value w).world
  unfolding ask_store_conditional
  store_conditional_kept satp a hart value w =
      and_then _ _ _ (keeps_led R k.opens satp a w) (conditional_kept satp a hart value _ _)

  combined_kept : (satp : ℕ) (a : Access) (op : AtomicOp) (operand : ℕ) (to : Walk) (w : World) →
      R w (combined_at satp a op operand to w).world
  unfolding combined_at
  combined_kept satp a op operand (Err cause) w = nothing w
  combined_kept satp a op operand (Ok walked) w = and_then _ _ _ (value_kept satp a walked 4 w) (k.stored_at walked.pa 4 _ _)

  combine_kept : (satp : ℕ) (a : Access) (op : AtomicOp) (operand : ℕ) (w : World) →
      R w (ask_combine satp a op operand w).world
  unfolding ask_combine
  combine_kept satp a op operand w = and_then _ _ _ (keeps_led R k.opens satp a w) (combined_kept satp a op operand _ _)

  -- host calls

  frame_kept : (f : ℕ) (w : World) → R w (ask_frame f w).world
  unfolding ask_frame
  frame_kept f w = and_then _ _ _ (k.opens.settles.settled f w) (k.opens.read f _)

  fill_kept : (f : ℕ) (bytes : List ℕ) (w : World) → R w (ask_fill f bytes w).world
  unfolding ask_fill
  fill_kept f bytes w = and_then _ _ _ (k.opens.settles.settled f w) (k.filled f bytes (settled f w))

  read_block_kept : (h : Hart) (disk : List ℕ) (frames : ℕ) (w : World) → R w (read_block h disk frames w).world
  unfolding read_block
  read_block_kept h disk frames w =
      keeps_either R (is_transfer frames disk (register h.regs 10) (register h.regs 11)) _ _ w
      (fill_kept (frame_of (register h.regs 11)) (block_at disk (register h.regs 10)) w) (nothing w)

  write_block_kept : (h : Hart) (disk : List ℕ) (frames : ℕ) (w : World) → R w (write_block h disk frames w).world
  unfolding write_block
  write_block_kept h disk frames w =
      keeps_either R (is_transfer frames disk (register h.regs 10) (register h.regs 11)) _ _ w
      (frame_kept (frame_of (register h.regs 11)) w) (nothing w)

  read_call_kept : (h : Hart) (disk : List ℕ) (w : World) → R w (read_call h disk w).world
  unfolding read_call ask_count
  read_call_kept h disk w = read_block_kept h disk _ w

  write_call_kept : (h : Hart) (disk : List ℕ) (w : World) → R w (write_call h disk w).world
  unfolding write_call ask_count
  write_call_kept h disk w = write_block_kept h disk _ w

  host_call_kept : (h : Hart) (disk : List ℕ) (w : World) → R w (host_call h disk w).world
  unfolding host_call
  host_call_kept h disk w =
      keeps_either R (register h.regs 17 == 0) _ _ w (nothing w)
      (keeps_either R (register h.regs 17 == 1) _ _ w (nothing w)
      (keeps_either R (register h.regs 17 == 2) _ _ w (read_call_kept h disk w)
      (keeps_either R (register h.regs 17 == 3) _ _ w (write_call_kept h disk w)
      (keeps_either R (register h.regs 17 == 4) _ _ w (nothing w) (nothing w)))))

  ecall_in_kept : (mode : Mode) (h : Hart) (disk : List ℕ) (w : World) → R w (ecall_in mode h disk w).world
  unfolding ecall_in
  ecall_in_kept U h disk w = nothing w
  ecall_in_kept S h disk w = host_call_kept h disk w

  ecall_kept : (h : Hart) (disk : List ℕ) (w : World) → R w (ecall h disk w).world
  unfolding ecall
  ecall_kept h disk w =
      keeps_either R (register h.regs 17 == 0x4F560000) _ _ w (nothing w) (ecall_in_kept h.mode h disk w)

  -- instructions

  trap_kept : {A : Type 0} (h : Hart) (disk : List ℕ) (va : ℕ) (found : Result A ℕ) (next : A → Asking SteppedKernel)
      (w : World) → ((a : A) → R w (next a w).world) → R w (or_trap h disk va found next w).world
  trap_kept h disk va (Err cause) next w more = nothing w
  trap_kept h disk va (Ok a) next w more = more a

  asked_kept : {A : Type 0} (ask : Asking (Result A ℕ)) (h : Hart) (disk : List ℕ) (va : ℕ)
      (next : A → Asking SteppedKernel) (w : World) → R w (ask w).world → ((a : A) (v : World) → R v (next a v).world) →
      R w (then_ask ask (λ (found : Result A ℕ). or_trap h disk va found next) w).world
  asked_kept ask h disk va next w here more =
      and_then _ _ _ here
      (trap_kept h disk va (ask w).answer next (ask w).world (λ a. more a (ask w).world))

  ends_kept : (disk : List ℕ) (w : World) (b : Bool) (f g : Asking SteppedKernel) → R w (f w).world → R w (g w).world →
      R w (cond b f g w).world
  ends_kept disk w true f g here there = here
  ends_kept disk w false f g here there = there

  carried_kept : (h : Hart) (disk : List ℕ) (word : ℕ) (i : Instr) (e : Effect) (w : World) →
      R w (carried_out h disk word i e w).world
  unfolding carried_out
  carried_kept h disk word i (does.Write rd value) w = nothing w
  carried_kept h disk word i (does.Jump rd link target) w = nothing w
  carried_kept h disk word i (does.Go target) w = nothing w
  carried_kept h disk word i (does.Load rd va width is_signed) w =
      asked_kept (ask_load (satp_of h.csrs) (access h Load va) width) h disk va
      (λ value. ends disk (stays (gone_on (with_word h rd (extended is_signed width value))))) w
      (load_kept (satp_of h.csrs) (access h Load va) width w) (λ value v. nothing v)
  carried_kept h disk word i (does.Store va width value) w =
      asked_kept (ask_store_at (satp_of h.csrs) (access h Store va) width value) h disk va
      (λ done. ends disk (stays (gone_on h))) w
      (store_at_kept (satp_of h.csrs) (access h Store va) width value w) (λ done v. nothing v)
  carried_kept h disk word i does.System w =
      ends_kept disk w (is_ecall i) (ecall h disk) (ends disk (system h word i)) (ecall_kept h disk w) (nothing w)
  carried_kept h disk word i does.Nothing w = nothing w
  carried_kept h disk word i (does.Raise cause value) w = nothing w

  combine_step_kept : (h : Hart) (disk : List ℕ) (rd : ℕ) (op : AtomicOp) (va operand : ℕ) (w : World) →
      let done : ℕ → Asking SteppedKernel = λ old. ends disk (stays (gone_on (with_word h rd old))) in
      R w (then_ask (ask_combine (satp_of h.csrs) (access h Store va) op operand)
      (λ (found : Result ℕ ℕ). or_trap h disk va found done) w).world
  combine_step_kept h disk rd op va operand w =
      asked_kept (ask_combine (satp_of h.csrs) (access h Store va) op operand) h disk va
      (λ old. ends disk (stays (gone_on (with_word h rd old)))) w
      (combine_kept (satp_of h.csrs) (access h Store va) op operand w) (λ old v. nothing v)

  atomic_access_kept : (h : Hart) (disk : List ℕ) (a : Atomic) (op : AtomicOp) (va operand : ℕ) (w : World) →
      R w (atomic_access h disk a op va operand w).world
  unfolding atomic_access
  atomic_access_kept h disk a Lr va operand w =
      asked_kept (ask_reserve (satp_of h.csrs) (access h Load va) h.id) h disk va
      (λ value. ends disk (stays (gone_on (with_word h a.rd value)))) w
      (reserve_kept (satp_of h.csrs) (access h Load va) h.id w) (λ value v. nothing v)
  atomic_access_kept h disk a Sc va operand w =
      asked_kept (ask_store_conditional (satp_of h.csrs) (access h Store va) h.id operand) h disk va
      (λ is_stored. ends disk (stays (gone_on (with_word h a.rd (flag (not is_stored)))))) w
      (store_conditional_kept (satp_of h.csrs) (access h Store va) h.id operand w) (λ is_stored v. nothing v)
  atomic_access_kept h disk a op va operand w = combine_step_kept h disk a.rd op va operand w

  atomic_kept : (h : Hart) (disk : List ℕ) (word : ℕ) (o : Option Atomic) (w : World) →
      R w (atomic_executed h disk word o w).world
  unfolding atomic_executed
  atomic_kept h disk word None w = nothing w
  atomic_kept h disk word (Some a) w =
      let va = register h.regs a.rs1 in
      ends_kept disk w (va % 4 == 0) (atomic_access h disk a a.op va (register h.regs a.rs2))
      (ends disk (raised h (misaligned a.op) va))
      (atomic_access_kept h disk a a.op va (register h.regs a.rs2) w) (nothing w)

  executed_kept : (h : Hart) (disk : List ℕ) (word : ℕ) (o : Option Instr) (w : World) →
      R w (executed h disk word o w).world
  executed_kept h disk word None w = atomic_kept h disk word (atomic_instruction word) w
  executed_kept h disk word (Some i) w = carried_kept h disk word i (effect i h.regs h.pc) w

  instruction_kept : (h : Hart) (disk : List ℕ) (w : World) → R w (instruction_step h disk w).world
  unfolding instruction_step
  instruction_kept h disk w =
      asked_kept (ask_load (satp_of h.csrs) (access h Fetch h.pc) 4) h disk h.pc
      (λ word. executed h disk word (instruction word)) w (load_kept (satp_of h.csrs) (access h Fetch h.pc) 4 w)
      (λ word v. executed_kept h disk word (instruction word) v)

  released_kept : (made : SteppedKernel) (w : World) → R w (released made w).world
  unfolding released
  released_kept made w =
      keeps_either R (ends_reservation made.ending) _ _ w (unmark_kept made.hart.id w) (nothing w)

  pub kernel_keeps : (h : Hart) (disk : List ℕ) (w : World) → R w (kernel_step h disk w).world
  unfolding kernel_step
  kernel_keeps h disk w =
      let h' : Hart = ticked h in
      let made : Asking SteppedKernel =
      cond (interrupt_due h'.mode h'.csrs) (ends disk (raised h' 0x80000005 0)) (instruction_step h' disk) in
      then_kept made released w
      (ends_kept disk w (interrupt_due h'.mode h'.csrs) (ends disk (raised h' 0x80000005 0)) (instruction_step h' disk)
      (nothing w) (instruction_kept h' disk w))
      (λ a v. released_kept a v)
