-- Names that open definitions, so that a row of counts is computed.
use Rattle.std.proofs.Common.{refl}
use Rattle.rv_isa.specs.Table as table
use Rattle.cloak_base.specs.Pages as pages
use Rattle.cloak_base.specs.Registers as registers
use Rattle.cloak_model.specs.Ahead as ahead
use Rattle.cloak_model.specs.Cloaking as cloaking
use Rattle.cloak_model.specs.Effect as effect
use Rattle.cloak_model.specs.Csr as csr
use Rattle.cloak_model.specs.Hart as hart
use Rattle.cloak_model.specs.Walk as walk
use Rattle.cloak_model.specs.Ask as ask
use Rattle.cloak_model.specs.HartStep as hart_step
use Rattle.cloak_model.specs.HostCalls as host_calls
use Rattle.cloak_model.specs.Joint as joint
use Rattle.cloak_model.specs.KernelStep as kernel_step
use Rattle.cloak_model.specs.Opening as opening
use Rattle.cloak_model.specs.Run as run
use Rattle.cloak_model.specs.StepFrames as step_frames
use Rattle.shadow_fold.specs.Entries as entries
use Rattle.shadow_fold.specs.Events as events
use Rattle.shadow_fold.specs.Fold as fold
use Rattle.shadow_fold.specs.Rows.{SmallestRun, ThreeKinds}
use Rattle.shadow_fold.specs.Table as shadows

unfoldable counted_steps : Unit {0}
unfolding
    table.jalr_line table.branch_line table.load_line table.store_line table.op_imm_line table.op_line
    table.misc_mem_line table.privileged_line table.system_line table.instruction
    registers.zero_registers
    effect.effect csr.with_pending csr.csr_read csr.csr_write csr.trap_entry csr.trap_return csr.interrupt_due
    hart.started walk.first_leaf walk.second_leaf walk.first_word walk.second_word walk.walk walk.walk_tables
    ask.ask_word ask.ask_walk ask.ask_in_ram ask.ask_translate ask.ask_led
    ask.ask_count ask.ask_value ask.ask_store ask.loaded_at ask.ask_load ask.stored_to ask.ask_store_at
    ask.ask_frame ask.ask_fill hart_step.raised
    hart_step.csr_written hart_step.csr_found hart_step.csr_step hart_step.returned hart_step.idle hart_step.system
    host_calls.put_call host_calls.timer_call host_calls.halt_call host_calls.read_block host_calls.write_block
    host_calls.read_call host_calls.write_call host_calls.host_call host_calls.resumed host_calls.ecall_in
    host_calls.ecall kernel_step.carried_out kernel_step.instruction_step kernel_step.ticked kernel_step.released
    kernel_step.kernel_step
    cloaking.settle_owed cloaking.settle_if cloaking.settle
    step_frames.access_frames step_frames.transfer_frames step_frames.effect_frames step_frames.step_frames_after step_frames.step_frames
    ahead.settle_while ahead.settle_touched ahead.made_after ahead.settled_step
    opening.started_ledger
    joint.outside_ended joint.after_outside joint.outside_step joint.turn_of joint.ends_once joint.ends_resumed joint.ends_asked joint.answers_violation joint.joint_step
    run.turns_from
    pages.same_page pages.is_of
    entries.is_for entries.is_target entries.is_table entries.is_of_space
    events.after_step events.after_turns
    shadows.is_known shadows.looked shadows.ending shadows.emptied shadows.with_room shadows.born
    fold.part_holds fold.touched_where fold.touched fold.offered fold.after_event fold.after_events
counted_steps = tt

pub smallest_run : SmallestRun
unfolding counted_steps
smallest_run = refl

pub three_kinds : ThreeKinds
unfolding counted_steps
three_kinds = refl
