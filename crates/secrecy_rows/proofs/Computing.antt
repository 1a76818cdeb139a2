-- Names that open definitions, so that a row is computed: a row's `unfolding` line has one or two of these. Of the
-- digest nothing is opened.
use Rattle.rv_isa.specs.Table as table
use Rattle.rv_atomic.specs.Table as atomic_table
use Rattle.rv_atomic.specs.Combine as combine
use Rattle.cloak_base.specs.Registers as registers
use Rattle.cloak_base.specs.Pages as pages
use Rattle.cloak_base.specs.Random as random
use Rattle.cloak_model.specs.Effect as effect
use Rattle.cloak_model.specs.Csr as csr
use Rattle.cloak_model.specs.Hart as hart
use Rattle.cloak_model.specs.Walk as walk
use Rattle.cloak_model.specs.Ask as ask
use Rattle.cloak_model.specs.HartStep as hart_step
use Rattle.cloak_model.specs.HostCalls as host_calls
use Rattle.cloak_model.specs.KernelStep as kernel_step
use Rattle.cloak_model.specs.Resources as resources
use Rattle.cloak_model.specs.Contexts as contexts
use Rattle.cloak_model.specs.Calls as calls
use Rattle.cloak_model.specs.Files as files
use Rattle.cloak_model.specs.Fork as fork
use Rattle.cloak_model.specs.AskPages as ask_pages
use Rattle.cloak_model.specs.InsideStep as inside_step
use Rattle.cloak_model.specs.Hypercalls as hypercalls
use Rattle.cloak_model.specs.DomainState as domain_state
use Rattle.cloak_model.specs.DomainStep as domain_step
use Rattle.cloak_model.specs.Ending as ending
use Rattle.cloak_model.specs.Cloaking as cloaking
use Rattle.cloak_model.specs.PageMoves as page_moves
use Rattle.cloak_model.specs.StepFrames as step_frames
use Rattle.cloak_model.specs.Ahead as ahead
use Rattle.cloak_model.specs.Leaving as leaving
use Rattle.cloak_model.specs.Resuming as resuming
use Rattle.cloak_model.specs.Opening as opening
use Rattle.cloak_model.specs.Joint as joint
use Rattle.cloak_model.specs.Run as run
use Rattle.cloak_model.specs.Exchange as exchange
use Rattle.cloak_model.specs.Shape as shapes
use Rattle.cloak_model.specs.BlindRuns as blind
use Rattle.cloak_model.specs.SealedRuns as sealed

-- which instruction a word is, and what an atomic memory operation stores
unfoldable pub instructions : Unit {0}
unfolding
    table.jalr_line table.branch_line table.load_line table.store_line table.op_imm_line table.op_line
    table.misc_mem_line table.privileged_line table.system_line table.instruction atomic_table.operation
    atomic_table.atomic_instruction combine.combined
instructions = tt

-- the plain step of a hart
unfoldable pub plain_steps : Unit {0}
unfolding
    instructions registers.zero_registers
    effect.effect csr.with_pending csr.csr_read csr.csr_write csr.trap_entry csr.trap_return csr.interrupt_due
    hart.started walk.first_leaf walk.second_leaf walk.first_word walk.second_word walk.walk walk.walk_tables
    ask.ask_word ask.ask_walk ask.ask_in_ram ask.ask_translate
    ask.ask_led ask.ask_count ask.ask_value ask.ask_store ask.loaded_at ask.ask_load ask.stored_to
    ask.ask_store_at ask.ask_mark ask.ask_unmark ask.ask_marked ask.reserved_at ask.ask_reserve ask.stored_if
    ask.conditional_at ask.ask_store_conditional ask.combined_at ask.ask_combine ask.ask_frame ask.ask_fill
    ask.ask_settled hart_step.raised hart_step.csr_written hart_step.csr_found hart_step.csr_step hart_step.returned hart_step.idle hart_step.system
    host_calls.put_call host_calls.timer_call host_calls.halt_call host_calls.read_block host_calls.write_block
    host_calls.read_call host_calls.write_call host_calls.host_call host_calls.resumed host_calls.ecall_in
    host_calls.ecall kernel_step.carried_out kernel_step.atomic_access kernel_step.atomic_executed
    kernel_step.instruction_step kernel_step.ticked kernel_step.released kernel_step.kernel_step
plain_steps = tt

-- the step of a cloaked program but for its reaching of pages
unfoldable pub told_steps : Unit {0}
unfolding
    instructions registers.zero_registers pages.same_page pages.is_of effect.effect resources.lookup resources.page_at
    resources.started_resources resources.made_at resources.new_resource resources.mapped resources.map_region
    resources.unmap_region resources.drop_space contexts.started_contexts contexts.resume_if contexts.resume_at
    contexts.shown contexts.admit calls.begin_call calls.copy_in_step calls.copy_out_step calls.finish_call
    files.file_found files.file_resource fork.fork_fits fork.forked_resources fork.forked fork.copy_each
    fork.fork fork.forget_each fork.end_context
    ask_pages.replies ask_pages.if_drawn ask_pages.ask_led_inside ask_pages.offered_by ask_pages.ask_offer
    ask_pages.reached ask_pages.reach_by_table ask_pages.get_at ask_pages.got ask_pages.get_by_table ask_pages.put_at
    ask_pages.stored_inside ask_pages.put_by_table ask_pages.settled_if_marked ask_pages.clear_from
    ask_pages.next_answer ask_pages.ask_read ask_pages.ask_write ask_pages.ask_get ask_pages.ask_put
    ask_pages.ask_clear ask_pages.ask_copy ask_pages.ask_forget inside_step.load_inside inside_step.store_inside
    inside_step.atomic_granted inside_step.atomic_placed inside_step.atomic_inside inside_step.system_inside
    inside_step.done_inside inside_step.decoded_inside inside_step.fetch inside_step.instruction_inside
    hypercalls.remapped hypercalls.new_call hypercalls.map_call hypercalls.unmap_call hypercalls.file_call
    hypercalls.thread_at hypercalls.thread_call hypercalls.fork_told hypercalls.fork_call hypercalls.end_told
    hypercalls.exit_call hypercalls.call_begun hypercalls.kernel_call hypercalls.hypercall
    domain_state.started_control domain_state.started_domain domain_step.instruction_ended domain_step.copy_ended
    domain_step.phase_step domain_step.step_if domain_step.domain_script domain_step.domain_step
    domain_step.interrupt_if domain_step.interrupt domain_step.answer_in domain_step.answer_taken
    domain_step.resume_told domain_step.resume_slot
told_steps = tt

-- the step of a cloaked program
unfoldable pub program_steps : Unit {0}
unfolding told_steps ask_pages.ask_reach
program_steps = tt

-- a joint run but for what is compared in offers
unfoldable pub joint_steps : Unit {0}
unfolding
    plain_steps told_steps random.next_draw random.numbered cloaking.settle_owed cloaking.settle_if cloaking.settle
    cloaking.unless_missed page_moves.place_with page_moves.place
    page_moves.copy_pages page_moves.drop_pages step_frames.access_frames step_frames.transfer_frames step_frames.effect_frames
    step_frames.step_frames_after step_frames.step_frames ahead.settle_while ahead.settle_touched ahead.made_after ahead.settled_step
    leaving.shown_registers leaving.leave resuming.resume
    opening.started_ledger opening.started_kernel opening.started_memory opening.started_joint opening.opened_with
    opening.opened_by opening.drawn_keys joint.outside_ended joint.after_outside joint.outside_step joint.domain_ended
    joint.after_domain_step joint.interrupt_ended joint.after_interrupt joint.by_interrupt joint.by_running
    joint.inside_step joint.turn_of ending.settled_for ending.ask_end ending.ended_domain joint.end_domain
    joint.ends_once joint.ends_resumed joint.ends_asked joint.answers_violation joint.joint_step run.turns_from run.joint_after run.last_stop run.settled_below run.closing
    run.run_of run.turns_pieces run.due exchange.item_bytes exchange.steps_items
joint_steps = tt

-- a joint run: opening, steps, closing
unfoldable pub joint_runs : Unit {0}
unfolding joint_steps program_steps cloaking.compared cloaking.offer
joint_runs = tt

-- a run under a seal, and the shapes of its steps
unfoldable pub sealed_runs : Unit {0}
unfolding joint_runs pages.zero_page shapes.shape blind.moment_on sealed.opened_under
sealed_runs = tt
