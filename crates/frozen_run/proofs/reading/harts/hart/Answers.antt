use Rattle.std.proofs.Common.{◌∙◌}
use Rattle.std.proofs.lemmas.Result.{err_from_is_err_and}
use Rattle.cloak_model.specs.Fields.{first_of, first_in}
use Rattle.frozen_state.specs.FrozenFault.{regs_from, hart_fields}
use Rattle.field_facts.proofs.Firsts.{fault_found}
use Rattle.frozen_run.proofs.Steps.{mode_fault, pc_fault, timer_fault, inside_fault, reg_faults, csr_faults, mark_fault, word_faults, hart_split, IsFrontRead, after_mode_read, after_pc_read, after_timer_read, after_inside_read, after_registers_read, after_csrs_read}
use Rattle.frozen_run.proofs.reading.harts.hart.Goals as goal

pub returns-in_err-mode-clause-fault : goal.returns-in_err-mode-clause-fault
returns-in_err-mode-clause-fault c =
    let p = err_from_is_err_and c.from_residual.result c.from_residual.ensures.1 in
    let body = c.args.body.now in
    let at = c.args.at in
    let frames = c.args.frames in
    rw (p.1, p.2) (fault_found (mode_fault body at)
    (first_of (pc_fault body at) (first_of (timer_fault body at)
    (first_of (inside_fault body at) (word_faults body frames (regs_from body at)))))
    (first_in body (hart_fields body frames at)) c.in_err-mode.field-0.0 c.in_err-mode.ensures.fault
    (hart_split body frames at))

pub returns-in_err-pc-clause-fault : goal.returns-in_err-pc-clause-fault
returns-in_err-pc-clause-fault c =
    let p = err_from_is_err_and c.from_residual-in_err-pc.result c.from_residual-in_err-pc.ensures.1 in
    let body = c.args.body.now in
    let at = c.args.at in
    let frames = c.args.frames in
    rw (p.1, p.2) (fault_found (pc_fault body at)
    (first_of (timer_fault body at) (first_of (inside_fault body at) (word_faults body frames (regs_from body at))))
    (first_in body (hart_fields body frames at)) c.in_err-pc.field-0.0 c.in_err-pc.ensures.fault
    (after_mode_read body frames at c.in_ok-mode.ensures.fault))

pub returns-in_err-timer-clause-fault : goal.returns-in_err-timer-clause-fault
returns-in_err-timer-clause-fault c =
    let p = err_from_is_err_and c.from_residual-in_err-timer.result c.from_residual-in_err-timer.ensures.1 in
    let body = c.args.body.now in
    let at = c.args.at in
    let frames = c.args.frames in
    rw (p.1, p.2) (fault_found (timer_fault body at)
    (first_of (inside_fault body at) (word_faults body frames (regs_from body at)))
    (first_in body (hart_fields body frames at)) c.in_err-timer.field-0.0 c.in_err-timer.ensures.fault
    (after_pc_read body frames at c.in_ok-mode.ensures.fault c.in_ok-pc.ensures.fault))

pub returns-in_err-inside-clause-fault : goal.returns-in_err-inside-clause-fault
returns-in_err-inside-clause-fault c =
    let p = err_from_is_err_and c.from_residual-in_err-inside.result c.from_residual-in_err-inside.ensures.1 in
    let body = c.args.body.now in
    let at = c.args.at in
    let frames = c.args.frames in
    rw (p.1, p.2) (fault_found (inside_fault body at) (word_faults body frames (regs_from body at))
    (first_in body (hart_fields body frames at)) c.in_err-inside.field-0.0 c.in_err-inside.ensures.fault
    (after_timer_read body frames at c.in_ok-mode.ensures.fault c.in_ok-pc.ensures.fault c.in_ok-timer.ensures.fault))

pub returns-in_err-regs-clause-fault : goal.returns-in_err-regs-clause-fault
returns-in_err-regs-clause-fault c =
    let p = err_from_is_err_and c.from_residual-in_err-regs.result c.from_residual-in_err-regs.ensures.1 in
    let body = c.args.body.now in
    let at = c.args.at in
    let frames = c.args.frames in
    let words = c.in_ok-inside.words in
    let front : IsFrontRead body at words = record {
      mode = c.in_ok-mode.ensures.fault;
      pc = c.in_ok-pc.ensures.fault;
      timer = c.in_ok-timer.ensures.fault;
      inside = c.in_ok-inside.ensures.fault;
      words_are = c.in_ok-inside.ensures.next;
    } in
    rw (p.1, p.2) (fault_found (reg_faults body words) (first_of (csr_faults body words) (mark_fault body frames words))
    (first_in body (hart_fields body frames at)) c.in_err-regs.field-0.0 c.in_err-regs.ensures.fault
    (after_inside_read body frames at words front))

pub returns-in_err-csrs-clause-fault : goal.returns-in_err-csrs-clause-fault
returns-in_err-csrs-clause-fault c =
    let p = err_from_is_err_and c.from_residual-in_err-csrs.result c.from_residual-in_err-csrs.ensures.1 in
    let body = c.args.body.now in
    let at = c.args.at in
    let frames = c.args.frames in
    let words = c.in_ok-inside.words in
    let front : IsFrontRead body at words = record {
      mode = c.in_ok-mode.ensures.fault;
      pc = c.in_ok-pc.ensures.fault;
      timer = c.in_ok-timer.ensures.fault;
      inside = c.in_ok-inside.ensures.fault;
      words_are = c.in_ok-inside.ensures.next;
    } in
    rw (p.1, p.2) (fault_found (csr_faults body words) (mark_fault body frames words)
    (first_in body (hart_fields body frames at)) c.in_err-csrs.field-0.0 c.in_err-csrs.ensures.fault
    (after_registers_read body frames at words front c.in_ok-regs.ensures.fault))

pub returns-in_err-mark-clause-fault : goal.returns-in_err-mark-clause-fault
returns-in_err-mark-clause-fault c =
    let p = err_from_is_err_and c.from_residual-in_err-mark.result c.from_residual-in_err-mark.ensures.1 in
    let body = c.args.body.now in
    let words = c.in_ok-inside.words in
    let front : IsFrontRead body c.args.at words = record {
      mode = c.in_ok-mode.ensures.fault;
      pc = c.in_ok-pc.ensures.fault;
      timer = c.in_ok-timer.ensures.fault;
      inside = c.in_ok-inside.ensures.fault;
      words_are = c.in_ok-inside.ensures.next;
    } in
    rw (p.1, p.2) (c.in_err-mark.ensures.fault ∙ after_csrs_read body c.args.frames c.args.at words front
    c.in_ok-regs.ensures.fault c.in_ok-csrs.ensures.fault)

pub returns-clause-fault : goal.returns-clause-fault
returns-clause-fault c =
    let body = c.args.body.now in
    let words = c.in_ok-inside.words in
    let front : IsFrontRead body c.args.at words = record {
      mode = c.in_ok-mode.ensures.fault;
      pc = c.in_ok-pc.ensures.fault;
      timer = c.in_ok-timer.ensures.fault;
      inside = c.in_ok-inside.ensures.fault;
      words_are = c.in_ok-inside.ensures.next;
    } in
    c.in_ok-mark.ensures.fault ∙ after_csrs_read body c.args.frames c.args.at words front c.in_ok-regs.ensures.fault
    c.in_ok-csrs.ensures.fault
