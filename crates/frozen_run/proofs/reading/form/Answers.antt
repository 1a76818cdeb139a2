use Rattle.std.proofs.Common.{◌≡◌, ◌≢◌, ◌∙◌, ℕ, ◌+◌, ◌*◌, length, take, drop, Some, None, sym, ap, subst}
use Rattle.std.proofs.lemmas.Result.{err_from_is_err_and}
use Rattle.cloak_model.specs.Fields.{first_of, first_in, fault_in, number, after_parts}
use Rattle.frozen_state.specs.declared.fault.FrozenFault.TheVariants.{NoMemory}
use Rattle.frozen_state.specs.FrozenFault.{any_in, header, after_hart, after_frame, recorded_fields, harts_from, disk_from, frames_from, count_at, form_fault}
use Rattle.field_facts.proofs.Firsts.{fault_found}
use Rattle.frozen_run.specs.Reading.{values, hart_in, frame_in, recorded_in, after_recorded, frozen_in}
use Rattle.frozen_run.proofs.Steps.{domain_faults, hart_faults, disk_fault, frame_faults, count_fault, recorded_faults, end_fault, from_count, from_frames, from_disk, from_harts, from_domains, form_split, FrontIsRead, FramesAreRead, after_header_read, after_domains_read, after_harts_read, after_disk_read, after_frames_read, after_count_read, after_recorded_read, told_wrong, end_wrong, end_right}
use Rattle.frozen_run.proofs.reading.form.Goals as goal

pub returns-in_err-h-clause-fault : goal.returns-in_err-h-clause-fault
returns-in_err-h-clause-fault c =
    let p = err_from_is_err_and c.from_residual.result c.from_residual.ensures.1 in
    let body = c.args.body.now in
    let k = c.args.k.now in
    let programs = c.args.programs in
    rw (p.1, p.2) (λ other. sym (fault_found (first_in body (header body)) (from_domains body k programs)
    (form_fault body k programs) c.in_err-h.field-0.0 c.in_err-h.ensures.fault (form_split body k programs)))

pub returns-in_err-domains-clause-fault : goal.returns-in_err-domains-clause-fault
returns-in_err-domains-clause-fault c =
    let p = err_from_is_err_and c.from_residual-in_err-domains.result c.from_residual-in_err-domains.ensures.1 in
    let body = c.args.body.now in
    let k = c.args.k.now in
    let programs = c.args.programs in
    rw (p.1, p.2) (told_wrong (domain_faults body k programs) (from_harts body k programs (harts_from body programs))
    (form_fault body k programs) c.in_err-domains.field-0.0 c.in_err-domains.ensures.fault
    (after_header_read body k programs c.in_ok-h.ensures.fault))

pub returns-in_err-harts-clause-fault : goal.returns-in_err-harts-clause-fault
returns-in_err-harts-clause-fault c =
    let p = err_from_is_err_and c.from_residual-in_err-harts.result c.from_residual-in_err-harts.ensures.1 in
    let body = c.args.body.now in
    let k = c.args.k.now in
    let programs = c.args.programs in
    let at = c.in_ok-domains.at in
    rw (p.1, p.2) (told_wrong (hart_faults body k at) (from_disk body k programs (after_parts (after_hart body) k.harts at))
    (form_fault body k programs) c.in_err-harts.field-0.0 c.in_err-harts.ensures.fault
    (after_domains_read body k programs at c.in_ok-h.ensures.fault c.in_ok-domains.ensures.fault
    c.in_ok-domains.ensures.next))

pub returns-in_err-disk-clause-fault : goal.returns-in_err-disk-clause-fault
returns-in_err-disk-clause-fault c =
    let p = err_from_is_err_and c.from_residual-in_err-disk.result c.from_residual-in_err-disk.ensures.1 in
    let body = c.args.body.now in
    let k = c.args.k.now in
    let programs = c.args.programs in
    let at_harts = c.in_ok-domains.at in
    let at_disk = c.in_ok-harts.at in
    let blocks : ℕ = length c.as_slice-blocks.result.now in
    let blocks_are : blocks ≡ length k.disk = ap length c.as_slice-blocks.ensures in
    let front : FrontIsRead body k programs at_harts at_disk = record {
      header = c.in_ok-h.ensures.fault;
      domains = c.in_ok-domains.ensures.fault;
      harts_from_is = c.in_ok-domains.ensures.next;
      harts_are = c.in_ok-harts.ensures.fault;
      disk_from_is = c.in_ok-harts.ensures.next;
    } in
    let e = c.in_err-disk.field-0.0 in
    rw (p.1, p.2) (told_wrong (disk_fault body k at_disk) (from_frames body k programs (at_disk + length k.disk))
    (form_fault body k programs) e
    (subst (λ (n : ℕ). e ≢ NoMemory → fault_in body (any_in body at_disk n) ≡ Some e) blocks_are
    c.in_err-disk.ensures.fault) (after_harts_read body k programs at_harts at_disk front))

pub returns-in_err-frames-clause-fault : goal.returns-in_err-frames-clause-fault
returns-in_err-frames-clause-fault c =
    let p = err_from_is_err_and c.from_residual-in_err-frames.result c.from_residual-in_err-frames.ensures.1 in
    let body = c.args.body.now in
    let k = c.args.k.now in
    let programs = c.args.programs in
    let at_harts = c.in_ok-domains.at in
    let at_disk = c.in_ok-harts.at in
    let blocks : ℕ = length c.as_slice-blocks.result.now in
    let blocks_are : blocks ≡ length k.disk = ap length c.as_slice-blocks.ensures in
    let front : FrontIsRead body k programs at_harts at_disk = record {
      header = c.in_ok-h.ensures.fault;
      domains = c.in_ok-domains.ensures.fault;
      harts_from_is = c.in_ok-domains.ensures.next;
      harts_are = c.in_ok-harts.ensures.fault;
      disk_from_is = c.in_ok-harts.ensures.next;
    } in
    let disk_none : disk_fault body k at_disk ≡ None =
    subst (λ (n : ℕ). fault_in body (any_in body at_disk n) ≡ None) blocks_are c.in_ok-disk.ensures.fault in
    let e = c.in_err-frames.field-0.0 in
    let from : ℕ = at_disk + length k.disk in
    rw (p.1, p.2) (told_wrong (frame_faults body k programs from)
    (from_count body programs (after_parts (after_frame body) k.frames from)) (form_fault body k programs) e
    (subst (λ (n : ℕ). e ≢ NoMemory → frame_faults body k programs (at_disk + n) ≡ Some e) blocks_are
    c.in_err-frames.ensures.fault) (after_disk_read body k programs at_harts at_disk front disk_none))

pub returns-in_err-count-clause-fault : goal.returns-in_err-count-clause-fault
returns-in_err-count-clause-fault c =
    let p = err_from_is_err_and c.from_residual-in_err-count.result c.from_residual-in_err-count.ensures.1 in
    let body = c.args.body.now in
    let k = c.args.k.now in
    let programs = c.args.programs in
    let at_harts = c.in_ok-domains.at in
    let at_disk = c.in_ok-harts.at in
    let blocks : ℕ = length c.as_slice-blocks.result.now in
    let blocks_are : blocks ≡ length k.disk = ap length c.as_slice-blocks.ensures in
    let front : FrontIsRead body k programs at_harts at_disk = record {
      header = c.in_ok-h.ensures.fault;
      domains = c.in_ok-domains.ensures.fault;
      harts_from_is = c.in_ok-domains.ensures.next;
      harts_are = c.in_ok-harts.ensures.fault;
      disk_from_is = c.in_ok-harts.ensures.next;
    } in
    let disk_none : disk_fault body k at_disk ≡ None =
    subst (λ (n : ℕ). fault_in body (any_in body at_disk n) ≡ None) blocks_are c.in_ok-disk.ensures.fault in
    let count = c.in_ok-frames.at in
    let read : FramesAreRead body k programs at_harts at_disk count = record {
      front = front;
      disk_is = disk_none;
      frames_are = subst (λ (n : ℕ). frame_faults body k programs (at_disk + n) ≡ None) blocks_are
          c.in_ok-frames.ensures.fault;
      count_at_is = c.in_ok-frames.ensures.next
          ∙ ap (λ (n : ℕ). after_parts (after_frame body) k.frames (at_disk + n)) blocks_are;
    } in
    rw (p.1, p.2) (λ other. sym (fault_found (count_fault body count)
    (first_of (recorded_faults body programs count) (end_fault body count)) (form_fault body k programs)
    c.in_err-count.field-0.0 c.in_err-count.ensures.fault
    (after_frames_read body k programs at_harts at_disk count read)))

pub returns-in_err-recorded-clause-fault : goal.returns-in_err-recorded-clause-fault
returns-in_err-recorded-clause-fault c =
    let p = err_from_is_err_and c.from_residual-in_err-recorded.result c.from_residual-in_err-recorded.ensures.1 in
    let body = c.args.body.now in
    let k = c.args.k.now in
    let programs = c.args.programs in
    let at_harts = c.in_ok-domains.at in
    let at_disk = c.in_ok-harts.at in
    let blocks : ℕ = length c.as_slice-blocks.result.now in
    let blocks_are : blocks ≡ length k.disk = ap length c.as_slice-blocks.ensures in
    let front : FrontIsRead body k programs at_harts at_disk = record {
      header = c.in_ok-h.ensures.fault;
      domains = c.in_ok-domains.ensures.fault;
      harts_from_is = c.in_ok-domains.ensures.next;
      harts_are = c.in_ok-harts.ensures.fault;
      disk_from_is = c.in_ok-harts.ensures.next;
    } in
    let disk_none : disk_fault body k at_disk ≡ None =
    subst (λ (n : ℕ). fault_in body (any_in body at_disk n) ≡ None) blocks_are c.in_ok-disk.ensures.fault in
    let count = c.in_ok-frames.at in
    let read : FramesAreRead body k programs at_harts at_disk count = record {
      front = front;
      disk_is = disk_none;
      frames_are = subst (λ (n : ℕ). frame_faults body k programs (at_disk + n) ≡ None) blocks_are
          c.in_ok-frames.ensures.fault;
      count_at_is = c.in_ok-frames.ensures.next
          ∙ ap (λ (n : ℕ). after_parts (after_frame body) k.frames (at_disk + n)) blocks_are;
    } in
    let e = c.in_err-recorded.field-0.0 in
    rw (p.1, p.2) (told_wrong (recorded_faults body programs count) (end_fault body count) (form_fault body k programs) e
    (subst (λ (n : ℕ). e ≢ NoMemory → first_in body (recorded_fields body programs n None (count + 4)) ≡ Some e)
    c.in_ok-count.ensures.value c.in_err-recorded.ensures.fault)
    (after_count_read body k programs at_harts at_disk count read c.in_ok-count.ensures.fault))

pub returns-then-end-body-clause-fault : goal.returns-then-end-body-clause-fault
returns-then-end-body-clause-fault c =
    let body = c.args.body.now in
    let k = c.args.k.now in
    let programs = c.args.programs in
    let at_harts = c.in_ok-domains.at in
    let at_disk = c.in_ok-harts.at in
    let blocks : ℕ = length c.as_slice-blocks.result.now in
    let blocks_are : blocks ≡ length k.disk = ap length c.as_slice-blocks.ensures in
    let front : FrontIsRead body k programs at_harts at_disk = record {
      header = c.in_ok-h.ensures.fault;
      domains = c.in_ok-domains.ensures.fault;
      harts_from_is = c.in_ok-domains.ensures.next;
      harts_are = c.in_ok-harts.ensures.fault;
      disk_from_is = c.in_ok-harts.ensures.next;
    } in
    let disk_none : disk_fault body k at_disk ≡ None =
    subst (λ (n : ℕ). fault_in body (any_in body at_disk n) ≡ None) blocks_are c.in_ok-disk.ensures.fault in
    let count = c.in_ok-frames.at in
    let read : FramesAreRead body k programs at_harts at_disk count = record {
      front = front;
      disk_is = disk_none;
      frames_are = subst (λ (n : ℕ). frame_faults body k programs (at_disk + n) ≡ None) blocks_are
          c.in_ok-frames.ensures.fault;
      count_at_is = c.in_ok-frames.ensures.next
          ∙ ap (λ (n : ℕ). after_parts (after_frame body) k.frames (at_disk + n)) blocks_are;
    } in
    let end = c.in_ok-recorded.end in
    let end_is : end ≡ count + 4 + 60 * number body count =
    c.in_ok-recorded.ensures.next ∙ ap (λ (n : ℕ). count + 4 + 60 * n) c.in_ok-count.ensures.value in
    let recorded : recorded_faults body programs count ≡ None =
    subst (λ (n : ℕ). first_in body (recorded_fields body programs n None (count + 4)) ≡ None)
    c.in_ok-count.ensures.value c.in_ok-recorded.ensures.fault in
    λ other. sym (after_recorded_read body k programs at_harts at_disk count read c.in_ok-count.ensures.fault recorded)
    ∙ end_wrong body count end end_is c.if-end-body.true

pub returns-clause-fault : goal.returns-clause-fault
returns-clause-fault c =
    let body = c.args.body.now in
    let k = c.args.k.now in
    let programs = c.args.programs in
    let at_harts = c.in_ok-domains.at in
    let at_disk = c.in_ok-harts.at in
    let blocks : ℕ = length c.as_slice-blocks.result.now in
    let blocks_are : blocks ≡ length k.disk = ap length c.as_slice-blocks.ensures in
    let front : FrontIsRead body k programs at_harts at_disk = record {
      header = c.in_ok-h.ensures.fault;
      domains = c.in_ok-domains.ensures.fault;
      harts_from_is = c.in_ok-domains.ensures.next;
      harts_are = c.in_ok-harts.ensures.fault;
      disk_from_is = c.in_ok-harts.ensures.next;
    } in
    let disk_none : disk_fault body k at_disk ≡ None =
    subst (λ (n : ℕ). fault_in body (any_in body at_disk n) ≡ None) blocks_are c.in_ok-disk.ensures.fault in
    let count = c.in_ok-frames.at in
    let read : FramesAreRead body k programs at_harts at_disk count = record {
      front = front;
      disk_is = disk_none;
      frames_are = subst (λ (n : ℕ). frame_faults body k programs (at_disk + n) ≡ None) blocks_are
          c.in_ok-frames.ensures.fault;
      count_at_is = c.in_ok-frames.ensures.next
          ∙ ap (λ (n : ℕ). after_parts (after_frame body) k.frames (at_disk + n)) blocks_are;
    } in
    let end = c.in_ok-recorded.end in
    let end_is : end ≡ count + 4 + 60 * number body count =
    c.in_ok-recorded.ensures.next ∙ ap (λ (n : ℕ). count + 4 + 60 * n) c.in_ok-count.ensures.value in
    let recorded : recorded_faults body programs count ≡ None =
    subst (λ (n : ℕ). first_in body (recorded_fields body programs n None (count + 4)) ≡ None)
    c.in_ok-count.ensures.value c.in_ok-recorded.ensures.fault in
    sym (after_recorded_read body k programs at_harts at_disk count read c.in_ok-count.ensures.fault recorded)
    ∙ end_right body count end end_is c.if-end-body.false

pub returns-clause-value : goal.returns-clause-value
unfolding frozen_in
returns-clause-value c =
    let body = c.args.body.now in
    let k = c.args.k.now in
    let programs = c.args.programs in
    let at_harts = c.in_ok-domains.at in
    let at_disk = c.in_ok-harts.at in
    let blocks : ℕ = length c.as_slice-blocks.result.now in
    let blocks_are : blocks ≡ length k.disk = ap length c.as_slice-blocks.ensures in
    let count = c.in_ok-frames.at in
    let harts_is : at_harts ≡ harts_from body programs = c.in_ok-domains.ensures.next in
    let disk_is : at_disk ≡ disk_from body k programs =
    c.in_ok-harts.ensures.next ∙ ap (after_parts (after_hart body) k.harts) harts_is in
    let frames_is : at_disk + blocks ≡ frames_from body k programs =
    ap (λ (n : ℕ). n + blocks) disk_is ∙ ap (λ (n : ℕ). disk_from body k programs + n) blocks_are in
    let count_is : count ≡ count_at body k programs =
    c.in_ok-frames.ensures.next ∙ ap (after_parts (after_frame body) k.frames) frames_is in
    let number_is : c.in_ok-count.count ≡ number body (count_at body k programs) =
    c.in_ok-count.ensures.value ∙ ap (number body) count_is in
    let domains = c.new.ensures ∙ c.in_ok-domains.ensures.value in
    let harts = c.new-2.ensures ∙ c.in_ok-harts.ensures.value
    ∙ ap (values (hart_in body) (after_hart body) k.harts) harts_is in
    let disk = c.new-3.ensures ∙ c.in_ok-disk.ensures.value ∙ ap (λ (n : ℕ). take n (drop at_disk body)) blocks_are
    ∙ ap (λ (n : ℕ). take (length k.disk) (drop n body)) disk_is in
    let frames = c.new-4.ensures ∙ c.in_ok-frames.ensures.value
    ∙ ap (values (frame_in body) (after_frame body) k.frames) frames_is in
    let recorded = c.new-5.ensures ∙ c.in_ok-recorded.ensures.value
    ∙ ap (λ (n : ℕ). values (recorded_in body) after_recorded n (count + 4)) number_is
    ∙ ap (λ (n : ℕ). values (recorded_in body) after_recorded (number body (count_at body k programs)) (n + 4)) count_is in
    let h = c.in_ok-h.ensures in
    λ i. record {
      steps = h.steps i;
      draws = h.draws i;
      refused = h.refused i;
      domains = domains i;
      harts = harts i;
      disk = disk i;
      frames = frames i;
      recorded = recorded i;
    }
