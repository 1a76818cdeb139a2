use Rattle.std.proofs.Common.{◌∙◌}
use Rattle.std.proofs.lemmas.Result.{err_from_is_err_and}
use Rattle.cloak_model.specs.Fields.{first_of, first_in, after_parts}
use Rattle.frozen_state.specs.FrozenFault.{after_maybe, violation_fields, domain_fields, after_violation, page_from}
use Rattle.field_facts.proofs.Firsts.{fault_found}
use Rattle.frozen_run.proofs.PageFields.{meta_fields}
use Rattle.frozen_run.proofs.Steps.{root_faults, page_fault, domain_split, after_violation_read, after_roots_read, after_meta_read}
use Rattle.frozen_run.proofs.reading.domains.read_domain.Goals as goal

pub returns-in_err-violation-clause-fault : goal.returns-in_err-violation-clause-fault
returns-in_err-violation-clause-fault c =
    let p = err_from_is_err_and c.from_residual.result c.from_residual.ensures.1 in
    let body = c.args.body.now in
    let at = c.args.at in
    let frames = c.args.frames in
    rw (p.1, p.2) (fault_found (first_in body (violation_fields body frames at))
    (first_of (root_faults body (after_violation body at))
    (first_of (first_in body (meta_fields body (page_from body at))) (page_fault body (page_from body at))))
    (first_in body (domain_fields body frames at)) c.in_err-violation.field-0.0 c.in_err-violation.ensures.fault
    (domain_split body frames at))

pub returns-in_err-roots-clause-fault : goal.returns-in_err-roots-clause-fault
returns-in_err-roots-clause-fault c =
    let p = err_from_is_err_and c.from_residual-in_err-roots.result c.from_residual-in_err-roots.ensures.1 in
    let body = c.args.body.now in
    let at = c.args.at in
    let frames = c.args.frames in
    let tables = c.in_ok-violation.tables in
    let sealed = after_parts (after_maybe body) 8 tables in
    rw (p.1, p.2) (fault_found (root_faults body tables)
    (first_of (first_in body (meta_fields body sealed)) (page_fault body sealed))
    (first_in body (domain_fields body frames at)) c.in_err-roots.field-0.0 c.in_err-roots.ensures.fault
    (after_violation_read body frames at tables c.in_ok-violation.ensures.fault c.in_ok-violation.ensures.next))

pub returns-in_err-meta-clause-fault : goal.returns-in_err-meta-clause-fault
returns-in_err-meta-clause-fault c =
    let p = err_from_is_err_and c.from_residual-in_err-meta.result c.from_residual-in_err-meta.ensures.1 in
    let body = c.args.body.now in
    let at = c.args.at in
    let frames = c.args.frames in
    let sealed = c.in_ok-roots.sealed in
    rw (p.1, p.2) (fault_found (first_in body (meta_fields body sealed)) (page_fault body sealed)
    (first_in body (domain_fields body frames at)) c.in_err-meta.field-0.0 c.in_err-meta.ensures.fault
    (after_roots_read body frames at c.in_ok-violation.tables sealed c.in_ok-violation.ensures.fault
    c.in_ok-violation.ensures.next c.in_ok-roots.ensures.fault c.in_ok-roots.ensures.next))

pub returns-in_err-read_page-clause-fault : goal.returns-in_err-read_page-clause-fault
returns-in_err-read_page-clause-fault c =
    let p = err_from_is_err_and c.from_residual-in_err-read_page.result c.from_residual-in_err-read_page.ensures.1 in
    let body = c.args.body.now in
    rw (p.1, p.2) (c.in_err-read_page.ensures.fault
    ∙ after_meta_read body c.args.frames c.args.at c.in_ok-violation.tables c.in_ok-roots.sealed
    c.in_ok-violation.ensures.fault c.in_ok-violation.ensures.next c.in_ok-roots.ensures.fault c.in_ok-roots.ensures.next
    c.in_ok-meta.ensures.fault)

pub returns-clause-fault : goal.returns-clause-fault
returns-clause-fault c =
    let body = c.args.body.now in
    c.in_ok-read_page.ensures.fault
    ∙ after_meta_read body c.args.frames c.args.at c.in_ok-violation.tables c.in_ok-roots.sealed
    c.in_ok-violation.ensures.fault c.in_ok-violation.ensures.next c.in_ok-roots.ensures.fault c.in_ok-roots.ensures.next
    c.in_ok-meta.ensures.fault
