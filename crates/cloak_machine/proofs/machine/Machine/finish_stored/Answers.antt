use Rattle.std.proofs.Common.{◌<◌, ◌^◌, ◌≡◌, ◌∙◌, arith, sym, subst}
use Rattle.cloak_model.specs.Ledger.{Keys}
use Rattle.cloak_model.specs.Run.{closing}
use Rattle.cloak_model.specs.StoredFiles.{StandsForFiles}
use Rattle.cloak_model.specs.StoredRun.{contents_of}
use Rattle.cloak_model.proofs.Emitting.{emits_then}
use Rattle.cloak_machine.proofs.Closed.{are_parts, console_closed}
use Rattle.cloak_machine.proofs.Keys.{closing_disk, closing_keys, not_missed}
use Rattle.cloak_machine.proofs.Stepping.{finishes_as, few_closed}
use Rattle.cloak_machine.proofs.machine.Machine.finish_stored.Goals as goal

pub returns-clause-emits_some : goal.returns-clause-emits_some
returns-clause-emits_some g c =
    let some = c.close.ensures.emits_some in
    (_, emits_then c.item.ensures (emits_then some.1 c.item-2.ensures))

pub returns-clause-ends : goal.returns-clause-ends
returns-clause-ends g c m stands =
    let shows = c.close.ensures.closes m.joint stands.joint in
    let parts = c.into_parts.ensures in
    let low : m.steps < 2 ^ 32 = omega (arith, stands.steps) in
    finishes_as m stands c.item.ensures shows c.item-2.ensures
    (c.end_of.ensures (closing m.joint).joint
    (are_parts shows.stands parts.harts parts.memory parts.domains parts.disk parts.ended parts.refused)
    (console_closed m.joint stands.console) (few_closed m.joint m.steps stands.loads low))

pub returns-clause-disk : goal.returns-clause-disk
returns-clause-disk g c m stands =
    c.copy_from_slice.ensures.after ∙ (c.disk.ensures ∙ (stands.joint.disk ∙ sym (closing_disk m.joint)))

pub returns-clause-stores : goal.returns-clause-stores
returns-clause-stores g c other m stands =
    let shows = c.close.ensures.closes m.joint stands.joint in
    let ends = returns-clause-ends g c m stands in
    let closed = (closing m.joint).joint in
    subst (λ (keys : Keys). StandsForFiles keys c.store_files.new.files (contents_of closed))
    (closing_keys m.joint)
    (c.store_files.ensures.stands closed shows.stands (not_missed _ _ (λ is. other (ends.stop ∙ is))))
