use Rattle.std.proofs.Common.{not}
use Rattle.std.specs.List.{list_any}
use Rattle.std.proofs.lemmas.Result.{err_from_is_err_and}
use Rattle.cloak_base.specs.Pages.{same_page}
use Rattle.frozen_state.specs.Ranges.{IsPage}
use Rattle.frozen_state.specs.FrozenFault.{page_at}
use Rattle.frozen_run.proofs.Owed.{noted_as}
use Rattle.frozen_run.proofs.PageFields.{numbers_wrong}
use Rattle.frozen_run.proofs.reading.frames.owed_page.Goals as goal

pub returns-in_err-page-clause-fault : goal.returns-in_err-page-clause-fault
returns-in_err-page-clause-fault c = λ seen tells.
    let p = err_from_is_err_and c.from_residual.result c.from_residual.ensures.1 in
    let body = c.args.body.now in
    let right = not (list_any (same_page (page_at body c.args.at)) seen) in
    rw (p.1, p.2) (numbers_wrong body c.args.programs right c.args.at c.in_err-page.field-0.0 c.in_err-page.ensures.fault)

pub returns-clause-row : goal.returns-clause-row
returns-clause-row c = λ seen tells.
    let q = c.in_ok-page.page in
    let read = c.in_ok-page.ensures in
    let is : IsPage c.args.programs q = record { domain = read.domain; resource = read.resource; page = read.page } in
    noted_as c.args.programs c.args.row.now c.note_owed.new.row seen q (page_at c.args.body.now c.args.at) tells is
    read.value c.note_owed.ensures.noted
