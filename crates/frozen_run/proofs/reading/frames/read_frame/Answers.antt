use Rattle.std.proofs.Common.{◌≡◌, ◌∙◌, ◌+◌, Bool, true, false, cond, None, Some, ◌∷◌, refl, sym, subst}
use Rattle.std.proofs.lemmas.Bool.{eq-eqb, ne_eqb}
use Rattle.std.proofs.lemmas.Result.{err_from_is_err_and}
use Rattle.frozen_state.specs.FrozenFault.{page_at, owes_page}
use Rattle.frozen_run.specs.OwedPages.{TellsOwed}
use Rattle.frozen_run.proofs.Frames.{bytes_wrong, byte_wrong, rest_of_frame}
use Rattle.frozen_run.proofs.reading.frames.read_frame.Goals as goal

pub returns-in_err-read_page-clause-fault : goal.returns-in_err-read_page-clause-fault
returns-in_err-read_page-clause-fault c = λ seen tells.
    let p = err_from_is_err_and c.from_residual.result c.from_residual.ensures.1 in
    rw (p.1, p.2) (bytes_wrong c.args.body.now c.args.programs seen c.args.at c.in_err-read_page.field-0.0
    c.in_err-read_page.ensures.fault)

pub returns-in_err-byte_below-clause-fault : goal.returns-in_err-byte_below-clause-fault
returns-in_err-byte_below-clause-fault c = λ seen tells.
    let p = err_from_is_err_and c.from_residual-in_err-byte_below.result c.from_residual-in_err-byte_below.ensures.1 in
    rw (p.1, p.2) (byte_wrong c.args.body.now c.args.programs seen c.args.at c.in_err-byte_below.field-0.0
    c.in_ok-read_page.ensures.fault c.in_err-byte_below.ensures.fault)

pub returns-in_err-owed-clause-fault : goal.returns-in_err-owed-clause-fault
returns-in_err-owed-clause-fault c = λ seen tells.
    let p = err_from_is_err_and c.from_residual-in_err-owed.result c.from_residual-in_err-owed.ensures.1 in
    let owes : owes_page c.args.body.now c.args.at ≡ true =
    eq-eqb _ _ (sym c.in_ok-byte_below.ensures.value ∙ c.if-branch-eq1.true) in
    rw (p.1, p.2) (rest_of_frame c.args.body.now c.args.programs seen c.args.at true (Some c.in_err-owed.field-0.0) c.in_ok-read_page.ensures.fault
    c.in_ok-byte_below.ensures.fault owes (c.in_err-owed.ensures.fault seen tells))

pub returns-then-branch-eq1-clause-fault : goal.returns-then-branch-eq1-clause-fault
returns-then-branch-eq1-clause-fault c = λ seen tells.
    let owes : owes_page c.args.body.now c.args.at ≡ true =
    eq-eqb _ _ (sym c.in_ok-byte_below.ensures.value ∙ c.if-branch-eq1.true) in
    rest_of_frame c.args.body.now c.args.programs seen c.args.at true None c.in_ok-read_page.ensures.fault
    c.in_ok-byte_below.ensures.fault owes (c.in_ok-owed.ensures.fault seen tells)

pub returns-then-branch-eq1-clause-row : goal.returns-then-branch-eq1-clause-row
returns-then-branch-eq1-clause-row c = λ seen tells.
    let body = c.args.body.now in
    let page = page_at body (c.args.at + 4097) in
    let owes : owes_page body c.args.at ≡ true =
    eq-eqb _ _ (sym c.in_ok-byte_below.ensures.value ∙ c.if-branch-eq1.true) in
    subst (λ (b : Bool). TellsOwed c.args.programs c.owed_page.new.row (cond b (page ∷ seen) seen)) (sym owes)
    (c.in_ok-owed.ensures.row seen tells)

pub returns-clause-fault : goal.returns-clause-fault
returns-clause-fault c = λ seen tells.
    let owes : owes_page c.args.body.now c.args.at ≡ false =
    ne_eqb _ _ (λ one. c.if-branch-eq1.false (c.in_ok-byte_below.ensures.value ∙ one)) in
    rest_of_frame c.args.body.now c.args.programs seen c.args.at false None c.in_ok-read_page.ensures.fault
    c.in_ok-byte_below.ensures.fault owes refl
