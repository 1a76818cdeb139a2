use Rattle.std.proofs.Common.{◌≡◌, true, false, refl, subst}
use Rattle.joint_machine.specs.Thawing.{FitsResources}
use Rattle.joint_machine.proofs.Fits.{OpensShown, domain_thawed, fits_program, page_shown, same_resources}
use Rattle.joint_machine.proofs.thawing.thaw_domain.Goals as goal

pub returns-in_err-domain-clause-wrong : goal.returns-in_err-domain-clause-wrong
returns-in_err-domain-clause-wrong c none control is =
    c.in_err-domain.ensures.reads (record control { ended = false })
    (page_shown c.args.pager.now.keys c.args.f.now c.args.number c.args.from.now control c.open_bytes.new.p
    (c.open_bytes.ensures.seals_back, c.open_bytes.ensures.only_one) is)

pub returns-then-fits-clause-thaws : goal.returns-then-fits-clause-thaws
returns-then-fits-clause-thaws c =
    domain_thawed c.args.pager.now.keys c.args.f.now c.args.number c.args.from.now c.open_bytes.new.p c.in_ok-domain.domain
    c.is_some.result c.is_some.ensures (c.open_bytes.ensures.seals_back, c.open_bytes.ensures.only_one)
    c.in_ok-domain.ensures.reads c.in_ok-domain.ensures.one (c.if-fits.ensures.0 refl)

pub returns-else-fits-clause-wrong : goal.returns-else-fits-clause-wrong
returns-else-fits-clause-wrong c none control is =
    let opens : OpensShown c.args.pager.now.keys c.args.number c.args.from.now c.open_bytes.new.p =
    (c.open_bytes.ensures.seals_back, c.open_bytes.ensures.only_one) in
    let unfit : false ≡ true =
    c.if-fits.ensures.1 (subst (FitsResources c.args.f.now c.args.number c.args.from.now)
    (same_resources c.args.pager.now.keys c.args.f.now c.args.number c.args.from.now c.open_bytes.new.p c.in_ok-domain.domain
    c.is_some.result control opens c.in_ok-domain.ensures.reads is)
    (fits_program c.args.pager.now.keys c.args.f.now c.args.number c.args.from.now control is)) in
    cc
