use Rattle.std.proofs.Common.{◌∙◌, ap}
use Rattle.sha2.specs.Sha256.{sha256}
use Rattle.joint_machine.proofs.Freezes.{domain_drawn, domain_undrawn}
use Rattle.joint_machine.proofs.freezing.freeze_domain.Goals as goal

pub returns-in_err-iv : goal.returns-in_err-iv
returns-in_err-iv c j d tells =
    rw c.from_residual.ensures (domain_undrawn j c.args.number d c.args.ivs.now c.in_err-iv.ensures.0)

pub returns : goal.returns
returns c j d tells =
    domain_drawn c.args.pager.now c.args.roots.now c.args.violation c.args.number c.args.domain.now d j c.args.ivs.now c.draw.new.self
    c.in_ok-iv.iv c.state.new.into c.seal_bytes.new.p c.digest-digest.result c.roots_of.result tells c.in_ok-iv.ensures
    c.state.ensures c.seal_bytes.ensures (c.digest-digest.ensures ∙ ap sha256 c.as_slice.ensures) c.roots_of.ensures
