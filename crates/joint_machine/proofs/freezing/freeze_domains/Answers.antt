use Rattle.std.proofs.Common.{◌∙◌, refl, arith}
use Rattle.std.proofs.lemmas.Option.{slice_get_read}
use Rattle.joint_machine.proofs.Freezes.{domains_all, domains_end, domains_next, domains_none}
use Rattle.joint_machine.proofs.freezing.freeze_domains.Goals as goal

pub loop-number-init : goal.loop-number-init
loop-number-init c = record {
  capacity = refl;
  freezes = domains_none c.args.pager.now c.args.roots.now c.args.ended.now c.args.domains.now c.args.ivs.now c.args.room.items c.requires.empty;
}

pub loop-number-preserved : goal.loop-number-preserved
loop-number-preserved c = record {
  capacity = c.push_reserved.ensures.capacity ∙ c.loop-number.invariant.capacity;
  freezes =
      domains_next c.args.pager.now c.args.roots.now c.args.ended.now c.args.domains.now c.args.ivs.now c.loop-number.ivs
      c.freeze_domain.new.ivs c.loop-number.number c.loop-number.frozen.items c.push_reserved.new.self.items
      c.index-domains-number.result c.in_ok-freeze_domain.field-0 _ c.loop-number.invariant.freezes
      (slice_get_read c.args.domains.now _ c.loop-number.number c.index-domains-number.result refl c.loop-number-test.true
      c.index-domains-number.is) refl c.push_reserved.ensures.items c.in_ok-freeze_domain.ensures;
}

pub returns-in_err-freeze_domain : goal.returns-in_err-freeze_domain
returns-in_err-freeze_domain c j tells =
    rw c.from_residual.ensures
    (domains_end c.args.pager.now c.args.roots.now c.args.ended.now c.args.domains.now c.args.ivs.now c.loop-number.ivs
    c.loop-number.number c.loop-number.frozen.items c.index-domains-number.result _ c.loop-number.invariant.freezes
    (slice_get_read c.args.domains.now _ c.loop-number.number c.index-domains-number.result refl c.loop-number-test.true
    c.index-domains-number.is) refl c.in_err-freeze_domain.ensures j tells)

pub returns : goal.returns
returns c =
    domains_all c.args.pager.now c.args.roots.now c.args.ended.now c.args.domains.now c.args.ivs.now c.loop-number.ivs
    c.loop-number.number c.loop-number.frozen.items c.loop-number.invariant.freezes
    (omega (arith, c.loop-number-test.false))
