use Rattle.std.proofs.Common.{◌∙◌, List, None, [], length, slice_get, slice_index_or, ap, refl, sym, arith}
use Rattle.frozen_state.specs.declared.frozen.FrozenDomain.{FrozenDomain}
use Rattle.joint_machine.proofs.ThawedParts.{below_all, below_next, below_none, below_programs, offset_here, offset_next}
use Rattle.joint_machine.proofs.Thaws.{get_there}
use Rattle.joint_machine.proofs.thawing.thaw_domains.Goals as goal

pub loop-number-init : goal.loop-number-init
loop-number-init c = record {
  at = refl;
  few = omega arith;
  thawed = below_none c.args.pager.now.keys c.args.f.now c.new-domains.result.items c.new-domains.ensures.items;
}

pub returns-in_default-clause-faults : goal.returns-in_default-clause-faults
returns-in_default-clause-faults c =
    let zeros : FrozenDomain = record { violation = None; roots = []; meta = record { iv = []; digest = [] }; page = [] } in
    let n = c.loop-number.number in
    let there = ap (λ (l : List FrozenDomain). slice_get l n) (sym c.as_slice-from-items.ensures)
    ∙ get_there c.as_slice-from-items.result.now n zeros c.loop-number-test.true in
    record {
      d = n;
      shown = slice_index_or c.as_slice-from-items.result.now n zeros;
      there = there;
      offset = offset_here c.args.f.now n (slice_index_or c.as_slice-from-items.result.now n zeros) c.loop-number.at c.before_page-at.result c.loop-number.invariant.at c.before_page-at.ensures.value;
      wrong = c.in_default.ensures.wrong refl;
      earlier = below_programs c.args.pager.now.keys c.args.f.now c.loop-number.domains.items n c.loop-number.invariant.thawed;
    }

pub loop-number-preserved : goal.loop-number-preserved
loop-number-preserved c =
    let zeros : FrozenDomain = record { violation = None; roots = []; meta = record { iv = []; digest = [] }; page = [] } in
    let n = c.loop-number.number in
    let there = ap (λ (l : List FrozenDomain). slice_get l n) (sym c.as_slice-from-items.ensures)
    ∙ get_there c.as_slice-from-items.result.now n zeros c.loop-number-test.true in
    let before = c.before_page-at.ensures in
    let next = offset_next c.args.f.now n _ there before.iv before.digest before.page in
    record {
      at = omega (arith, next, c.loop-number.invariant.at, before.value);
      few = omega (arith, c.loop-number.invariant.few, before.few);
      thawed =
          below_next c.args.pager.now.keys c.args.f.now c.loop-number.domains.items c.push.new.self.items n _
          c.in-Some.domain c.loop-number.invariant.thawed there c.in_ok-push.ensures.items c.in-Some.ensures.thaws;
    }

pub returns-clause-thaws : goal.returns-clause-thaws
returns-clause-thaws c =
    let same = ap length c.as_slice-from-items.ensures in
    below_all c.args.pager.now.keys c.args.f.now c.loop-number.domains.items c.loop-number.number c.loop-number.invariant.thawed
    (omega (arith, same, c.loop-number-test.false, c.loop-number.auto.number-end))
