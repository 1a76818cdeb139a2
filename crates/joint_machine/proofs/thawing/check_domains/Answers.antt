use Rattle.std.proofs.Common.{◌≡◌, All, true, false, refl, subst}
use Rattle.std.proofs.lemmas.List.{take_all}
use Rattle.std.proofs.lemmas.List.Elements.{All-nil}
use Rattle.frozen_state.specs.Refusing.{IsWholeDomain}
use Rattle.joint_machine.proofs.Thaws.{all_next, get_there}
use Rattle.joint_machine.proofs.thawing.check_domains.Goals as goal

pub loop-number-init : goal.loop-number-init
loop-number-init c = All-nil IsWholeDomain

pub returns-then-not-is_whole-clause-changed : goal.returns-then-not-is_whole-clause-changed
returns-then-not-is_whole-clause-changed c = record {
  x = _;
  there = get_there c.args.domains.now c.loop-number.number _ c.loop-number-test.true;
  changed = λ whole. absurd (let e : false ≡ true = c.if-not-is_whole.ensures.1 whole in cc);
  earlier = c.loop-number.invariant;
}

pub loop-number-preserved : goal.loop-number-preserved
loop-number-preserved c =
    all_next IsWholeDomain c.args.domains.now c.loop-number.number _
    (get_there c.args.domains.now c.loop-number.number _ c.loop-number-test.true) c.loop-number.invariant
    (c.if-not-is_whole.ensures.0 refl)

pub returns-clause-whole : goal.returns-clause-whole
returns-clause-whole c =
    subst (All IsWholeDomain) (take_all c.loop-number.number c.args.domains.now c.loop-number-test.false) c.loop-number.invariant
