use Rattle.std.proofs.Common.{◌∙◌, refl, arith}
use Rattle.std.proofs.lemmas.List.{length-set}
use Rattle.joint_machine.proofs.ThawedParts.{ends_all, ends_next, ends_none}
use Rattle.joint_machine.proofs.Thaws.{get_there}
use Rattle.joint_machine.proofs.thawing.thaw_ended.Goals as goal

pub loop-number-init : goal.loop-number-init
loop-number-init c = record {
  count = refl;
  ends = ends_none c.args.from.now;
}

pub loop-number-preserved : goal.loop-number-preserved
loop-number-preserved c = record {
  count = length-set c.loop-number.ended c.loop-number.number _ ∙ c.loop-number.invariant.count;
  ends =
      ends_next c.args.from.now c.loop-number.ended _ c.loop-number.number _ c.loop-number.invariant.ends
      (get_there c.args.from.now c.loop-number.number _ c.loop-number-test.true)
      (omega (arith, c.loop-number-test.true, c.loop-number.invariant.count, c.requires)) refl;
}

pub returns-clause-four : goal.returns-clause-four
returns-clause-four c = c.loop-number.invariant.count

pub returns-clause-each : goal.returns-clause-each
returns-clause-each c = ends_all c.args.from.now c.loop-number.ended c.loop-number.number c.loop-number.invariant.ends c.loop-number-test.false
