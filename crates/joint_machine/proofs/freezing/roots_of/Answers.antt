use Rattle.std.proofs.Common.{◌∙◌, refl, arith}
use Rattle.std.proofs.lemmas.List.{length-set}
use Rattle.thread_context.specs.Recorded.{root_at}
use Rattle.joint_machine.proofs.Freezes.{all_roots, roots_next}
use Rattle.joint_machine.proofs.freezing.roots_of.Goals as goal

pub loop-number-init : goal.loop-number-init
loop-number-init c = record {
  count = refl;
  told = refl;
}

pub loop-number-preserved : goal.loop-number-preserved
loop-number-preserved c = record {
  count = length-set c.loop-number.all c.loop-number.number c.root.result ∙ c.loop-number.invariant.count;
  told =
      roots_next (root_at c.args.roots.now) c.args.domain c.loop-number.number c.loop-number.all _ c.root.result
      c.loop-number.invariant.told (omega (arith, c.loop-number-test.true, c.loop-number.invariant.count)) c.root.ensures refl;
}

pub returns : goal.returns
returns c =
    all_roots (root_at c.args.roots.now) c.args.domain c.loop-number.number c.loop-number.all c.loop-number.invariant.told
    (omega (arith, c.loop-number-test.false, c.loop-number.auto.number-end)) c.loop-number.invariant.count
