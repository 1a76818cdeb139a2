use Rattle.std.proofs.Common.{◌≡◌, refl, arith, true, false}
use Rattle.resource_map.specs.Kept.{IsInUse}
use Rattle.hypercalls.specs.Standing.{control_of}
use Rattle.joint_machine.proofs.ThawedParts.{rooted_all, rooted_next}
use Rattle.joint_machine.proofs.thawing.all_rooted.Goals as goal

pub loop-space-preserved : goal.loop-space-preserved
loop-space-preserved c =
    rooted_next c.args.roots.now (IsInUse (control_of c.args.domain.now).resources) c.loop-space.space
    c.loop-space.invariant (c.if-not-is_rooted.ensures.0 refl)

pub returns-then-not-is_rooted : goal.returns-then-not-is_rooted
returns-then-not-is_rooted c = (λ clash. absurd (let e : false ≡ true = clash in cc), λ all. c.if-not-is_rooted.ensures.1 (all c.loop-space.space))

pub returns : goal.returns
returns c = (
  λ told. rooted_all c.args.roots.now (IsInUse (control_of c.args.domain.now).resources) c.loop-space.space
      (omega (arith, c.loop-space-test.false, c.told-roots)) c.loop-space.invariant,
  λ all. refl,
)
