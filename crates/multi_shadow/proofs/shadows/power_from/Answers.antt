use Rattle.std.proofs.Common.{arith}
use Rattle.multi_shadow.proofs.Powers.{power_over, power_past}
use Rattle.multi_shadow.proofs.shadows.power_from.Goals as goal

pub returns-clause-power : goal.returns-clause-power
returns-clause-power c =
    let r = c.ilog2-places in
    power_over c.args.number r.result r.ensures.next_power_gt (omega (arith, c.if-places-gt31.false))

pub returns-then-places-gt31-clause-refused : goal.returns-then-places-gt31-clause-refused
returns-then-places-gt31-clause-refused c =
    let r = c.ilog2-places in
    power_past c.args.number r.result r.ensures.power_le r.ensures.bound (omega (arith, c.if-places-gt31.true))
