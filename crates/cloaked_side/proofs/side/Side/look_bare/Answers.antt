use Rattle.std.proofs.Common.{rules, false}
use Rattle.cloaked_side.proofs.Known.{bare_follows, bare_leads}
use Rattle.cloaked_side.proofs.side.Side.look_bare.Goals as goal

pub returns-then-is_inside-clause-found : goal.returns-then-is_inside-clause-found
returns-then-is_inside-clause-found g c first w cloaked sees viewed =
    bare_leads g.E.Emit.gave first c.args.self.now c.args.regime.now c.args.va c.args.kind cloaked w sees viewed c.requires.uncounted c.requires.bare (search rules)

pub returns-else-is_inside-clause-found : goal.returns-else-is_inside-clause-found
returns-else-is_inside-clause-found g c first w cloaked sees viewed =
    bare_follows g.E.Emit.gave first c.args.self.now c.args.regime.now c.args.va c.args.kind false w sees viewed c.requires.uncounted c.requires.bare (search rules)
