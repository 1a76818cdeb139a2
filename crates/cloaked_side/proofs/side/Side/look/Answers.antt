use Rattle.cloaked_side.proofs.Known.{viewed_own}
use Rattle.cloaked_side.proofs.side.Side.look.Goals as goal

pub returns-then-is_bare-clause-found : goal.returns-then-is_bare-clause-found
returns-then-is_bare-clause-found g c first w sees =
    c.look_bare.ensures.found first w c.args.cloaked sees (viewed_own c.args.self.now.regime)

pub returns-clause-found : goal.returns-clause-found
returns-clause-found g c first w sees = c.look_up.ensures.found first w sees (viewed_own c.args.self.now.regime)
