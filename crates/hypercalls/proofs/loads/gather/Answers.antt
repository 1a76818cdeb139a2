use Rattle.std.proofs.Common.{arith}
use Rattle.hypercalls.proofs.Gathered.{eight}
use Rattle.hypercalls.proofs.loads.gather.Goals as goal

pub returns-clause-stored : goal.returns-clause-stored
returns-clause-stored c =
    rw (c.to_le_bytes.ensures, c.to_le_bytes-2.ensures)
    (eight c.args.into.now c.args.at _ _ _ _ _ _ _ _ (omega (arith, c.requires, c.fits-into)))
