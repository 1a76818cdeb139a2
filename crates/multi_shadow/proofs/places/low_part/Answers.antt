use Rattle.multi_shadow.proofs.Powers.{power_part}
use Rattle.multi_shadow.proofs.places.low_part.Goals as goal

pub returns-clause-part : goal.returns-clause-part
returns-clause-part c = power_part c.args.number c.args.power c.from-mask.result c.requires.power c.from-mask.ensures
