use Rattle.cloak_pager.proofs.Contents.{knows_content}
use Rattle.cloak_pager.proofs.pager.Pager.meta.Goals as goal

pub returns-clause-model : goal.returns-clause-model
returns-clause-model c = rw (← c.self.view_is) (knows_content _ c.args.q _ c.get.ensures)
