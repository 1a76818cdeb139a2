use Rattle.protect_meta.specs.Table.{meta_at}
use Rattle.cloak_pager.proofs.Keeping.{kept_table, table_turned}
use Rattle.cloak_pager.proofs.Turned.{set_keeps}
use Rattle.cloak_pager.proofs.Placed.{restore_stands}
use Rattle.cloak_pager.proofs.pager.Pager.restore.Goals as goal

pub invariant_of-self : goal.invariant_of-self
invariant_of-self c =
    kept_table c.self.invariant c.set.ensures (λ k o held. set_keeps (meta_at c.self.inside.table) c.args.q c.args.m o)

pub returns-clause-state : goal.returns-clause-state
returns-clause-state c = rw (← c.self.view_is) (table_turned _ c.set.new.self _ c.set.ensures)

pub returns-clause-model : goal.returns-clause-model
returns-clause-model c =
    rw (← c.self.view_is)
    (restore_stands _ _ c.args.q c.args.m (rw (← c.self.view_is) at c.requires.fresh)
    (table_turned _ c.set.new.self _ c.set.ensures))
