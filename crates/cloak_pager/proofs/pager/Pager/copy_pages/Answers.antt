use Rattle.cloak_pager.proofs.Keeping.{kept_table, table_turned}
use Rattle.cloak_pager.proofs.Copies.{follows_copy}
use Rattle.cloak_pager.proofs.pager.Pager.copy_pages.Goals as goal

pub invariant_of-self : goal.invariant_of-self
invariant_of-self c =
    let away = rw (← c.self.view_is) at c.requires.away in
    kept_table c.self.invariant c.copy_range.ensures (λ k o held shown. rw (away k o held) shown)

pub returns-clause-state : goal.returns-clause-state
returns-clause-state c = rw (← c.self.view_is) (table_turned _ c.copy_range.new.self _ c.copy_range.ensures)

pub returns-clause-model : goal.returns-clause-model
returns-clause-model c = follows_copy _ _ _ _ _ (returns-clause-state c) c.requires.shown c.requires.away
