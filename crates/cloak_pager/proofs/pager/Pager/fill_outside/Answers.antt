use Rattle.std.proofs.Common.{refl}
use Rattle.cloak_pager.proofs.Writes.{put_outside, whole_now, follows_fill}
use Rattle.cloak_pager.proofs.pager.Pager.fill_outside.Goals as goal

pub returns-clause-state : goal.returns-clause-state
returns-clause-state c =
    put_outside _ _ _ _ _ _ _ _ c.self.view_is c.self.invariant.whole c.requires.inside c.index.ensures c.in-Outside.is
    c.outside_mut.ensures.value (λ e. refl)

pub returns-clause-model : goal.returns-clause-model
returns-clause-model c =
    follows_fill _ _ _ _ (whole_now _ _ c.self.view_is c.self.invariant.whole)
    (returns-clause-state c) c.requires.inside c.requires.outside
