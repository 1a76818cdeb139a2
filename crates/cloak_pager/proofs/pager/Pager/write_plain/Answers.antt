use Rattle.cloak_pager.specs.Asking.{PageWrite, with_write}
use Rattle.cloak_pager.proofs.Writes.{put_plain, whole_now, follows_plain}
use Rattle.cloak_pager.proofs.pager.Pager.write_plain.Goals as goal

pub returns-clause-state : goal.returns-clause-state
returns-clause-state c =
    let x : PageWrite = record { at = c.args.at; width = c.args.width; value = c.args.v } in
    put_plain _ _ c.args.q c.args.f.0 _ _ _ _ (with_write x) c.self.view_is c.self.invariant.whole
    c.index.ensures c.in-Changed.is c.changed_mut.ensures.value c.set_value_in.ensures c.requires.owed

pub returns-clause-model : goal.returns-clause-model
returns-clause-model c =
    let x : PageWrite = record { at = c.args.at; width = c.args.width; value = c.args.v } in
    follows_plain _ _ c.args.q c.args.f.0 x (whole_now _ _ c.self.view_is c.self.invariant.whole)
    (returns-clause-state c) c.requires.owed c.requires.width c.requires.aligned c.requires.within
