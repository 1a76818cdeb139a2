use Rattle.std.proofs.Common.{◌∙◌, ap, sym}
use Rattle.cloak_pager.specs.Asking.{PageWrite, with_write}
use Rattle.cloak_pager.proofs.Writes.{put_outside, whole_now, follows_write}
use Rattle.cloak_pager.proofs.pager.Pager.write_outside.Goals as goal

pub returns-clause-state : goal.returns-clause-state
returns-clause-state c =
    let x : PageWrite = record { at = c.args.at; width = c.args.width; value = c.args.v } in
    put_outside _ _ _ _ _ _ _ _ c.self.view_is c.self.invariant.whole c.requires.inside c.index.ensures c.in-Outside.is
    c.outside_mut.ensures.value (λ e. c.set_value_in.ensures ∙ ap (with_write x) (sym e))

pub returns-clause-model : goal.returns-clause-model
returns-clause-model c =
    let x : PageWrite = record { at = c.args.at; width = c.args.width; value = c.args.v } in
    follows_write _ _ _ x (whole_now _ _ c.self.view_is c.self.invariant.whole)
    (returns-clause-state c) c.requires.inside c.requires.outside
