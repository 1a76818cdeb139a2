use Rattle.std.proofs.Common.{◌≡◌, ◌/◌, ◌∙◌, ap, sym, subst, ℕ, Option, None}
use Rattle.std.specs.Prelude.{IfSome}
use Rattle.cloak_base.specs.declared.names.SpaceId.{SpaceId}
use Rattle.cloak_model.specs.declared.access.Walked.{Walked}
use Rattle.cloak_model.specs.World.{settled}
use Rattle.cloak_base.specs.Constants.{frame_of}
use Rattle.cloak_pager.specs.State.{held_in}
use Rattle.shadow_fold.specs.Table.{is_known}
use Rattle.shadow_fold.specs.Agreement.{satp_in, access_in}
use Rattle.cloaked_side.specs.Leading.{IsEntryOf, IsRegimeIn}
use Rattle.cloaked_side.specs.Seeing.{Sees, space_in}
use Rattle.cloaked_side.proofs.Known.{entry_built, entry_viewed, open_entry, opened_live}
use Rattle.cloaked_side.proofs.Losing.{loses_killed, unknown_still}
use Rattle.cloaked_side.proofs.Sided.{within_of}
use Rattle.cloaked_side.proofs.side.Side.settle_led.Goals as goal

pub returns-in-Some-clause-sees : goal.returns-in-Some-clause-sees
returns-in-Some-clause-sees g c first w walked sees viewed so =
    let gave = g.E.Emit.gave in
    let old = c.args.self.now in
    let mid = c.settle.new.self in
    let regime = c.args.regime.now in
    let at = c.frame_of-f.ensures ∙ ap frame_of so.by.place in
    let kept = within_of gave old mid c.settle.ensures.keeps in
    let seen = subst (λ (f : ℕ). Sees gave first mid (settled f w)) at (c.settle.ensures.sees first w sees) in
    let none = subst (λ (f : ℕ). held_in mid.memory.now.pager f ≡ None) at c.settle.ensures.outside in
    let same = subst (λ (o : Option Walked). IfSome o (λ on. on ≡ walked)) c.in-Some.is so.by.handed in
    let built = entry_built regime c.args.va c.args.kind c.frame_of-f.result c.in-Some.walked walked None at same in
    c.learn_walk.ensures.sees first (settled (frame_of walked.pa) w) (satp_in regime) (access_in regime c.args.va c.args.kind) walked seen
    (subst (λ e. IsEntryOf (settled (frame_of walked.pa) w) (held_in mid.memory.now.pager) e) built
    (open_entry gave first old mid regime c.args.va c.args.kind walked w sees so.walk so.outside kept.no_more none))
    (entry_viewed (space_in mid.regime) regime c.args.va c.args.kind walked None
    (subst (λ (o : Option SpaceId). IsRegimeIn o regime) (sym (ap space_in kept.stays.regime)) viewed) ∙ built)

pub returns-in_default-clause-sees : goal.returns-in_default-clause-sees
returns-in_default-clause-sees g c first w walked sees viewed so =
    let gave = g.E.Emit.gave in
    let old = c.args.self.now in
    let mid = c.settle.new.self in
    let at = c.frame_of-f.ensures ∙ ap frame_of so.by.place in
    let kept = within_of gave old mid c.settle.ensures.keeps in
    let seen = subst (λ (f : ℕ). Sees gave first mid (settled f w)) at (c.settle.ensures.sees first w sees) in
    opened_live gave first old mid c.args.regime.now c.args.va c.args.kind walked c.args.led.now c.frame_of-f.result.0 w at seen
    (subst (λ (o : Option SpaceId). IsRegimeIn o c.args.regime.now) (sym (ap space_in kept.stays.regime)) viewed) c.in_default.is so.live c.settle.ensures.counting c.settle.ensures.ends

pub learn_walk-requires : goal.learn_walk-requires
learn_walk-requires g c = record {
  unknown = λ missed. unknown_still c.args.self.now.memory.now.shadows c.settle.new.self.memory.now.shadows c.args.regime.now (c.args.va / 4096)
      c.args.kind
      (λ regime page kind known. loses_killed _ _ c.args.self.now.memory.now.shadows regime page kind
      (sym (ap (is_known regime page kind) c.settle.ensures.ends) ∙ known))
      (c.requires.missed missed);
}
