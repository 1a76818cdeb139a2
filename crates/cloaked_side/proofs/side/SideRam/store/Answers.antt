use Rattle.std.proofs.Common.{◌∙◌, ap, sym, subst, Option}
use Rattle.cloak_base.specs.declared.names.SpaceId.{SpaceId}
use Rattle.cloak_model.specs.Ask.{ask_led, opened}
use Rattle.shadow_fold.specs.declared.entry.Regime.TheVariants.{Outside}
use Rattle.cloaked_side.specs.Leading.{IsRegimeIn}
use Rattle.cloaked_side.specs.Seeing.{space_in}
use Rattle.cloaked_side.proofs.Known.{store_unclashed, stored_told, store_fault, viewed_outside}
use Rattle.cloaked_side.proofs.Serving.{wrap_outside}
use Rattle.cloaked_side.proofs.Sided.{within_of}
use Rattle.cloaked_side.proofs.side.SideRam.store.Goals as goal

pub returns-in-Err-clause-follows : goal.returns-in-Err-clause-follows
returns-in-Err-clause-follows g c first w sees unclashed =
    let gave = g.E.Emit.gave in
    let old = c.args.self.now in
    let u = store_unclashed c.args.satp c.args.access c.args.width c.args.v w unclashed in
    let viewed = viewed_outside (space_in old.regime) c.args.satp c.args.access sees.1 in
    let kept = within_of gave old c.led.new.self c.led.ensures.keeps in
    wrap_outside gave first old c.led.new.self _ _ kept.stays.regime sees.1
    (store_fault gave first c.led.new.self c.args.satp c.args.access c.args.width c.args.v c.in-Err.cause w
    (c.in-Err.ensures.leads first w sees.0 viewed u))

pub returns-in-Ok-clause-follows : goal.returns-in-Ok-clause-follows
returns-in-Ok-clause-follows g c first w sees unclashed =
    let gave = g.E.Emit.gave in
    let old = c.args.self.now in
    let mid = c.led.new.self in
    let u = store_unclashed c.args.satp c.args.access c.args.width c.args.v w unclashed in
    let a = c.args.access in
    let regime = Outside c.args.satp a.mode a.sum a.mxr in
    let told = ask_led c.args.satp c.args.access w in
    let viewed = viewed_outside (space_in old.regime) c.args.satp c.args.access sees.1 in
    let kept = within_of gave old mid c.led.ensures.keeps in
    let kept_then = within_of gave mid c.settle_led.new.self c.settle_led.ensures.keeps in
    let kept_last = within_of gave c.settle_led.new.self c.write_settled.new.self c.write_settled.ensures.keeps in
    let so = c.in-Ok.ensures.leads first w sees.0 viewed u in
    wrap_outside gave first old c.write_settled.new.self _ _ (kept_last.stays.regime ∙ kept_then.stays.regime ∙ kept.stays.regime) sees.1
    (stored_told gave first mid c.write_settled.new.self c.args.satp c.args.access c.args.width so.0 c.in-Ok.led.pa c.args.v w so.1 so.2.by.place
    (c.write_settled.ensures.told first (opened c.args.satp c.args.access so.0 told.world)
    (c.settle_led.ensures.sees first told.world so.0 so.1.stands
    (subst (λ (o : Option SpaceId). IsRegimeIn o regime) (sym (ap space_in kept.stays.regime)) viewed) so.2)))
