use Rattle.std.proofs.Common.{rules, ap, sym, subst, Option}
use Rattle.cloak_base.specs.declared.names.SpaceId.{SpaceId}
use Rattle.cloak_base.specs.Constants.{frame_of}
use Rattle.cloak_model.specs.Ask.{ask_led, opened}
use Rattle.shadow_fold.specs.declared.entry.Regime.TheVariants.{Outside}
use Rattle.cloaked_side.specs.Leading.{IsRegimeIn}
use Rattle.cloaked_side.specs.Seeing.{space_in}
use Rattle.cloaked_side.proofs.Atomics.{led_word_told, led_word_fault}
use Rattle.cloaked_side.proofs.Holders.{none_still}
use Rattle.cloaked_side.proofs.Known.{viewed_outside}
use Rattle.cloaked_side.proofs.Sided.{within_of}
use Rattle.cloaked_side.proofs.side.Side.led_word.Goals as goal

pub returns-in-Err-clause-follows : goal.returns-in-Err-clause-follows
returns-in-Err-clause-follows g c first w sees none unclashed =
    led_word_fault g.E.Emit.gave first c.led.new.self c.args.satp c.args.access c.in-Err.cause w
    (c.in-Err.ensures.leads first w sees (viewed_outside (space_in c.args.self.now.regime) c.args.satp c.args.access none) unclashed)

pub returns-in-Ok-clause-follows : goal.returns-in-Ok-clause-follows
returns-in-Ok-clause-follows g c first w sees none unclashed =
    let gave = g.E.Emit.gave in
    let old = c.args.self.now in
    let mid = c.led.new.self in
    let a = c.args.access in
    let regime = Outside c.args.satp a.mode a.sum a.mxr in
    let told = ask_led c.args.satp a w in
    let viewed = viewed_outside (space_in old.regime) c.args.satp a none in
    let kept = within_of gave old mid c.led.ensures.keeps in
    let so = c.in-Ok.ensures.leads first w sees viewed unclashed in
    led_word_told gave first mid c.read_settled-word.new.self c.args.satp a so.0 c.in-Ok.led.pa _ w so.1 so.2.by.place
    (c.read_settled-word.ensures.told first (opened c.args.satp a so.0 told.world)
    (c.settle_led.ensures.sees first told.world so.0 so.1.stands
    (subst (λ (o : Option SpaceId). IsRegimeIn o regime) (sym (ap space_in kept.stays.regime)) viewed) so.2))

pub returns-in-Ok-clause-value : goal.returns-in-Ok-clause-value
returns-in-Ok-clause-value g c =
    let mid = c.settle_led.new.self in
    let kept = within_of g.E.Emit.gave mid c.read_settled-word.new.self c.read_settled-word.ensures.keeps in
    record {
      inside = search rules;
      outside = none_still mid.memory.now.pager c.read_settled-word.new.self.memory.now.pager
          (frame_of c.in-Ok.led.pa) kept.no_more
          c.settle_led.ensures.outside;
      width = search rules;
      aligned = search rules;
    }
