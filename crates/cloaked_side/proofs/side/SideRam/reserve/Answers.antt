use Rattle.std.proofs.Common.{◌∙◌}
use Rattle.cloaked_side.proofs.Atomics.{reserve_unclashed, reserved_told, reserve_fault}
use Rattle.cloaked_side.proofs.Serving.{wrap_outside}
use Rattle.cloaked_side.proofs.Sided.{within_of}
use Rattle.cloaked_side.proofs.side.SideRam.reserve.Goals as goal

pub returns-in-Err-clause-follows : goal.returns-in-Err-clause-follows
returns-in-Err-clause-follows g c first w sees unclashed =
    let gave = g.E.Emit.gave in
    let old = c.args.self.now in
    let kept = within_of gave old c.led_word.new.self c.led_word.ensures.keeps in
    let u = reserve_unclashed c.args.satp c.args.access c.args.hart w unclashed in
    wrap_outside gave first old c.led_word.new.self _ _ kept.stays.regime sees.1
    (reserve_fault gave first c.led_word.new.self c.args.satp c.args.access c.args.hart c.in-Err.cause w
    (c.in-Err.ensures.follows first w sees.0 sees.1 u))

pub returns-in-Ok-clause-follows : goal.returns-in-Ok-clause-follows
returns-in-Ok-clause-follows g c first w sees unclashed =
    let gave = g.E.Emit.gave in
    let old = c.args.self.now in
    let mid = c.led_word.new.self in
    let new = c.reserve_word.new.self in
    let kept = within_of gave old mid c.led_word.ensures.keeps in
    let kept_last = within_of gave mid new c.reserve_word.ensures.keeps in
    let u = reserve_unclashed c.args.satp c.args.access c.args.hart w unclashed in
    wrap_outside gave first old new _ _ (kept_last.stays.regime ∙ kept.stays.regime) sees.1
    (reserved_told gave first mid new c.args.satp c.args.access c.args.hart c.in-Ok.led w
    (c.in-Ok.ensures.follows first w sees.0 sees.1 u) (λ v stands. c.reserve_word.ensures.told first v stands))
