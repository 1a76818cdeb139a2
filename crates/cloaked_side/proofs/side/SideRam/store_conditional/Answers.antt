use Rattle.std.proofs.Common.{◌∙◌}
use Rattle.cloaked_side.proofs.Atomics.{conditional_unclashed, conditional_told, conditional_fault}
use Rattle.cloaked_side.proofs.Serving.{wrap_outside}
use Rattle.cloaked_side.proofs.Sided.{within_of}
use Rattle.cloaked_side.proofs.side.SideRam.store_conditional.Goals as goal

pub returns-in-Err-clause-follows : goal.returns-in-Err-clause-follows
returns-in-Err-clause-follows g c first w sees unclashed =
    let gave = g.E.Emit.gave in
    let old = c.args.self.now in
    let kept = within_of gave old c.led_word.new.self c.led_word.ensures.keeps in
    let u = conditional_unclashed c.args.satp c.args.access c.args.hart c.args.v w unclashed in
    wrap_outside gave first old c.led_word.new.self _ _ kept.stays.regime sees.1
    (conditional_fault gave first c.led_word.new.self c.args.satp c.args.access c.args.hart c.args.v c.in-Err.cause w
    (c.in-Err.ensures.follows first w sees.0 sees.1 u))

pub returns-in-Ok-clause-follows : goal.returns-in-Ok-clause-follows
returns-in-Ok-clause-follows g c first w sees unclashed =
    let gave = g.E.Emit.gave in
    let old = c.args.self.now in
    let mid = c.led_word.new.self in
    let new = c.write_if.new.self in
    let kept = within_of gave old mid c.led_word.ensures.keeps in
    let kept_last = within_of gave mid new c.write_if.ensures.keeps in
    let u = conditional_unclashed c.args.satp c.args.access c.args.hart c.args.v w unclashed in
    wrap_outside gave first old new _ _ (kept_last.stays.regime ∙ kept.stays.regime) sees.1
    (conditional_told gave first mid new c.args.satp c.args.access c.args.hart c.args.v c.in-Ok.led _ c.is_reserved.result c.marked-mark.result w
    (c.in-Ok.ensures.follows first w sees.0 sees.1 u) c.marked-mark.ensures c.is_reserved.ensures
    (λ v stands. c.write_if.ensures.told first v stands))
