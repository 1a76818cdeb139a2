use Rattle.std.proofs.Common.{◌∙◌}
use Rattle.cloaked_side.proofs.Atomics.{combine_unclashed, combined_told, combine_fault}
use Rattle.cloaked_side.proofs.Serving.{wrap_outside}
use Rattle.cloaked_side.proofs.Sided.{within_of}
use Rattle.cloaked_side.proofs.side.SideRam.combine.Goals as goal

pub returns-in-Err-clause-follows : goal.returns-in-Err-clause-follows
returns-in-Err-clause-follows g c first w sees unclashed =
    let gave = g.E.Emit.gave in
    let old = c.args.self.now in
    let kept = within_of gave old c.led_word.new.self c.led_word.ensures.keeps in
    let u = combine_unclashed c.args.satp c.args.access c.args.op c.args.operand w unclashed in
    wrap_outside gave first old c.led_word.new.self _ _ kept.stays.regime sees.1
    (combine_fault gave first c.led_word.new.self c.args.satp c.args.access c.args.op c.args.operand c.in-Err.cause w
    (c.in-Err.ensures.follows first w sees.0 sees.1 u))

pub returns-in-Ok-clause-follows : goal.returns-in-Ok-clause-follows
returns-in-Ok-clause-follows g c first w sees unclashed =
    let gave = g.E.Emit.gave in
    let old = c.args.self.now in
    let mid = c.led_word.new.self in
    let new = c.write_settled.new.self in
    let kept = within_of gave old mid c.led_word.ensures.keeps in
    let kept_last = within_of gave mid new c.write_settled.ensures.keeps in
    let u = combine_unclashed c.args.satp c.args.access c.args.op c.args.operand w unclashed in
    wrap_outside gave first old new _ _ (kept_last.stays.regime ∙ kept.stays.regime) sees.1
    (combined_told gave first mid new c.args.satp c.args.access c.args.op c.args.operand c.combine.result c.in-Ok.led w
    (c.in-Ok.ensures.follows first w sees.0 sees.1 u) c.combine.ensures
    (λ v stands. c.write_settled.ensures.told first v stands))
