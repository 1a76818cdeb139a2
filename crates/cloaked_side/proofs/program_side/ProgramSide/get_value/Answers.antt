use Rattle.std.proofs.Common.{None, Ok, Err, sym}
use Rattle.cloak_base.specs.declared.names.Kind.TheVariants.{Load}
use Rattle.cloak_model.specs.AskPages.{got, get_by_table}
use Rattle.cloak_model.proofs.PagesLater.{later_got}
use Rattle.cloaked_side.proofs.Answering.{asked_drawn, asked_fault, asked_undrawn, fault_told, get_at_led, got_fault}
use Rattle.cloaked_side.proofs.Known.{asked_inside, leads_stand, led_inside, opened_on, viewed_own}
use Rattle.cloaked_side.proofs.Sided.{within_of}
use Rattle.cloaked_side.proofs.program_side.ProgramSide.get_value.Goals as goal

pub returns-then-self-clause-follows : goal.returns-then-self-clause-follows
unfolding get_by_table
returns-then-self-clause-follows g c first w s sees at_space unclashed =
    let gave = g.E.Emit.gave in
    let old = c.args.self.now.side in
    let mid = c.led-to.new.self in
    asked_drawn gave first mid _ _ c.args.va Load (got c.args.va c.args.width) w (later_got c.args.va c.args.width) unclashed
    (λ u. leads_stand gave first mid old.regime c.args.va Load None c.led-to.result _
    (led_inside gave first mid old.regime c.args.va Load None c.led-to.result w (asked_inside gave first old s c.args.va Load w sees at_space)
    (c.led-to.ensures.leads first w sees (viewed_own old.regime)) u))
    c.if-self.true c.answer.ensures.told

pub returns-in-Err-clause-follows : goal.returns-in-Err-clause-follows
unfolding get_by_table
returns-in-Err-clause-follows g c first w s sees at_space unclashed =
    let gave = g.E.Emit.gave in
    let old = c.args.self.now.side in
    let mid = c.led-to.new.self in
    asked_fault gave first mid _ _ c.args.va Load (got c.args.va c.args.width) c.in-Err.cause w (later_got c.args.va c.args.width)
    (got_fault c.args.va c.args.width c.in-Err.cause) unclashed
    (led_inside gave first mid old.regime c.args.va Load None (Err c.in-Err.cause) w (asked_inside gave first old s c.args.va Load w sees at_space)
    (c.in-Err.ensures.leads first w sees (viewed_own old.regime)))
    (fault_told gave mid _ _ c.in-Err.cause c.if-self.false c.answer-in-Err.ensures.told)

pub returns-in-Ok-clause-follows : goal.returns-in-Ok-clause-follows
unfolding get_by_table
returns-in-Ok-clause-follows g c first w s sees at_space unclashed =
    let gave = g.E.Emit.gave in
    let old = c.args.self.now.side in
    let mid = c.led-to.new.self in
    let kept = (within_of gave old mid c.led-to.ensures.keeps).stays in
    asked_undrawn gave first mid _ _ old.regime c.args.va Load None c.in-Ok.led (got c.args.va c.args.width) w (later_got c.args.va c.args.width) unclashed
    (led_inside gave first mid old.regime c.args.va Load None (Ok c.in-Ok.led) w (asked_inside gave first old s c.args.va Load w sees at_space)
    (c.in-Ok.ensures.leads first w sees (viewed_own old.regime))) c.if-self.false
    (λ walked stands led clash.
    get_at_led gave first _ c.args.va c.args.width c.in-Ok.led.pa walked _ _ led.by.place
    (c.get_settled.ensures.told first _
    (opened_on gave first mid c.settle_led.new.self s old.regime c.args.va Load walked _ stands (sym kept.regime) at_space
    (λ viewed. c.settle_led.ensures.sees first _ walked stands viewed led))))
