use Rattle.cloaked_side.proofs.side.Side.led.Goals as goal

pub returns-then-is_bare-clause-leads : goal.returns-then-is_bare-clause-leads
returns-then-is_bare-clause-leads g c first w sees viewed =
    c.led_from.ensures.leads first w c.args.cloaked (c.look_bare-found.ensures.found first w c.args.cloaked sees viewed)

pub returns-clause-leads : goal.returns-clause-leads
returns-clause-leads g c first w sees viewed =
    c.led_from-2.ensures.leads first w c.args.cloaked (c.look_up-found.ensures.found first w sees viewed)
