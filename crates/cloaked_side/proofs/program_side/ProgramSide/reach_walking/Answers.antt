use Rattle.std.proofs.Common.{Some, Ok, Err, sym}
use Rattle.cloaked_side.proofs.Known.{fault_reaches, found_on}
use Rattle.cloaked_side.proofs.Sided.{own_page_on, reach_on, reach_refused, within_of}
use Rattle.cloaked_side.proofs.program_side.ProgramSide.reach_walking.Goals as goal

pub returns-in-Ok-clause-told : goal.returns-in-Ok-clause-told
returns-in-Ok-clause-told g c first w s at_space same so =
    let gave = g.E.Emit.gave in
    let kept = (within_of gave c.args.self.now.side c.led_by_walk.new.self c.led_by_walk.ensures.leaves.keeps).stays in
    found_on gave c.led_by_walk.new.self c.reach_led.new.self.side c.reach_led.result c.args.q c.args.va c.args.kind (Some (Ok c.in-Ok.led))
    c.args.self.now.side.regime (sym kept.regime) c.reach_led.ensures.told first w s at_space same
    (λ u. c.in-Ok.ensures.leads first w (Some c.args.q) (so u) u)

pub returns-in-Err-clause-told : goal.returns-in-Err-clause-told
returns-in-Err-clause-told g c first w s at_space same so =
    let gave = g.E.Emit.gave in
    let kept = (within_of gave c.args.self.now.side c.led_by_walk.new.self c.led_by_walk.ensures.leaves.keeps).stays in
    found_on gave c.led_by_walk.new.self c.answer_fault.new.self.side c.answer_fault.result c.args.q c.args.va c.args.kind (Some (Err c.in-Err.cause))
    c.args.self.now.side.regime (sym kept.regime)
    (fault_reaches gave c.led_by_walk.new.self c.answer_fault.new.self.side c.answer_fault.result c.args.q c.args.va c.args.kind c.in-Err.cause c.answer_fault.ensures.told)
    first w s at_space same
    (λ u. c.in-Err.ensures.leads first w (Some c.args.q) (so u) u)

pub returns-in-Ok-clause-leaves : goal.returns-in-Ok-clause-leaves
returns-in-Ok-clause-leaves g c =
    reach_on g.E.Emit.gave c.args.self.now _ _ c.args.q c.args.kind _ c.led_by_walk.ensures.leaves.keeps
    c.reach_led.ensures.leaves

pub returns-in-Err-clause-leaves : goal.returns-in-Err-clause-leaves
returns-in-Err-clause-leaves g c =
    reach_on g.E.Emit.gave c.args.self.now _ _ c.args.q c.args.kind _ c.led_by_walk.ensures.leaves.keeps
    (reach_refused g.E.Emit.gave (record c.args.self.now { side = c.led_by_walk.new.self }) _ c.args.q c.args.kind _
    c.answer_fault.ensures.keeps c.answer_fault.ensures.refused)

pub reach_led-requires-clause-page : goal.reach_led-requires-clause-page
reach_led-requires-clause-page g c =
    own_page_on g.E.Emit.gave c.args.self.now.side c.led_by_walk.new.self c.args.q c.led_by_walk.ensures.leaves.keeps
    c.requires.page
