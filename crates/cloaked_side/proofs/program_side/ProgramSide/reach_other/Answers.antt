use Rattle.std.proofs.Common.{Some, Ok, subst}
use Rattle.cloaked_side.specs.Leading.{Reaches}
use Rattle.cloaked_side.proofs.program_side.ProgramSide.reach_other.Goals as goal

pub returns-clause-told : goal.returns-clause-told
returns-clause-told g c =
    subst (λ led. Reaches g.E.Emit.gave c.args.self.now.side c.reach_led.new.self.side c.reach_led.result c.args.q c.args.va c.args.kind (Some (Ok led)))
    c.handed_on-led.ensures c.reach_led.ensures.told
