use Rattle.std.proofs.Common.{◌≡◌, ◌∙◌, Some, Ok, sym}
use Rattle.cloak_model.specs.declared.answer.Answer.TheVariants as answer
use Rattle.cloak_model.specs.AskPages.{reached, reach_by_table}
use Rattle.cloak_model.proofs.PagesLater.{later_reached}
use Rattle.cloaked_side.proofs.Answering.{asked_drawn, asked_undrawn}
use Rattle.cloaked_side.proofs.Known.{led_inside}
use Rattle.cloaked_side.proofs.Sided.{reach_refused}
use Rattle.cloaked_side.proofs.program_side.ProgramSide.reach_led.Goals as goal

pub returns-then-self-clause-told : goal.returns-then-self-clause-told
unfolding reach_by_table
returns-then-self-clause-told g c first w s at_space same so unclashed =
    let side = c.args.self.now.side in
    asked_drawn g.E.Emit.gave first side _ _ c.args.va c.args.kind (reached c.args.q c.args.va c.args.kind) w
    (later_reached c.args.q c.args.va c.args.kind) unclashed
    (λ u. (led_inside g.E.Emit.gave first side side.regime c.args.va c.args.kind (Some c.args.q) (Ok c.args.led.now) w same so u).1.stands)
    c.if-self.true c.stop.ensures.told

pub returns-clause-told : goal.returns-clause-told
unfolding reach_by_table
returns-clause-told g c first w s at_space same so unclashed =
    let side = c.args.self.now.side in
    asked_undrawn g.E.Emit.gave first side _ _ side.regime c.args.va c.args.kind (Some c.args.q) c.args.led.now
    (reached c.args.q c.args.va c.args.kind) w (later_reached c.args.q c.args.va c.args.kind) unclashed
    (led_inside g.E.Emit.gave first side side.regime c.args.va c.args.kind (Some c.args.q) (Ok c.args.led.now) w same so) c.if-self.false
    (λ walked stands led clash. c.reached.ensures.told first _ s walked stands at_space led clash)

pub returns-then-self-clause-leaves : goal.returns-then-self-clause-leaves
returns-then-self-clause-leaves g c =
    reach_refused g.E.Emit.gave c.args.self.now _ c.args.q c.args.kind _ c.stop.ensures.leaves.keeps
    (λ ok. let clash : answer.Stopped ≡ answer.Ok = sym c.stop.ensures.value ∙ ok in cc)
