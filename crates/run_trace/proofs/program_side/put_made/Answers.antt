use Rattle.cloak_model.specs.Items.{item_of}
use Rattle.kernel_report.proofs.PutFacts.{text_is}
use Rattle.run_trace.proofs.ProgramAdds.{made_as}
use Rattle.run_trace.proofs.program_side.put_made.Goals as goal

pub returns-in-None : goal.returns-in-None
returns-in-None g c number turns next stands fits = rw c.in-None.is c.text.ensures

pub returns-in-Some : goal.returns-in-Some
returns-in-Some g c number turns next stands fits =
    rw c.in-Some.is (text_is c.put_context_step.ensures (made_as _ next (item_of c.args.item.now) _ _ _ c.last_answer.ensures
    (c.sight_of_slot-now.ensures number turns next stands fits) (c.value_after-value.ensures number turns next stands fits)))
