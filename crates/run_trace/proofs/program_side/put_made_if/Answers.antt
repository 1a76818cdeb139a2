use Rattle.std.proofs.Common.{◌∙◌, sym}
use Rattle.cloak_model.specs.Items.{item_of}
use Rattle.run_trace.proofs.ProgramAdds.{fit_by_made}
use Rattle.run_trace.proofs.program_side.put_made_if.Goals as goal

pub returns-then-made : goal.returns-then-made
returns-then-made g c number turns next stands is =
    rw c.if-made.true (c.put_made.ensures number turns next stands
    (fit_by_made next.unfit next.stage (item_of c.args.item.now) (sym c.if-made.true ∙ is)))

pub returns-else-made : goal.returns-else-made
returns-else-made g c number turns next stands is = rw c.if-made.false c.text.ensures
