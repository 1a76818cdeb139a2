use Rattle.std.proofs.Common.{◌∙◌, is_ok, ap, sym}
use Rattle.cloak_model.specs.Items.{item_of}
use Rattle.run_trace.proofs.ProgramAdds.{made_fit, none_fit, none_made}
use Rattle.run_trace.proofs.program_side.is_made.Goals as goal

pub returns-in-Err : goal.returns-in-Err
returns-in-Err c number turns next stands is =
    none_made next.unfit next.stage (item_of c.args.item.now) (ap is_ok (sym c.in-Err.is) ∙ is)

pub returns-in-Ok : goal.returns-in-Ok
returns-in-Ok c number turns next stands is =
    c.made_with.ensures number turns next stands (none_fit next.unfit (ap is_ok (sym c.in-Ok.is) ∙ is))
    ∙ made_fit next.unfit next.stage (item_of c.args.item.now) (ap is_ok (sym c.in-Ok.is) ∙ is)
