use Rattle.std.proofs.Common.{◌∙◌, ◌||◌, Bool, Option, ℕ, ap, is_none}
use Rattle.cloak_model.specs.Items.{item_of}
use Rattle.alone_views.specs.KernelEnding.{is_end}
use Rattle.run_trace.proofs.program_side.made_with.Goals as goal

pub returns : goal.returns
returns c number turns next stands fits =
    c.is_last.ensures
    ∙ (ap (λ (b : Bool). b || is_none c.running.result) c.is_end.ensures
    ∙ ap (λ (o : Option ℕ). is_end (item_of c.args.item.now) || is_none o) (c.running.ensures number turns next stands fits))
