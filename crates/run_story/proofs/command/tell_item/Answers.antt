use Rattle.std.proofs.Common.{refl}
use Rattle.cloak_model.specs.Items.{item_of}
use Rattle.run_story.proofs.Ends.{lacks_next}
use Rattle.run_story.proofs.command.tell_item.Goals as goal

pub returns-in-Err-clause-tells : goal.returns-in-Err-clause-tells
returns-in-Err-clause-tells g c = λ items is count begins tells.
    let told = g.S.Shelf.held c.args.shelf.now c.args.name.now in
    lacks_next c.args.bundle.now told items (item_of c.args.item.now) _ _ c.take.new.self c.in-Err.untold refl
    (c.in-Err.ensures c.args.bundle.now told items is count tells)
