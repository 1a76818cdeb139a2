use Rattle.std.proofs.Common.{◌∙◌}
use Rattle.cloak_model.specs.Items.{item_of}
use Rattle.record_json.proofs.ObjectsSoFar.{place_more, text_more}
use Rattle.record_json.proofs.showing.ObjectsOutputTakeItems.take_item.Goals as goal

pub returns : goal.returns
returns g c = λ first before few took. record {
  text = text_more first.selection.now before (item_of c.args.item.now) c.args.self.now.place took.at took.text
      (rw took.same_selection at c.put_next_object-put.ensures.text);
  at = rw took.same_selection at c.put_next_object-put.ensures.place
      ∙ place_more first.selection.now before (item_of c.args.item.now) c.args.self.now.place took.at;
  same_selection = took.same_selection;
  same_out = took.same_out;
}
