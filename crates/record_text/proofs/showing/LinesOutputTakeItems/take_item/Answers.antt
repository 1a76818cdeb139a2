use Rattle.cloak_model.specs.Items.{item_of}
use Rattle.record_text.proofs.Shown.{goes_on}
use Rattle.record_text.proofs.showing.LinesOutputTakeItems.take_item.Goals as goal

pub returns : goal.returns
returns g c = λ first before few took. record {
  shows = λ old text last.
      goes_on first.selection.now old _ _ c.args.self.now.line c.put_next-put.result.1 before (item_of c.args.item.now)
      (took.shows old text last) (rw took.same_selection at c.put_next-put.ensures.text)
      (rw took.same_selection at c.put_next-put.ensures.line);
  same_selection = took.same_selection;
  same_out = took.same_out;
}
