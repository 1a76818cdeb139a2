use Rattle.std.proofs.Common.{◌∙◌, Ok, Err, refl, ap, subst, arith}
use Rattle.cloak_model.specs.Items.{item_of}
use Rattle.record_text.specs.Counting.{AreCounts, Chosen, chosen_more}
use Rattle.read_back.proofs.ItemsRead.{finds, at_front, read_to, reads_since}
use Rattle.record_text.proofs.SoFar.{counts_open, counts_on}
use Rattle.record_text.proofs.showing.count_items.Goals as goal

pub loop-item-init : goal.loop-item-init
loop-item-init g c = record {
  counts = counts_open _ _ c.open-reader.result _ (at_front _ c.open-reader.result c.open-reader.ensures.front) c.new-counts.ensures;
  named = c.open-reader.ensures.name;
  files = λ name. refl;
  reading = refl;
  writing = refl;
  settled = c.requires;
  low = let start = c.open-reader.ensures.start in omega (arith, start);
}

pub loop-item-preserved : goal.loop-item-preserved
loop-item-preserved g c =
    let was = c.loop-item.invariant in
    let same = ap (λ n. g.S.Shelf.held c.loop-item.shelf n) was.named ∙ was.files c.args.name.now in
    let found = c.in-Ok.ensures in
    record {
      counts = counts_on _ _ c.loop-item.reader c.next_item.new.reader _ _ _ _ _ was.counts
          (finds _ _ c.loop-item.reader c.next_item.new.reader (Ok (item_of c.in-Ok.item)) was.counts.items
          same found.next was.counts.stands) found.moves found.within
          (λ (x : Chosen) at few old. c.count_next-place.ensures.counts x at few old)
          (λ (x : Chosen) at. c.count_next-place.ensures.place x at);
      named = ap (λ n. n.now) found.same ∙ was.named;
      files = λ name. found.files name ∙ was.files name;
      reading = found.counts ∙ was.reading;
      writing = found.writing ∙ was.writing;
      settled = found.settled;
      low = found.within;
    }

pub returns-in-Err-clause-counts : goal.returns-in-Err-clause-counts
returns-in-Err-clause-counts g c =
    let was = c.loop-item.invariant in
    let same = ap (λ n. g.S.Shelf.held c.loop-item.shelf n) was.named ∙ was.files c.args.name.now in
    let found = c.in-Err.ensures in
    record {
      items = was.counts.items;
      read = read_to _ c.loop-item.reader c.next_item.new.reader was.counts.items c.in-Err.ending _ _ was.counts.stands
          (finds _ _ c.loop-item.reader c.next_item.new.reader (Err c.in-Err.ending) was.counts.items same found.next
          was.counts.stands) (reads_since _ _ _ c.in-Err.ending was.reading found.counts);
      counted = was.counts.counted;
    }
