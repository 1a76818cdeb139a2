use Rattle.std.proofs.Common.{◌∙◌, [], ◌∷◌, ◌++◌, Ok, Err, refl, ap, arith, length-append}
use Rattle.cloak_model.specs.Items.{item_of}
use Rattle.read_back.proofs.ItemsRead.{at_front, finds, reads_no_more, reads_since, takes_no_more, took_more}
use Rattle.read_back.proofs.items.for_each_item.Goals as goal

pub loop-item-init : goal.loop-item-init
loop-item-init g c = record {
  taken = record {
    items = [];
    stands = at_front _ c.open-reader.result c.open-reader.ensures.front;
    taken = c.requires.none;
    few = omega arith;
  };
  named = c.open-reader.ensures.name;
  files = λ name. refl;
  reading = refl;
  writing = refl;
  settled = c.requires.settled;
  low = let start = c.open-reader.ensures.start in omega (arith, start);
}

pub loop-item-preserved : goal.loop-item-preserved
loop-item-preserved g c =
    let was = c.loop-item.invariant in
    let same = ap (λ n. g.S.Shelf.held c.loop-item.shelf n) was.named ∙ was.files c.args.name.now in
    let found = c.in-Ok.ensures in
    let low = found.within in
    let few = was.taken.few in
    let moved = found.moves in
    let took = c.take_item.ensures c.args.taker.now was.taken.items (omega (arith, low, few, moved)) was.taken.taken in
    record {
      taken = took_more _ _ c.loop-item.reader c.next_item.new.reader was.taken.items
          (item_of c.in-Ok.item)
          (finds _ _ c.loop-item.reader c.next_item.new.reader (Ok (item_of c.in-Ok.item))
          was.taken.items same found.next was.taken.stands)
          (rw (c.in_default.is) at took) few moved;
      named = ap (λ n. n.now) found.same ∙ was.named;
      files = λ name. found.files name ∙ was.files name;
      reading = found.counts ∙ was.reading;
      writing = found.writing ∙ was.writing;
      settled = found.settled;
      low = found.within;
    }

pub returns-in-Err-clause-reads : goal.returns-in-Err-clause-reads
returns-in-Err-clause-reads g c =
    let was = c.loop-item.invariant in
    let same = ap (λ n. g.S.Shelf.held c.loop-item.shelf n) was.named ∙ was.files c.args.name.now in
    let found = c.in-Err.ensures in
    let few = was.taken.few in
    let low = was.low in
    reads_no_more _ _ c.loop-item.reader c.next_item.new.reader _ _ was.taken.items c.in-Err.ending was.taken.stands
    was.taken.taken (omega (arith, few, low))
    (finds _ _ c.loop-item.reader c.next_item.new.reader (Err c.in-Err.ending) was.taken.items same found.next
    was.taken.stands) (reads_since _ _ _ c.in-Err.ending was.reading found.counts)

pub returns-in-Err-take_item-clause-reads : goal.returns-in-Err-take_item-clause-reads
returns-in-Err-take_item-clause-reads g c =
    let was = c.loop-item.invariant in
    let same = ap (λ n. g.S.Shelf.held c.loop-item.shelf n) was.named ∙ was.files c.args.name.now in
    let found = c.in-Ok.ensures in
    let low = found.within in
    let few = was.taken.few in
    let moved = found.moves in
    let took = c.take_item.ensures c.args.taker.now was.taken.items (omega (arith, low, few, moved)) was.taken.taken in
    let long = length-append was.taken.items (item_of c.in-Ok.item ∷ []) in
    takes_no_more _ _ c.next_item.new.reader _ _ (was.taken.items ++ item_of c.in-Ok.item ∷ [])
    c.in-Err-take_item.stop
    (finds _ _ c.loop-item.reader c.next_item.new.reader (Ok (item_of c.in-Ok.item))
    was.taken.items same found.next was.taken.stands)
    (rw (c.in-Err-take_item.is) at took) (omega (arith, long, low, few, moved))
    (found.counts ∙ was.reading)
