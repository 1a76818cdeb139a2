use Rattle.std.proofs.Common.{◌∙◌, [], ◌∷◌, ◌++◌, refl, ap, arith, length-append, Ok, Err}
use Rattle.cloak_model.specs.Items.{item_of}
use Rattle.read_back.proofs.ItemsRead.{at_front}
use Rattle.run_story.proofs.Ends.{ends_after}
use Rattle.run_story.proofs.SoFar.{begins_with, item_untold, stands_on, tells_item}
use Rattle.run_story.proofs.command.tell.Goals as goal

pub loop-item-init : goal.loop-item-init
loop-item-init g c = record {
  so_far = record {
    items = [];
    count = refl;
    stands = at_front _ c.open-reader.result c.open-reader.ensures.front;
    tells = c.in-Ok.ensures _;
  };
  named = c.open-reader.ensures.name;
  files = λ name. refl;
  reading = refl;
  writing = refl;
  settled = c.requires.settled;
  low = let start = c.open-reader.ensures.start in omega (arith, start);
  few = let start = c.open-reader.ensures.start in omega (arith, start);
}

pub loop-item-preserved : goal.loop-item-preserved
loop-item-preserved g c =
    let was = c.loop-item.invariant in
    let same = ap (λ n. g.S.Shelf.held c.loop-item.shelf n) was.named ∙ was.files c.args.name.now in
    let found = c.in-Ok-next_item.ensures in
    let told = c.in-Ok-tell_item.ensures in
    let stands = (stands_on _ _ c.loop-item.reader c.next_item.new.reader (item_of c.in-Ok-next_item.item)
    was.so_far.items same found.next was.so_far.stands) in
    let tells = tells_item c.args.bundle.now (g.S.Shelf.held c.args.shelf.now c.args.name.now)
    (g.S.Shelf.held c.next_item.new.shelf c.args.name.now) was.so_far.items (item_of c.in-Ok-next_item.item)
    (g.S.Shelf.reading_faults c.next_item.new.shelf) (g.S.Shelf.reading_faults c.tell_item.new.shelf) c.loop-item.story
    c.tell_item.new.story (Ok tt)
    (found.files c.args.name.now ∙ was.files c.args.name.now)
    (told.tells was.so_far.items found.item was.so_far.count)
    (begins_with _ c.next_item.new.reader (was.so_far.items ++ (item_of c.in-Ok-next_item.item) ∷ []) stands) was.so_far.tells in
    let size = length-append was.so_far.items ((item_of c.in-Ok-next_item.item) ∷ []) in
    let count = was.so_far.count in
    let few = was.few in
    let moves = found.moves in
    record {
      so_far = record {
        items = was.so_far.items ++ (item_of c.in-Ok-next_item.item) ∷ [];
        count = omega (arith, size, count);
        stands = stands;
        tells = tells.0;
      };
      named = ap (λ n. n.now) found.same ∙ was.named;
      files = λ name. told.files name ∙ (found.files name ∙ was.files name);
      reading = tells.1 ∙ (found.counts ∙ was.reading);
      writing = told.writing ∙ (found.writing ∙ was.writing);
      settled = told.settled;
      low = found.within;
      few = omega (arith, few, moves);
    }

pub returns-in-Err-clause-tells : goal.returns-in-Err-clause-tells
returns-in-Err-clause-tells g c =
    let was = c.loop-item.invariant in
    let same = ap (λ n. g.S.Shelf.held c.loop-item.shelf n) was.named ∙ was.files c.args.name.now in
    let found = c.in-Err.ensures in
    c.told_whole.ensures c.args.bundle.now _ was.so_far.items _ _ was.so_far.tells
    (ends_after _ _ c.loop-item.reader c.next_item.new.reader c.in-Err.ended _ _ _ was.so_far.items same was.reading
    found.next found.counts was.so_far.stands)

pub returns-in-Err-tell_item-clause-tells : goal.returns-in-Err-tell_item-clause-tells
returns-in-Err-tell_item-clause-tells g c =
    let was = c.loop-item.invariant in
    let same = ap (λ n. g.S.Shelf.held c.loop-item.shelf n) was.named ∙ was.files c.args.name.now in
    let found = c.in-Ok-next_item.ensures in
    let told = c.in-Err-tell_item.ensures in
    let stands = (stands_on _ _ c.loop-item.reader c.next_item.new.reader (item_of c.in-Ok-next_item.item)
    was.so_far.items same found.next was.so_far.stands) in
    item_untold c.args.bundle.now _ c.next_item.new.reader was.so_far.items (item_of c.in-Ok-next_item.item) _ _ _ c.tell_item.new.story
    c.in-Err-tell_item.untold stands (found.counts ∙ was.reading)
    (tells_item c.args.bundle.now (g.S.Shelf.held c.args.shelf.now c.args.name.now)
    (g.S.Shelf.held c.next_item.new.shelf c.args.name.now) was.so_far.items (item_of c.in-Ok-next_item.item)
    (g.S.Shelf.reading_faults c.next_item.new.shelf) (g.S.Shelf.reading_faults c.tell_item.new.shelf) c.loop-item.story
    c.tell_item.new.story (Err c.in-Err-tell_item.untold)
    (found.files c.args.name.now ∙ was.files c.args.name.now)
    (told.tells was.so_far.items found.item was.so_far.count)
    (begins_with _ c.next_item.new.reader (was.so_far.items ++ (item_of c.in-Ok-next_item.item) ∷ []) stands) was.so_far.tells)
