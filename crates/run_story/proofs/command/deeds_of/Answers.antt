use Rattle.std.proofs.Common.{◌∙◌, [], ◌∷◌, ◌++◌, Bool, Ok, Err, refl, ap, subst, arith, length-append}
use Rattle.cloak_model.specs.Items.{item_of}
use Rattle.read_back.proofs.ItemsRead.{at_front, finds, reads_since}
use Rattle.run_story.specs.Gathering.{GathersNext}
use Rattle.run_story.proofs.Again.{all_again, ended_again, given_again, unfit_again}
use Rattle.run_story.proofs.SoFar.{stands_on}
use Rattle.run_story.proofs.command.deeds_of.Goals as goal

pub loop-init : goal.loop-init
loop-init g c = record {
  so_far = λ watches. record {
    items = [];
    count = refl;
    stands = at_front _ c.open-reader.result c.open-reader.ensures.front;
    watches = watches;
    gathers = c.in-Ok.ensures;
  };
  named = c.open-reader.ensures.name;
  files = λ name. refl;
  reading = refl;
  writing = refl;
  settled = c.requires;
  low = let start = c.open-reader.ensures.start in omega (arith, start);
  upto = omega arith;
}

pub loop-preserved : goal.loop-preserved
loop-preserved g c =
    let was = c.loop.invariant in
    let same = ap (λ n. g.S.Shelf.held c.loop.shelf n) was.named ∙ was.files c.args.name.now in
    let found = c.in-Ok-next_item.ensures in
    let i = (item_of c.in-Ok-next_item.item) in
    let more = c.loop-test.true in
    record {
      so_far = λ watches.
          let so_far = was.so_far watches in
          let took = subst
          (λ (t : Bool). GathersNext c.args.bundle.now c.args.presented.now so_far.items i c.take.new.watch c.take.new.self (Ok t))
          c.in-Ok-true.field-0-test
          (c.in-Ok-true.ensures c.args.bundle.now c.args.presented.now so_far.items found.item
          so_far.watches so_far.gathers) in
          let size = length-append so_far.items (i ∷ []) in
          let count = so_far.count in
          record {
            items = so_far.items ++ i ∷ [];
            count = omega (arith, size, count);
            stands = (stands_on _ _ c.loop.reader c.next_item.new.reader
                (item_of c.in-Ok-next_item.item) so_far.items same found.next so_far.stands);
            watches = took.0;
            gathers = took.1;
          };
      named = ap (λ n. n.now) found.same ∙ was.named;
      files = λ name. found.files name ∙ was.files name;
      reading = found.counts ∙ was.reading;
      writing = found.writing ∙ was.writing;
      settled = found.settled;
      low = found.within;
      upto = omega (arith, more);
    }

pub returns-clause-gathers : goal.returns-clause-gathers
returns-clause-gathers g c = λ longer watches fits begins within.
    let upto = c.loop.invariant.upto in
    let over = c.loop-test.false in
    all_again c.args.bundle.now _ c.args.presented.now c.loop.counter c.loop.reader c.loop.watch c.loop.deeds (omega (arith, upto, over))
    (c.loop.invariant.so_far watches)

pub returns-in-Err-clause-counts : goal.returns-in-Err-clause-counts
returns-in-Err-clause-counts g c =
    c.gathered.ensures.counts _ _
    (reads_since _ _ _ c.in-Err.ended c.loop.invariant.reading c.in-Err.ensures.counts)

pub returns-in-Err-clause-gathers : goal.returns-in-Err-clause-gathers
returns-in-Err-clause-gathers g c = λ longer watches fits begins within.
    let was = c.loop.invariant in
    let same = ap (λ n. g.S.Shelf.held c.loop.shelf n) was.named ∙ was.files c.args.name.now in
    let so_far = was.so_far watches in
    let told = g.S.Shelf.held c.args.shelf.now c.args.name.now in
    given_again c.args.bundle.now told c.args.presented.now c.loop.deeds c.in-Err.ended c.gathered.result c.gathered.ensures.same
    (λ read. ended_again c.args.bundle.now told c.args.presented.now c.loop.counter c.next_item.new.reader c.loop.deeds so_far.items longer
    c.in-Err.ended c.loop-test.true so_far.count
    (finds told _ c.loop.reader c.next_item.new.reader (Err c.in-Err.ended) so_far.items same c.in-Err.ensures.next so_far.stands)
    read (record { fits = fits; begins = begins; within = within }) so_far.gathers)

pub returns-in-Ok-false-clause-gathers : goal.returns-in-Ok-false-clause-gathers
returns-in-Ok-false-clause-gathers g c = λ longer watches fits begins within.
    let was = c.loop.invariant in
    let same = ap (λ n. g.S.Shelf.held c.loop.shelf n) was.named ∙ was.files c.args.name.now in
    let found = c.in-Ok-next_item.ensures in
    let so_far = was.so_far watches in
    let told = g.S.Shelf.held c.args.shelf.now c.args.name.now in
    let unfit = subst
    (λ (t : Bool). GathersNext c.args.bundle.now c.args.presented.now so_far.items (item_of c.in-Ok-next_item.item) c.take.new.watch c.take.new.self (Ok t))
    c.in-Ok-false.field-0-test
    (c.in-Ok-false.ensures c.args.bundle.now c.args.presented.now so_far.items found.item
    so_far.watches so_far.gathers) in
    unfit_again c.args.bundle.now told c.args.presented.now c.loop.counter unfit.0.0 c.next_item.new.reader c.take.new.self so_far.items longer
    (item_of c.in-Ok-next_item.item) c.loop-test.true so_far.count
    ((stands_on told _ c.loop.reader c.next_item.new.reader (item_of c.in-Ok-next_item.item) so_far.items same
    found.next so_far.stands))
    (record { fits = fits; begins = begins; within = within }) unfit.0.1 unfit.1
