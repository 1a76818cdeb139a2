use Rattle.std.proofs.Common.{Some, None, [], refl, sym}
use Rattle.record_text.proofs.Shown.{begins_nothing, ends, opens}
use Rattle.record_text.proofs.showing.show_items.Goals as goal

pub for_each_item-requires-clause-none : goal.for_each_item-requires-clause-none
for_each_item-requires-clause-none g c =
    record { shows = λ old text last. opens _ old _ _ text last; same_selection = refl; same_out = refl }

pub returns-in-Err-clause-shows : goal.returns-in-Err-clause-shows
returns-in-Err-clause-shows g c = (
  None,
  record {
    items = [];
    read = record { fits = refl; file = begins_nothing _; counts = refl };
    text = (opens _ _ _ _ (rw (c.in-Err.is) at c.put_first-put.ensures.text) c.put_first-put.ensures.line).text;
  },
)

pub returns-in-Ok-end_line-clause-shows : goal.returns-in-Ok-end_line-clause-shows
returns-in-Ok-end_line-clause-shows g c =
    let read = c.in-Ok.ensures.reads in
    let shown = read.taken.shows _ (rw (c.in_default.is) at c.put_first-put.ensures.text) c.put_first-put.ensures.line in
    record {
      items = read.items;
      read = read.read;
      text = ends shown (rw (c.out-2-1.given.1 (sym read.taken.same_out), c.in-Ok-end_line.is) at c.end_line.ensures);
    }

pub returns-in-Err-end_line-clause-shows : goal.returns-in-Err-end_line-clause-shows
returns-in-Err-end_line-clause-shows g c =
    let read = c.in-Ok.ensures.reads in
    let shown = read.taken.shows _ (rw (c.in_default.is) at c.put_first-put.ensures.text) c.put_first-put.ensures.line in (
      Some c.in-Ok.ending,
      record {
        items = read.items;
        read = read.read;
        text = ends shown (rw (c.out-2-1.given.1 (sym read.taken.same_out), c.in-Err-end_line.is) at c.end_line.ensures);
      },
    )
