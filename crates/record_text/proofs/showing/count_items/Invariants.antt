use Rattle.std.proofs.Common.{◌≡◌, ◌<◌, ◌^◌, ◌-◌}
use Rattle.io_traits.specs.Told.{SameFiles}
use Rattle.record_reader.specs.Reading.{reader_offset}
use Rattle.record_text.proofs.SoFar.{CountedSoFar}
use Rattle.record_text.proofs.showing.count_items.Given as goal

-- the items so far were counted
abbrev pub invariant-loop-item : goal.invariant-loop-item
invariant-loop-item g l = record {
  counts : CountedSoFar l.selection (g.S.Shelf.held l.fn.shelf l.name) l.reader l.counts l.place;
  named : l.reader.name.now ≡ l.name;
  files : SameFiles (g.S.Shelf.held l.fn.shelf) (g.S.Shelf.held l.shelf);
  reading : g.S.Shelf.reading_faults l.shelf ≡ g.S.Shelf.reading_faults l.fn.shelf;
  writing : g.S.Shelf.writing_faults l.shelf ≡ g.S.Shelf.writing_faults l.fn.shelf;
  settled : g.S.Shelf.is_settled l.shelf;
  low : reader_offset l.reader < 2 ^ 64;
}

abbrev pub decreases-loop-item : goal.decreases-loop-item
decreases-loop-item g l = 2 ^ 64 - reader_offset l.reader
