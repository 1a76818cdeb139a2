use Rattle.std.proofs.Common.{◌≡◌, ◌<◌, ◌≤◌, ◌^◌, []}
use Rattle.io_traits.specs.Told.{SameFiles}
use Rattle.record_reader.specs.Reading.{reader_offset}
use Rattle.replayed_run.specs.Watching.{Watches}
use Rattle.run_story.proofs.Again.{ReadAgain}
use Rattle.run_story.proofs.command.deeds_of.Given as goal

-- the items so far were read once more
abbrev pub invariant-loop : goal.invariant-loop
invariant-loop g l = record {
  so_far : Watches l.bundle [] l.fn.watch →
      ReadAgain l.bundle (g.S.Shelf.held l.fn.shelf l.name) l.presented l.counter l.reader l.watch l.deeds;
  named : l.reader.name.now ≡ l.name;
  files : SameFiles (g.S.Shelf.held l.fn.shelf) (g.S.Shelf.held l.shelf);
  reading : g.S.Shelf.reading_faults l.shelf ≡ g.S.Shelf.reading_faults l.fn.shelf;
  writing : g.S.Shelf.writing_faults l.shelf ≡ g.S.Shelf.writing_faults l.fn.shelf;
  settled : g.S.Shelf.is_settled l.shelf;
  low : reader_offset l.reader < 2 ^ 64;
  upto : l.counter ≤ l.presented.before;
}
