use Rattle.std.proofs.Common.{◌≡◌, ◌<◌, ◌≤◌, ◌^◌, ◌-◌}
use Rattle.io_traits.specs.Told.{SameFiles}
use Rattle.record_reader.specs.Reading.{reader_offset}
use Rattle.run_story.proofs.SoFar.{ToldSoFar}
use Rattle.run_story.proofs.command.tell.Given as goal

-- the items so far were read and told
abbrev pub invariant-loop-item : goal.invariant-loop-item
invariant-loop-item g l = record {
  so_far : ToldSoFar l.bundle (g.S.Shelf.held l.fn.shelf l.name) l.reader l.taken l.story;
  named : l.reader.name.now ≡ l.name;
  files : SameFiles (g.S.Shelf.held l.fn.shelf) (g.S.Shelf.held l.shelf);
  reading : g.S.Shelf.reading_faults l.shelf ≡ g.S.Shelf.reading_faults l.fn.shelf;
  writing : g.S.Shelf.writing_faults l.shelf ≡ g.S.Shelf.writing_faults l.fn.shelf;
  settled : g.S.Shelf.is_settled l.shelf;
  low : reader_offset l.reader < 2 ^ 64;
  few : l.taken ≤ reader_offset l.reader;
}

abbrev pub decreases-loop-item : goal.decreases-loop-item
decreases-loop-item g l = 2 ^ 64 - reader_offset l.reader
