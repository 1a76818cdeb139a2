use Rattle.std.proofs.Common.{◌≡◌, ◌≤◌, ◌-◌, length, take, IfSome}
use Rattle.io_traits.specs.Told.{SameFiles}
use Rattle.command_parts.proofs.files.read_into.Given as goal

-- the bytes so far are a front of the file's
abbrev pub invariant-loop-piece : goal.invariant-loop-piece
invariant-loop-piece g l = record {
  front : IfSome (g.S.Shelf.held l.fn.shelf l.name) (λ told. l.bytes.items ≡ take (length l.bytes.items) told);
  few : length l.bytes.items ≤ l.count;
  files : SameFiles (g.S.Shelf.held l.fn.shelf) (g.S.Shelf.held l.shelf);
  reading : g.S.Shelf.reading_faults l.shelf ≡ g.S.Shelf.reading_faults l.fn.shelf;
  settled : g.S.Shelf.is_settled l.shelf;
  writing : g.S.Shelf.writing_faults l.shelf ≡ g.S.Shelf.writing_faults l.fn.shelf;
}

abbrev pub decreases-loop-piece : goal.decreases-loop-piece
decreases-loop-piece g l = l.count - length l.bytes.items
