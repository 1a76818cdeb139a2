use Rattle.std.proofs.Common.{◌≡◌, ◌≤◌, ◌-◌, ◌+◌, ◌^◌, length, min, IfSome}
use Rattle.io_traits.specs.Told.{SameFiles}
use Rattle.record_reader.proofs.Filled.{FrontFilled}
use Rattle.record_reader.proofs.ahead.Ahead.fill.Given as goal

-- the bytes so far stand at the front
abbrev pub invariant-loop-count : goal.invariant-loop-count
invariant-loop-count g l = record {
  front : IfSome (g.S.Shelf.held l.fn.shelf l.name) (λ bytes. FrontFilled l.at l.count l.into bytes);
  few : l.count ≤ l.limit;
  limit : l.limit ≡ min 8192 (2 ^ 64 - 1 - l.at);
  fits : l.at + l.limit ≤ 2 ^ 64 - 1;
  full : length l.into ≡ length l.fn.into;
  files : SameFiles (g.S.Shelf.held l.fn.shelf) (g.S.Shelf.held l.shelf);
  reading : g.S.Shelf.reading_faults l.shelf ≡ g.S.Shelf.reading_faults l.fn.shelf;
  writing : g.S.Shelf.writing_faults l.shelf ≡ g.S.Shelf.writing_faults l.fn.shelf;
  settled : g.S.Shelf.is_settled l.fn.shelf → g.S.Shelf.is_settled l.shelf;
}

abbrev pub decreases-loop-count : goal.decreases-loop-count
decreases-loop-count g l = l.limit - l.count
