use Rattle.std.proofs.Common.{◌≡◌, ◌≤◌, ◌+◌, [], ℕ, List, Option, Result, length, drop}
use Rattle.std.specs.Prelude.{All}
use Rattle.toml.specs.View.{items_view}
use Rattle.command_parts.specs.Outside.{OnlyRead, files}
use Rattle.cloak_model.specs.declared.image.Segment.{Segment}
use Rattle.cloak_model.specs.Bundle.{IsSegmentIn, segment_counts}
use Rattle.manifest.specs.Faults.{Fault}
use Rattle.manifest.specs.Sources.{InTurn}
use Rattle.manifest.specs.Images.{SegmentReads}
use Rattle.manifest.proofs.segments.segments.Given as goal

-- the segments so far
abbrev pub invariant-loop-index : goal.invariant-loop-index
invariant-loop-index g l =
    let Reads = SegmentReads (g.S.Shelf.held l.fn.shelf) l.manifest l.frames in
    record {
      read : (r : Result (List Segment) Fault) → InTurn Reads (l.index + 1) (items_view (drop l.index l.tables)) l.segments.items r →
          InTurn Reads 1 (items_view l.tables) [] r;
      few : length l.segments.items ≤ segment_counts.high;
      in_ram : All (IsSegmentIn l.frames) l.segments.items;
      only : OnlyRead (files g.S.Shelf l.fn.shelf) (files g.S.Shelf l.shelf);
      settled : g.S.Shelf.is_settled l.shelf;
    }
