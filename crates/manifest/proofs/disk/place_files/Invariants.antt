use Rattle.std.proofs.Common.{◌≡◌, ◌≤◌, ◌+◌, ◌*◌, ℕ, List, Result, length, drop}
use Rattle.toml.specs.View.{items_view}
use Rattle.command_parts.specs.Outside.{OnlyRead, files}
use Rattle.cloak_model.specs.Bundle.{block_counts}
use Rattle.manifest.specs.Faults.{Fault}
use Rattle.manifest.specs.Sources.{InTurn}
use Rattle.manifest.specs.Images.{FileReads}
use Rattle.manifest.proofs.disk.place_files.Given as goal

-- the files so far
abbrev pub invariant-loop-index : goal.invariant-loop-index
invariant-loop-index g l =
    let Reads = FileReads (g.S.Shelf.held l.fn.shelf) l.manifest in
    record {
      read : (r : Result (List ℕ) Fault) → InTurn Reads (l.index + 1) (items_view (drop l.index l.tables)) l.disk r →
          InTurn Reads 1 (items_view l.tables) l.fn.disk r;
      small : length l.disk ≤ 4096 * block_counts.high;
      only : OnlyRead (files g.S.Shelf l.fn.shelf) (files g.S.Shelf l.shelf);
      settled : g.S.Shelf.is_settled l.shelf;
    }
