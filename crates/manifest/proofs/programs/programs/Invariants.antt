use Rattle.std.proofs.Common.{◌≡◌, ◌+◌, ◌++◌, ◌∷◌, [], ℕ, List, Option, Result, Ok, length, drop}
use Rattle.std.specs.Prelude.{All}
use Rattle.toml.specs.View.{items_view}
use Rattle.command_parts.specs.Outside.{OnlyRead, files}
use Rattle.cloak_model.specs.declared.image.Program.{Program}
use Rattle.cloak_model.specs.Bundle.{IsProgramIn}
use Rattle.manifest.specs.Faults.{Fault, Then}
use Rattle.manifest.specs.Sources.{InTurn, Listing}
use Rattle.manifest.specs.Images.{ProgramReads}
use Rattle.manifest.proofs.programs.programs.Given as goal

-- the programs so far
abbrev pub invariant-loop-index : goal.invariant-loop-index
invariant-loop-index g l =
    let Reads = Listing (ProgramReads (g.S.Shelf.held l.fn.shelf) l.manifest l.frames) in
    record {
      read : (r : Result (List Program) Fault) → InTurn Reads (l.index + 1) (items_view (drop l.index l.tables)) l.programs.items r →
          InTurn Reads 1 (items_view l.tables) [] r;
      count : length l.programs.items ≡ l.index;
      in_image : All (IsProgramIn l.frames) l.programs.items;
      only : OnlyRead (files g.S.Shelf l.fn.shelf) (files g.S.Shelf l.shelf);
      settled : g.S.Shelf.is_settled l.shelf;
    }
