-- What an outlet wrote.
use Rattle.std.specs.Prelude.{ℕ, ◌≡◌, Bool, true, false, List, [], ◌∷◌, ◌++◌, take}
use Rattle.io_traits.specs.declared.shelf.Shelf as shelves
use Rattle.io_traits.specs.declared.sink.Sink as sinks
use Rattle.io_traits.specs.Told.{Grows, Rose, OtherFiles}
use Rattle.cloak_model.specs.Exchange.{Piece, recorded, shown, recorded_bytes, shown_bytes}
use Rattle.command_parts.specs.Outside.{Outside, NothingRose, outside}
use Rattle.run_command.specs.declared.outlet.Outlet.{Outlet}

-- a front of a piece
abbrev pub front_of : ℕ → Piece → Piece
front_of n (recorded bytes) = recorded (take n bytes)
front_of n (shown bytes) = shown (take n bytes)

-- One list of pieces is cut at one place: those before it are whole, a front of the piece there is left, and nothing of
-- those after it.
pub record Cut (pieces : List Piece) : Type 0 where
  pub whole : List Piece
  pub piece : Piece
  pub rest : List Piece
  pub place : pieces ≡ whole ++ piece ∷ rest
  -- the bytes of the front
  pub bytes : ℕ

-- the pieces that are left
abbrev pub pieces_left : {pieces : List Piece} → Cut pieces → List Piece
pieces_left cut = cut.whole ++ front_of cut.bytes cut.piece ∷ []

-- the fault count of the place where the piece goes rose so, and no other
abbrev pub FailedAt : {S O : Type 0} → (ℕ → ℕ → Type 0) → Piece → Outside S O → Outside S O → Type 0
FailedAt rose (recorded bytes) before after =
    rose before.files.writing after.files.writing × (after.output.faults ≡ before.output.faults)
FailedAt rose (shown bytes) before after =
    (after.files.writing ≡ before.files.writing) × rose before.output.faults after.output.faults

-- these pieces were written, those for the record to the file of this name, and nothing else was done
pub record Wrote {S O : Type 0} (name : List ℕ) (before after : Outside S O) (pieces : List Piece) : Type 0 where
  pub file : Grows (before.files.held name) (after.files.held name) (recorded_bytes pieces)
  pub output : Grows before.output.taken after.output.taken (shown_bytes pieces)
  pub others : OtherFiles name before.files.held after.files.held
  pub reading : after.files.reading ≡ before.files.reading

-- all of these pieces were written
pub record WroteAll {S O : Type 0} (name : List ℕ) (before after : Outside S O) (pieces : List Piece) : Type 0 where
  pub wrote : Wrote name before after pieces
  pub nothing_rose : NothingRose before after

-- of these pieces, what is left when they are cut at a fault was written
pub record WroteFront {S O : Type 0} (name : List ℕ) (before after : Outside S O) (pieces : List Piece) : Type 0 where
  pub cut : Cut pieces
  pub wrote : Wrote name before after (pieces_left cut)
  pub fault : FailedAt Rose cut.piece before after

-- what was written, by whether the outlet failed
abbrev pub Writes : {S O : Type 0} → Bool → List ℕ → Outside S O → Outside S O → List Piece → Type 0
Writes false name before after pieces = WroteAll name before after pieces
Writes true name before after pieces = WroteFront name before after pieces

-- From an earlier state of an outlet to a later one these pieces were given to it: it writes to the same
-- places, and wrote them.
pub record Gave {S O : Type 0} (of_shelf : shelves.Ghosts S) (of_sink : sinks.Ghosts O)
    (first now : Outlet S O of_shelf) (pieces : List Piece) : Type 0 where
  pub shelf : now.pen.shelf.ghost_name ≡ first.pen.shelf.ghost_name
  pub output : now.out.ghost_name ≡ first.out.ghost_name
  pub name : now.pen.name ≡ first.pen.name
  pub wrote : first.pen.failed ≡ false → Writes now.pen.failed first.pen.name.now
      (outside of_shelf of_sink first.pen.shelf.now first.out.now)
      (outside of_shelf of_sink now.pen.shelf.now now.out.now) pieces
