-- How a place in a body moves.
use Rattle.std.specs.Prelude.{ℕ, ◌≡◌, ◌≤◌, length}
use Rattle.sealed_store.specs.declared.cursor.Cursor.{Cursor}

-- It is at this offset now, within the same body.
pub record Moves (old new : Cursor) (to : ℕ) : Type 0 where
  pub same : new.body.now ≡ old.body.now
  pub at : new.at ≡ to
  pub inside : to ≤ length old.body.now
