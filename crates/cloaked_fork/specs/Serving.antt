-- A side that serves a domain.
use Rattle.std.specs.Prelude.{◌≡◌, ℕ}
use Rattle.cloak_model.specs.declared.page_side.PageSide.{Ghosts}
use Rattle.cloak_model.specs.Asking.{Keeps}
use Rattle.cloak_model.specs.Resources.{Resources}
use Rattle.cloaked_fork.specs.Marks.{AreUnused}

-- The side serves the domain of this number, and each number that is free in its resources is unused.
pub record Serves {M : Type 0} (side : Ghosts M) (m : M) (number : ℕ) (r : Resources) : Type 0 where
  pub domain : number ≡ side.serves m
  pub unused : AreUnused (side.is_unused m) r

-- Whatever the side stands for, it keeps what `kept` says, it serves the same domain, and each number that is free in
-- these resources, which the step left, is unused.
pub record GoesOnServing {M : Type 0} (side : Ghosts M) (r : Resources) (old new : M) : Type 0 where
  pub keeps : Keeps side.kept old new
  pub same_domain : side.serves new ≡ side.serves old
  pub unused : AreUnused (side.is_unused new) r
