-- What a step makes of the pages of entries.
use Rattle.std.specs.Prelude.{ℕ, Option}
use Rattle.cloak_base.specs.declared.names.PageId.{PageId}
use Rattle.cloak_base.specs.declared.names.SpaceId.{SpaceId}
use Rattle.shadow_fold.specs.Agreement.{IsMapped}
use Rattle.shadow_fold.specs.Births.{MakeAll}
use Rattle.shadow_fold.specs.Reads.{AskedByStep}

-- what is asked makes only entries whose pages are mapped so
abbrev pub MakesIn : (SpaceId → ℕ → Option PageId) → AskedByStep → Type 0
MakesIn mapped a = MakeAll (IsMapped mapped) a.space a.events
