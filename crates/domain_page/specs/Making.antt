-- Resources are made of what was read of them.
use Rattle.std.specs.Prelude.{ℕ, ◌+◌, ◌≤◌, List, [], length, All, AllPairs, Option, None, IfSome, option_map, sum_by, count_by, slice_index_or}
use Rattle.cloak_model.specs.declared.resource.Resource.{Resource}
use Rattle.cloak_model.specs.declared.resource.Region.{Region}
use Rattle.cloak_model.specs.Files.{holds_file}
use Rattle.cloak_model.specs.Resources.{Resources, all_pages, pages_of}
use Rattle.resource_map.specs.Kept.{IsHeld, IsMapped, IsSoundRegion, EndsBelow}
use Rattle.resource_map.specs.Owning.{MayOwn}

-- a space that is in use, without its regions
abbrev pub emptied : Option (List Region) → Option (List Region)
emptied space = option_map (λ (regions : List Region). []) space

-- One more resource can be put.
pub record CanPut (r : Resources) (held : Resource) : Type 0 where
  pub owner : MayOwn held.owner r
  pub some : 1 ≤ held.pages
  pub few : all_pages r + held.pages ≤ 1024

-- All of these can be put.
pub record CanHold (r : Resources) (held : List (Option Resource)) : Type 0 where
  pub each : (n : ℕ) → IfSome (slice_index_or held n None) (IsHeld r)
  pub few : sum_by pages_of held ≤ 1024
  pub files : (number : ℕ) → count_by (holds_file number) held ≤ 1

-- All of these can be mapped into a space without regions, one after another.
pub record CanMap (r : Resources) (space : ℕ) (regions : List Region) : Type 0 where
  pub few : length regions ≤ 16
  pub mapped : All (IsMapped r space) regions
  pub each : All IsSoundRegion regions
  pub apart : AllPairs EndsBelow regions

-- The regions of each space can.
abbrev pub CanMapAll : Resources → List (Option (List Region)) → Type 0
CanMapAll r spaces = (space : ℕ) → IfSome (slice_index_or spaces space None) (CanMap r space)
