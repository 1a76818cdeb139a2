-- What is told of resources, and asked for them.
use Rattle.std.specs.Prelude.{◌≡◌, ◌≢◌, ℕ, Some, None, IsNone, is_some, position, slice_index_or, slice_set}
use Rattle.cloak_model.specs.declared.resource.Owner.{Owner}
use Rattle.cloak_model.specs.declared.resource.Owner.TheVariants.{Space, File}
use Rattle.cloak_model.specs.declared.resource.Resource.{Resource}
use Rattle.cloak_model.specs.Resources.{Resources}
use Rattle.cloak_model.specs.Files.{holds_file}
use Rattle.resource_map.specs.Kept.{IsInUse}

-- what is told of a resource
abbrev pub owner_and_pages : Resource → Owner × ℕ
owner_and_pages held = (held.owner, held.pages)

-- the same spaces are in use
abbrev pub SameSpaces : Resources → Resources → Type 0
SameSpaces old new = (s : ℕ) → is_some (slice_index_or new.spaces s None) ≡ is_some (slice_index_or old.spaces s None)

-- the same spaces are in use, apart from this one
abbrev pub SameSpacesBut : ℕ → Resources → Resources → Type 0
SameSpacesBut space old new = (s : ℕ) → s ≢ space → is_some (slice_index_or new.spaces s None) ≡ is_some (slice_index_or old.spaces s None)

-- what is made for this owner is made for a space in use, or for a file of which there is none
abbrev pub MayOwn : Owner → Resources → Type 0
MayOwn (Space space) r = IsInUse r space
MayOwn (File number) r = IsNone (position (holds_file number) r.held)

-- the resources with one more, at this number
abbrev pub with_resource : ℕ → Owner → ℕ → Resources → Resources
with_resource n owner pages r =
    record r { held = slice_set r.held n (Some (record { owner = owner; pages = pages })) }
