-- Which spaces a change of resources leaves their regions.
use Rattle.std.proofs.Common.{◌≡◌, ◌∙◌, ◌⊎◌, ℕ, ◌+◌, Bool, true, false, cond, List, [], Option, Some, None, Ok, Err, inl, inr, refl, sym, ap}
use Rattle.std.specs.Prelude.{◌==◌, ◌||◌, not, nat_le, nat_lt, length, filter, slice_index_or, slice_set, is_none, unwrap_or, option_map, find}
use Rattle.std.specs.List.{list_any}
use Rattle.std.proofs.lemmas.Bool.{false≢true, cases_eq}
use Rattle.std.proofs.lemmas.List.{get_or-set_other}
use Rattle.std.proofs.lemmas.List.Quantifiers.{position-Some}
use Rattle.std.proofs.lemmas.Option.{none-some}
use Rattle.cloak_base.specs.declared.names.PageId.{PageId}
use Rattle.cloak_model.specs.declared.resource.MapFault.{MapFault}
use Rattle.cloak_model.specs.declared.resource.MapFault.TheVariants.{Full, BadArg, Overlap, NotFound}
use Rattle.cloak_model.specs.declared.resource.Owner.{Owner}
use Rattle.cloak_model.specs.declared.resource.Region.{Region}
use Rattle.cloak_model.specs.Files.{file_found, file_resource}
use Rattle.cloak_model.specs.Resources.{Resources, Mapped, regions_in, is_inside, place_in, page_id, lookup, page_at, first_free, made_at, new_resource, pages_of, all_pages, size_for, resource_at, is_region, overlaps, with_region, starts_at, mapped, map_region, unmap_region}

-- a space has the regions that it had, or it had none
abbrev pub KeepsRegions : Resources → Resources → ℕ → Type 0
KeepsRegions old new space = (regions_in new space ≡ regions_in old space) ⊎ (regions_in old space ≡ [])

-- what a space has at an address stays there
pub page_kept : (number : ℕ) (old new : Resources) (space va : ℕ) (q : PageId) → KeepsRegions old new space →
    page_at number old space va ≡ Some q → page_at number new space va ≡ Some q
unfolding page_at lookup
page_kept number old new space va q keeps has = elim keeps [
  | inl same ↦ ap found same ∙ has
  | inr none ↦ absurd (none-some q (sym (ap found none) ∙ has))
]
  where
    found : List Region → Option PageId
    found regions = option_map (page_id number) (option_map (place_in va) (find (is_inside va) regions))

pub same_regions : (old new : Resources) → new.spaces ≡ old.spaces → (space : ℕ) → KeepsRegions old new space
same_regions old new same space =
    inl (ap (λ (spaces : List (Option (List Region))). unwrap_or (slice_index_or spaces space None) []) same)

-- a change of one space leaves the others
pub other_regions : (r : Resources) (changed : ℕ) (o : Option (List Region)) (space : ℕ) → (space ≡ changed → ⊥) →
    unwrap_or (slice_index_or (slice_set r.spaces changed o) space None) [] ≡ regions_in r space
other_regions r changed o space other =
    ap (λ (x : Option (List Region)). unwrap_or x []) (get_or-set_other r.spaces changed space o None other)

-- New resources.

-- what was made or refused left all spaces
pub record LeavesSpaces (r : Resources) (made : Mapped ℕ) : Type 0 where
  pub same : made.resources.spaces ≡ r.spaces

pub either_leaves : (r : Resources) (b : Bool) (x y : Mapped ℕ) → LeavesSpaces r x → LeavesSpaces r y →
    LeavesSpaces r (cond b x y)
either_leaves r true x y here there = here
either_leaves r false x y here there = there

-- what is refused leaves all spaces
pub unless_leaves : (r : Resources) (b : Bool) (fault : MapFault) (made : Mapped ℕ) → LeavesSpaces r made →
    LeavesSpaces r (cond b (record { answer = Err fault; resources = r }) made)
unless_leaves r b fault made leaves = either_leaves r b _ made (record { same = refl }) leaves

pub made_leaves : (owner : Owner) (pages : ℕ) (n : Option ℕ) (r : Resources) → LeavesSpaces r (made_at owner pages n r)
unfolding made_at
made_leaves owner pages None r = record { same = refl }
made_leaves owner pages (Some n) r = record { same = refl }

pub new_leaves : (owner : Owner) (pages : ℕ) (r : Resources) → LeavesSpaces r (new_resource owner pages r)
unfolding new_resource
new_leaves owner pages r =
    unless_leaves r ((pages == 0) || nat_lt 1024 pages) BadArg _
    (unless_leaves r (nat_lt 1024 (all_pages r + pages)) Full _ (made_leaves owner pages (first_free r.held) r))

pub found_leaves : (number pages : ℕ) (n : Option ℕ) (r : Resources) → LeavesSpaces r (file_found number pages n r)
unfolding file_found
found_leaves number pages None r = new_leaves _ pages r
found_leaves number pages (Some n) r =
    either_leaves r (pages_of (resource_at r n) == pages) _ _ (record { same = refl }) (record { same = refl })

pub new_spaces : (owner : Owner) (pages : ℕ) (r : Resources) → (new_resource owner pages r).resources.spaces ≡ r.spaces
new_spaces owner pages r = (new_leaves owner pages r).same

pub file_spaces : (number pages : ℕ) (r : Resources) → (file_resource number pages r).resources.spaces ≡ r.spaces
unfolding file_resource
file_spaces number pages r = (found_leaves number pages _ r).same

-- Regions.

-- At most this space is changed.
abbrev pub ChangesOne : ℕ → Resources → Mapped (Unit {0}) → Type 0
ChangesOne changed r made = (space : ℕ) → (space ≡ changed → ⊥) → KeepsRegions r made.resources space

-- what is refused changes nothing
unless_changes : (changed : ℕ) (r : Resources) (b : Bool) (fault : MapFault) (made : Mapped (Unit {0})) →
    ChangesOne changed r made → ChangesOne changed r (cond b (record { answer = Err fault; resources = r }) made)
unless_changes changed r true fault made changes = λ space other. inl refl
unless_changes changed r false fault made changes = changes

changes_one : (changed : ℕ) (regions : List Region) (r : Resources) →
    ChangesOne changed r
    (record { answer = Ok tt; resources = record r { spaces = slice_set r.spaces changed (Some regions) } })
changes_one changed regions r space other = inl (other_regions r changed (Some regions) space other)

mapped_changes : (space : ℕ) (g : Region) (size : Option ℕ) (regions : List Region) (r : Resources) →
    ChangesOne space r (mapped space g size regions r)
unfolding mapped
mapped_changes space g None regions r = λ other spared. inl refl
mapped_changes space g (Some size) regions r =
    unless_changes space r (not (is_region g size)) BadArg _
    (unless_changes space r (list_any (overlaps g) regions) Overlap _
    (unless_changes space r (nat_le 16 (length regions)) Full _ (changes_one space (with_region g regions) r)))

pub map_changes : (space : ℕ) (g : Region) (r : Resources) → ChangesOne space r (map_region space g r)
unfolding map_region
map_changes space g r = mapped_changes space g (size_for space (resource_at r g.resource)) (regions_in r space) r

pub unmap_changes : (space start : ℕ) (r : Resources) → ChangesOne space r (unmap_region space start r)
unfolding unmap_region
unmap_changes space start r =
    unless_changes space r (not (list_any (starts_at start) (regions_in r space))) NotFound _
    (changes_one space (filter (λ g. not (starts_at start g)) (regions_in r space)) r)

-- New spaces.

no_regions : (o : Option (List Region)) → is_none o ≡ true → unwrap_or o [] ≡ []
no_regions None none = refl
no_regions (Some regions) none = absurd (false≢true none)

pub free_at : (r : Resources) (n : ℕ) → first_free r.spaces ≡ Some n → regions_in r n ≡ []
free_at r n is = no_regions (slice_index_or r.spaces n None) (position-Some is_none r.spaces n None is).1

-- a space at a free number leaves all that there were
pub new_space_regions : (r : Resources) (new : ℕ) (o : Option (List Region)) (space : ℕ) → regions_in r new ≡ [] →
    (unwrap_or (slice_index_or (slice_set r.spaces new o) space None) [] ≡ regions_in r space)
    ⊎ (regions_in r space ≡ [])
new_space_regions r new o space free = elim (cases_eq space new) [
  | inl same ↦ inr (ap (regions_in r) same ∙ free)
  | inr other ↦ inl (other_regions r new o space other)
]
