-- A page at an address of a space is of a resource in use, and below its size; and what calls make of resources leaves
-- such pages.
use Rattle.std.proofs.Common.{◌≡◌, ◌≢◌, ℕ, zero, suc, ◌+◌, ◌-◌, ◌*◌, ◌/◌, ◌<◌, ◌≤◌, nat_le, nat_lt, Bool, true, false, not, cond, List, [], ◌∷◌, length, find, filter, slice_set, slice_index_or, Option, Some, None, IfSome, option_map, Ok, refl, arith}
use Rattle.std.specs.Prelude.{◌==◌, ◌||◌, IsSomeAnd, position}
use Rattle.std.specs.List.{list_any}
use Rattle.std.proofs.lemmas.Bool.{and_parts, leb-true, ltb-true}
use Rattle.cloak_base.specs.declared.names.PageId.{PageId}
use Rattle.cloak_model.specs.declared.resource.Owner.{Owner}
use Rattle.cloak_model.specs.declared.resource.Owner.TheVariants.{File}
use Rattle.cloak_model.specs.declared.resource.MapFault.TheVariants as fault
use Rattle.cloak_model.specs.declared.resource.Region.{Region}
use Rattle.cloak_model.specs.declared.resource.Resource.{Resource}
use Rattle.cloak_model.specs.Files.{holds_file, file_found, file_resource}
use Rattle.cloak_model.specs.Resources.{Resources, Mapped, resource_at, regions_in, region_end, pages_of, all_pages, first_free, is_inside, place_in, lookup, page_id, page_at, is_shared_with, refused, made_at, new_resource, is_region, overlaps, with_region, with_regions, mapped, map_region, starts_at, unmap_region}
use Rattle.resource_map.specs.Kept.{IsMapped, IsSound}
use Rattle.resource_map.proofs.Lists.{All-find, first_free-at}
use Rattle.frozen_law.specs.Held.{IsHeldBy}
use Rattle.limit_law.proofs.Pages.{found_passes}

-- Of one program: its own pages are held, and of others something else is known.
pub record IsKind (d : ℕ) (r : Resources) (Other : PageId → Type 0) (q : PageId) : Type 0 where
  pub own : q.domain ≡ d → IsHeldBy r q
  pub other : q.domain ≢ d → Other q

-- The pages of a space.

below : (va start pages first : ℕ) → start ≤ va → va < start + 4096 * pages →
    first + (va - start) / 4096 < first + pages
below va start pages first low high = omega (arith, low, high)

held_by : (space page most : ℕ) (o : Option Resource) → page < most →
    IsSomeAnd o (λ x. (is_shared_with space x.owner ≡ true) × (most ≤ x.pages)) → IsSomeAnd o (λ x. page < x.pages)
held_by space page most None low there = absurd there
held_by space page most (Some x) low there = let most' = there.1 in omega (arith, low, most')

held_at : (r : Resources) (space domain va : ℕ) (g : Region) → IsMapped r space g → is_inside va g ≡ true →
    IsHeldBy r (page_id domain (place_in va g))
held_at r space domain va g there inside =
    let parts = and_parts (nat_le g.start va) (nat_lt va (region_end g)) inside in
    held_by space _ (g.first + g.pages) (resource_at r g.resource)
    (below va g.start g.pages g.first (leb-true g.start va parts.0) (ltb-true va (region_end g) parts.1)) there

found_held : (r : Resources) (Other : PageId → Type 0) (space domain va : ℕ) (o : Option Region) → IsSound r →
    find (is_inside va) (regions_in r space) ≡ o →
    IfSome (option_map (page_id domain) (option_map (place_in va) o)) (IsKind domain r Other)
found_held r Other space domain va None sound is = tt
found_held r Other space domain va (Some g) sound is = record {
  own = λ same. held_at r space domain va g
      (All-find (IsMapped r space) (is_inside va) (regions_in r space) g (sound.mapped space) is)
      (found_passes (is_inside va) (regions_in r space) g is);
  other = λ apart. absurd (apart refl);
}

pub pages_held : (domain : ℕ) (r : Resources) (Other : PageId → Type 0) → IsSound r → (space va : ℕ) →
    IfSome (page_at domain r space va) (IsKind domain r Other)
unfolding page_at lookup
pages_held domain r Other sound space va =
    found_held r Other space domain va (find (is_inside va) (regions_in r space)) sound refl

-- What each call makes of resources.

abbrev pub HeldStay : Resources → Resources → Type 0
HeldStay r r' = (q : PageId) → IsHeldBy r q → IsHeldBy r' q

some_none : (P : Resource → Type 0) (o : Option Resource) → o ≡ None → IsSomeAnd o P → ⊥
some_none P None none there = there
some_none P (Some x) none there = absurd cc

-- a free number is taken
pub taken_stay : (P : Resource → Type 0) (held : List (Option Resource)) (n k : ℕ) (x : Option Resource) →
    slice_index_or held n None ≡ None → IsSomeAnd (slice_index_or held k None) P →
    IsSomeAnd (slice_index_or (slice_set held n x) k None) P
taken_stay P [] n k x free there = there
taken_stay P (y ∷ held) zero zero x free there = absurd (some_none P y free there)
taken_stay P (y ∷ held) zero (suc k) x free there = there
taken_stay P (y ∷ held) (suc n) zero x free there = there
taken_stay P (y ∷ held) (suc n) (suc k) x free there = taken_stay P held n k x free there

either_stay : {A : Type 0} (r : Resources) (t : Bool) (x y : Mapped A) → HeldStay r x.resources → HeldStay r y.resources →
    HeldStay r (cond t x y).resources
either_stay r true x y here there = here
either_stay r false x y here there = there

made_stay : (owner : Owner) (pages : ℕ) (o : Option ℕ) (r : Resources) → first_free r.held ≡ o →
    HeldStay r (made_at owner pages o r).resources
unfolding made_at
made_stay owner pages None r is = λ q here. here
made_stay owner pages (Some n) r is =
    λ q here.
    taken_stay (λ held. q.page < held.pages) r.held n q.resource _ (first_free-at r.held n is).1 here

pub new_stay : (owner : Owner) (pages : ℕ) (r : Resources) → HeldStay r (new_resource owner pages r).resources
unfolding new_resource
new_stay owner pages r =
    either_stay r ((pages == 0) || nat_lt 1024 pages) (refused fault.BadArg r) _ (λ q here. here)
    (either_stay r (nat_lt 1024 (all_pages r + pages)) (refused fault.Full r) _ (λ q here. here)
    (made_stay owner pages (first_free r.held) r refl))

found_stay : (number pages : ℕ) (o : Option ℕ) (r : Resources) → HeldStay r (file_found number pages o r).resources
unfolding file_found
found_stay number pages None r = new_stay (File number) pages r
found_stay number pages (Some n) r =
    either_stay r (pages_of (resource_at r n) == pages) (record { answer = Ok n; resources = r }) (refused fault.BadArg r)
    (λ q here. here) (λ q here. here)

pub file_stay : (number pages : ℕ) (r : Resources) → HeldStay r (file_resource number pages r).resources
unfolding file_resource
file_stay number pages r = found_stay number pages (position (holds_file number) r.held) r

mapped_stay : (space : ℕ) (g : Region) (o : Option ℕ) (regions : List Region) (r : Resources) →
    HeldStay r (mapped space g o regions r).resources
unfolding mapped
mapped_stay space g None regions r = λ q here. here
mapped_stay space g (Some size) regions r =
    either_stay r (not (is_region g size)) (refused fault.BadArg r) _ (λ q here. here)
    (either_stay r (list_any (overlaps g) regions) (refused fault.Overlap r) _ (λ q here. here)
    (either_stay r (nat_le 16 (length regions)) (refused fault.Full r)
    (record { answer = Ok tt; resources = with_regions space (with_region g regions) r }) (λ q here. here)
    (λ q here. here)))

pub map_stay : (space : ℕ) (g : Region) (r : Resources) → HeldStay r (map_region space g r).resources
unfolding map_region
map_stay space g r = mapped_stay space g _ (regions_in r space) r

pub unmap_stay : (space start : ℕ) (r : Resources) → HeldStay r (unmap_region space start r).resources
unfolding unmap_region
unmap_stay space start r =
    let regions = filter (λ (g : Region). not (starts_at start g)) (regions_in r space) in
    either_stay r (not (list_any (starts_at start) (regions_in r space))) (refused fault.NotFound r)
    (record { answer = Ok tt; resources = with_regions space regions r }) (λ q here. here) (λ q here. here)
