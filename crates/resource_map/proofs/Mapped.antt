-- Regions that are mapped: their resource and their pages.
use Rattle.std.proofs.Common.{◌≡◌, ℕ, ◌+◌, ◌%◌, ◌^◌, ◌<◌, ◌≤◌, Bool, true, not, List, [], get_or, Option, None, Some, unwrap_or, refl, sym, ◌∙◌, subst, arith}
use Rattle.std.specs.Prelude.{◌==◌, ◌&&◌, nat_le, All, IsSome, IsSomeAnd, find, filter}
use Rattle.std.proofs.lemmas.Bool.{and_parts, leb-true}
use Rattle.std.proofs.lemmas.List.{get_or_default}
use Rattle.std.proofs.lemmas.List.Elements.{All-filter}
use Rattle.std.proofs.lemmas.List.Sums.{get_or-le-sum_by}
use Rattle.std.proofs.lemmas.Option.{none-some, cond_some}
use Rattle.cloak_model.specs.declared.resource.Resource.{Resource}
use Rattle.cloak_model.specs.declared.resource.Region.{Region}
use Rattle.cloak_model.specs.Resources.{Resources, resource_at, region_end, is_inside, pages_of, is_shared_with, size_for, is_region, with_region, with_regions}
use Rattle.resource_map.specs.Kept.{IsInUse, IsMapped, IsSound}
use Rattle.resource_map.proofs.Lists.{All-find, inside_from_some}
use Rattle.resource_map.proofs.RegionLists.{All-with_region}
use Rattle.resource_map.proofs.Soundness.{IsSound-with_regions}

-- what is known of a mapped region
pub record HasPages (r : Resources) (g : Region) : Type 0 where
  pub number : g.resource < 16
  pub in_use : IsSome (resource_at r g.resource)
  pub within : g.first + g.pages ≤ pages_of (resource_at r g.resource)
  pub few : pages_of (resource_at r g.resource) ≤ 1024

some_from_and : (o : Option Resource) (P : Resource → Type 0) → IsSomeAnd o P → IsSome o
some_from_and None P h = absurd h
some_from_and (Some x) P h = refl

within_from_and : (o : Option Resource) (shared : Resource → Bool) (n : ℕ) → IsSomeAnd o (λ x. (shared x ≡ true) × (n ≤ x.pages)) → n ≤ pages_of o
within_from_and None shared n h = absurd h
within_from_and (Some x) shared n h = h.1

pub HasPages-from_mapped : (r : Resources) (space : ℕ) (g : Region) → IsSound r → IsMapped r space g → HasPages r g
HasPages-from_mapped r space g sound mapped =
    let some = some_from_and (resource_at r g.resource) _ mapped in
    let inside = inside_from_some r.held g.resource some in
    record {
      number = omega (arith, sound.numbers);
      in_use = some;
      within = within_from_and (resource_at r g.resource) (λ (x : Resource). is_shared_with space x.owner) (g.first + g.pages) mapped;
      few = let le = get_or-le-sum_by pages_of r.held g.resource None inside in omega (arith, sound.few);
    }

-- the region at an address
pub HasPages-found : (r : Resources) (space va : ℕ) (regions : List Region) (g : Region) → IsSound r → Some regions ≡ get_or r.spaces space None → find (is_inside va) regions ≡ Some g → HasPages r g
HasPages-found r space va regions g sound at found =
    let all : All (IsMapped r space) regions = subst (λ (o : Option (List Region)). All (IsMapped r space) (unwrap_or o [])) (sym at) (sound.mapped space) in
    HasPages-from_mapped r space g sound (All-find (IsMapped r space) (is_inside va) regions g all found)

-- What may be mapped.

mapped_from_size : (space : ℕ) (g : Region) (o : Option Resource) (size : ℕ) → size_for space o ≡ Some size → g.first + g.pages ≤ size → IsSomeAnd o (λ x. (is_shared_with space x.owner ≡ true) × (g.first + g.pages ≤ x.pages))
mapped_from_size space g None size has within = absurd (none-some size has)
mapped_from_size space g (Some x) size has within =
    let parts = cond_some (is_shared_with space x.owner) x.pages size has in
    (parts.0, omega (arith, parts.1))

pub within_from_test : (g : Region) (size : ℕ) → is_region g size ≡ true → g.first + g.pages ≤ size
within_from_test g size test =
    let top = nat_le (region_end g) (2 ^ 32) in
    let within = nat_le (g.first + g.pages) size in
    let some = not (g.pages == 0) in
    let behind = (and_parts (g.start % 4096 == 0) (some && (top && within)) test).1 in
    let last = (and_parts some (top && within) behind).1 in
    leb-true (g.first + g.pages) size (and_parts top within last).1

pub IsMapped-from_test : (r : Resources) (space : ℕ) (g : Region) (size : ℕ) → size_for space (resource_at r g.resource) ≡ Some size → is_region g size ≡ true → IsMapped r space g
IsMapped-from_test r space g size has test = mapped_from_size space g (resource_at r g.resource) size has (within_from_test g size test)

-- the regions of a space that is in use, however they are read
pub regions_read : (r : Resources) (space : ℕ) (regions : List Region) (d : Option (List Region)) → IsInUse r space → get_or r.spaces space d ≡ Some regions → get_or r.spaces space None ≡ Some regions
regions_read r space regions d used at = get_or_default r.spaces space None d (inside_from_some r.spaces space used) ∙ at

-- one more region
pub IsSound-mapped : (r : Resources) (space : ℕ) (regions new : List Region) (g : Region) (size : ℕ) → IsSound r → get_or r.spaces space None ≡ Some regions → size_for space (resource_at r g.resource) ≡ Some size → is_region g size ≡ true → new ≡ with_region g regions → IsSound (with_regions space new r)
IsSound-mapped r space regions new g size sound at has test is =
    let all : All (IsMapped r space) regions = subst (λ (o : Option (List Region)). All (IsMapped r space) (unwrap_or o [])) at (sound.mapped space) in
    let inside = inside_from_some r.spaces space (subst (λ (o : Option (List Region)). IsSome o) (sym at) refl) in
    IsSound-with_regions space new r sound inside (subst (All (IsMapped r space)) (sym is) (All-with_region (IsMapped r space) g regions (IsMapped-from_test r space g size has test) all))

-- fewer regions
pub IsSound-unmapped : (r : Resources) (space : ℕ) (regions new : List Region) (p : Region → Bool) → IsSound r → get_or r.spaces space None ≡ Some regions → new ≡ filter p regions → IsSound (with_regions space new r)
IsSound-unmapped r space regions new p sound at is =
    let all : All (IsMapped r space) regions = subst (λ (o : Option (List Region)). All (IsMapped r space) (unwrap_or o [])) at (sound.mapped space) in
    let inside = inside_from_some r.spaces space (subst (λ (o : Option (List Region)). IsSome o) (sym at) refl) in
    IsSound-with_regions space new r sound inside (subst (All (IsMapped r space)) (sym is) (All-filter p (IsMapped r space) regions all))
