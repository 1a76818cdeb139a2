-- Numbers that are free after a hypercall were free before.
use Rattle.std.proofs.Common.{◌≡◌, ◌∙◌, ℕ, Bool, true, false, cond, List, Option, Some, None, Ok, Result, refl, ap, subst, sym}
use Rattle.std.specs.Prelude.{◌==◌, ◌||◌, ◌+◌, not, nat_lt, nat_le, filter, length, position}
use Rattle.std.specs.List.{list_any}
use Rattle.cloak_model.specs.declared.resource.Owner.{Owner}
use Rattle.cloak_model.specs.declared.resource.Owner.TheVariants.{File}
use Rattle.cloak_model.specs.declared.resource.Region.{Region}
use Rattle.cloak_model.specs.declared.resource.MapFault.{MapFault}
use Rattle.cloak_model.specs.declared.resource.MapFault.TheVariants.{Full, BadArg, Overlap, NotFound}
use Rattle.cloak_model.specs.Resources.{Resources, Mapped, resource_at, regions_in, pages_of, all_pages, first_free, refused, made_at, new_resource, size_for, is_region, overlaps, with_region, with_regions, mapped, map_region, starts_at, unmap_region}
use Rattle.cloak_model.specs.Files.{holds_file, file_found, file_resource}
use Rattle.cloak_base.proofs.Lists.{free_before}

free_made : (owner : Owner) (pages : ℕ) (place : Option ℕ) (r : Resources) (n : ℕ) → resource_at (made_at owner pages place r).resources n ≡ None → resource_at r n ≡ None
unfolding made_at
free_made owner pages None r n free = free
free_made owner pages (Some i) r n free = free_before r.held i n _ free

free_if_made : (bad full : Bool) (owner : Owner) (pages : ℕ) (r : Resources) (n : ℕ)
    → resource_at (cond bad (refused BadArg r) (cond full (refused Full r) (made_at owner pages (first_free r.held) r))).resources n ≡ None → resource_at r n ≡ None
free_if_made true full owner pages r n free = free
free_if_made false true owner pages r n free = free
free_if_made false false owner pages r n free = free_made owner pages _ r n free

pub free_new : (owner : Owner) (pages : ℕ) (r : Resources) (n : ℕ) → resource_at (new_resource owner pages r).resources n ≡ None → resource_at r n ≡ None
unfolding new_resource
free_new owner pages r n free = free_if_made ((pages == 0) || nat_lt 1024 pages) (nat_lt 1024 (all_pages r + pages)) owner pages r n free

free_if_found : (same : Bool) (i : ℕ) (r : Resources) (n : ℕ) → resource_at (cond same (record { answer = Ok i; resources = r }) (refused BadArg r)).resources n ≡ None → resource_at r n ≡ None
free_if_found true i r n free = free
free_if_found false i r n free = free

free_found : (number pages : ℕ) (place : Option ℕ) (r : Resources) (n : ℕ) → resource_at (file_found number pages place r).resources n ≡ None → resource_at r n ≡ None
unfolding file_found
free_found number pages None r n free = free_new (File number) pages r n free
free_found number pages (Some i) r n free = free_if_found (pages_of (resource_at r i) == pages) i r n free

pub free_file : (number pages : ℕ) (r : Resources) (n : ℕ) → resource_at (file_resource number pages r).resources n ≡ None → resource_at r n ≡ None
unfolding file_resource
free_file number pages r n free = free_found number pages (position (holds_file number) r.held) r n free

free_if_mapped : (bad overlap full : Bool) (space : ℕ) (regions : List Region) (r : Resources) (n : ℕ)
    → resource_at (cond bad (refused {A = Unit {0}} BadArg r) (cond overlap (refused Overlap r) (cond full (refused Full r) (record { answer = Ok tt; resources = with_regions space regions r })))).resources n ≡ None → resource_at r n ≡ None
free_if_mapped true overlap full space regions r n free = free
free_if_mapped false true full space regions r n free = free
free_if_mapped false false true space regions r n free = free
free_if_mapped false false false space regions r n free = free

free_mapped : (space : ℕ) (g : Region) (size : Option ℕ) (regions : List Region) (r : Resources) (n : ℕ) → resource_at (mapped space g size regions r).resources n ≡ None → resource_at r n ≡ None
unfolding mapped
free_mapped space g None regions r n free = free
free_mapped space g (Some size) regions r n free = free_if_mapped (not (is_region g size)) (list_any (overlaps g) regions) (nat_le 16 (length regions)) space (with_region g regions) r n free

pub free_map : (space : ℕ) (g : Region) (r : Resources) (n : ℕ) → resource_at (map_region space g r).resources n ≡ None → resource_at r n ≡ None
unfolding map_region
free_map space g r n free = free_mapped space g (size_for space (resource_at r g.resource)) (regions_in r space) r n free

free_if_unmapped : (none : Bool) (space : ℕ) (regions : List Region) (r : Resources) (n : ℕ)
    → resource_at (cond none (refused {A = Unit {0}} NotFound r) (record { answer = Ok tt; resources = with_regions space regions r })).resources n ≡ None → resource_at r n ≡ None
free_if_unmapped true space regions r n free = free
free_if_unmapped false space regions r n free = free

pub free_unmap : (space start : ℕ) (r : Resources) (n : ℕ) → resource_at (unmap_region space start r).resources n ≡ None → resource_at r n ≡ None
unfolding unmap_region
free_unmap space start r n free =
    free_if_unmapped (not (list_any (starts_at start) (regions_in r space))) space (filter (λ g. not (starts_at start g)) (regions_in r space)) r n free

-- what holds of the resources that were made holds of those that a hypercall left
pub freed_through : {A : Type 0} (old mid new : Resources) (answer : Result A MapFault) (made : Mapped A) → ((n : ℕ) → resource_at made.resources n ≡ None → resource_at old n ≡ None)
    → record { answer = answer; resources = mid } ≡ made → new ≡ mid → (n : ℕ) → resource_at new n ≡ None → resource_at old n ≡ None
freed_through {A} old mid new answer made keeps is same n free =
    keeps n (subst (λ (r : Resources). resource_at r n ≡ None) (same ∙ ap (λ (m : Mapped A). m.resources) is) free)

pub ruleset frees = (free_new, free_file, free_map, free_unmap)
