-- Regions are whole pages: the addresses of a page lie at places of one page, or at none.
use Rattle.std.proofs.Common.{◌≡◌, ◌+◌, ◌-◌, ◌/◌, ◌%◌, ◌<◌, ℕ, Bool, true, false, cond, List, [], ◌∷◌, length, get_or, Option, None, Some, unwrap_or, refl, ap, sym, subst, inl, inr, arith}
use Rattle.std.specs.Prelude.{find, option_map, slice_index_or, All}
use Rattle.std.proofs.Math.ListN.{get_or-eq_default}
use Rattle.std.proofs.lemmas.Bool.{cases_lt}
use Rattle.std.proofs.lemmas.Bool.Decides.{nat_tests}
use Rattle.std.proofs.lemmas.List.{get_or_default}
use Rattle.std.proofs.lemmas.List.Elements.{All-head, All-tail}
use Rattle.cloak_model.specs.declared.resource.Region.{Region}
use Rattle.cloak_model.specs.Resources.{Resources, is_inside, place_in, lookup}
use Rattle.resource_map.specs.Kept.{IsSoundRegion}

-- a region has all addresses of a page, or none
same_inside : (va other : ℕ) (g : Region) → g.start % 4096 ≡ 0 → other / 4096 ≡ va / 4096 → is_inside other g ≡ is_inside va g
same_inside va other g aligned page = grind (arith, nat_tests)

same_place : (va other : ℕ) (g : Region) → g.start % 4096 ≡ 0 → other / 4096 ≡ va / 4096 → place_in other g ≡ place_in va g
same_place va other g aligned page =
    let same : (other - g.start) / 4096 ≡ (va - g.start) / 4096 = omega arith in
    ap (λ n. (g.resource, g.first + n)) same

either_way : (va other : ℕ) (g : Region) (regions : List Region) (here : Bool) → place_in other g ≡ place_in va g
    → option_map (place_in other) (find (is_inside other) regions) ≡ option_map (place_in va) (find (is_inside va) regions)
    → option_map (place_in other) (cond here (Some g) (find (is_inside other) regions)) ≡ option_map (place_in va) (cond here (Some g) (find (is_inside va) regions))
either_way va other g regions true place rest = ap Some place
either_way va other g regions false place rest = rest

pub same_places : (va other : ℕ) (regions : List Region) → All IsSoundRegion regions → other / 4096 ≡ va / 4096
    → option_map (place_in other) (find (is_inside other) regions) ≡ option_map (place_in va) (find (is_inside va) regions)
same_places va other [] kept page = refl
same_places va other (g ∷ regions) kept page =
    let head : IsSoundRegion g = All-head IsSoundRegion g regions kept in
    rw (same_inside va other g head.aligned page)
    (either_way va other g regions (is_inside va g) (same_place va other g head.aligned page) (same_places va other regions (All-tail IsSoundRegion g regions kept) page))

-- The regions of a space.

-- the addresses of one page lie at places of one page, or at none
abbrev pub AreWhole : Option (List Region) → Type 0
AreWhole space = (va other : ℕ) → other / 4096 ≡ va / 4096
    → option_map (place_in other) (find (is_inside other) (unwrap_or space [])) ≡ option_map (place_in va) (find (is_inside va) (unwrap_or space []))

pub no_space : AreWhole None
no_space va other page = refl

-- so they are of a space
pub whole_lookup : (r : Resources) (space : ℕ) → AreWhole (slice_index_or r.spaces space None) → (va other : ℕ) → other / 4096 ≡ va / 4096
    → lookup r space other ≡ lookup r space va
unfolding lookup
whole_lookup r space whole va other page = whole va other page
