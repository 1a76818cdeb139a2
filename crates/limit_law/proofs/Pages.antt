-- The page at an address of a space is one that a program can have.
use Rattle.std.proofs.Common.{◌≡◌, ℕ, ◌+◌, ◌-◌, ◌*◌, ◌/◌, ◌%◌, ◌<◌, ◌≤◌, nat_le, nat_lt, Bool, true, false, cond, List, [], ◌∷◌, find, Option, Some, None, IfSome, option_map, refl, subst, arith}
use Rattle.std.proofs.lemmas.Bool.{and_parts, leb-true, ltb-true}
use Rattle.cloak_base.specs.declared.names.PageId.{PageId}
use Rattle.cloak_model.specs.declared.resource.Region.{Region}
use Rattle.cloak_model.specs.Contexts.{word_of_page}
use Rattle.cloak_model.specs.Resources.{Resources, resource_at, regions_in, region_end, pages_of, is_inside, place_in, lookup, page_id, page_at}
use Rattle.resource_map.specs.Kept.{IsMapped, IsSound}
use Rattle.resource_map.proofs.Lists.{All-find}
use Rattle.resource_map.proofs.Mapped.{HasPages-from_mapped}
use Rattle.frozen_state.specs.Limits.{IsPageWord}

-- a page of one of 16 resources, which have 1024 pages at most
pub record IsPage (q : PageId) : Type 0 where
  pub resource : q.resource < 16
  pub page : q.page < 1024

-- such pages lie at the addresses of a space
abbrev pub AreInPages : ℕ → Resources → ℕ → Type 0
AreInPages domain r space = (va : ℕ) → IfSome (page_at domain r space va) IsPage

inside_page : (va : ℕ) → va % 4096 / 4 * 4 < 4096
inside_page va = omega arith

whole_word : (va : ℕ) → (va % 4096 / 4 * 4) % 4 ≡ 0
whole_word va = omega arith

-- a word of it
pub place_there : (q : PageId) (va : ℕ) → IsPage q → IsPageWord (word_of_page q va)
place_there q va is =
    record { resource = is.resource; page = is.page; inside = inside_page va; aligned = whole_word va }

-- what is found passes the test

pub found_step : (t : Bool) (p : Region → Bool) (x g : Region) (rest : Option Region) → p x ≡ t →
    (rest ≡ Some g → p g ≡ true) → cond t (Some x) rest ≡ Some g → p g ≡ true
found_step true p x g rest is later found = let same : x ≡ g = cc in subst (λ (y : Region). p y ≡ true) same is
found_step false p x g rest is later found = later found

pub found_passes : (p : Region → Bool) (xs : List Region) (g : Region) → find p xs ≡ Some g → p g ≡ true
found_passes p [] g found = absurd cc
found_passes p (x ∷ xs) g found = found_step (p x) p x g (find p xs) refl (found_passes p xs g) found

below : (va start pages first size : ℕ) → start ≤ va → va < start + 4096 * pages → first + pages ≤ size → size ≤ 1024 →
    first + (va - start) / 4096 < 1024
below va start pages first size low high within few = omega (arith, low, high, within, few)

found_page : (domain : ℕ) (r : Resources) (space va : ℕ) (o : Option Region) → IsSound r →
    find (is_inside va) (regions_in r space) ≡ o →
    IfSome (option_map (page_id domain) (option_map (place_in va) o)) IsPage
found_page domain r space va None sound is = tt
found_page domain r space va (Some g) sound is =
    let has = HasPages-from_mapped r space g sound
    (All-find (IsMapped r space) (is_inside va) (regions_in r space) g (sound.mapped space) is) in
    let parts = and_parts (nat_le g.start va) (nat_lt va (region_end g))
    (found_passes (is_inside va) (regions_in r space) g is) in
    record {
      resource = has.number;
      page = below va g.start g.pages g.first (pages_of (resource_at r g.resource)) (leb-true g.start va parts.0)
          (ltb-true va (region_end g) parts.1) has.within has.few;
    }

pub pages_there : (domain : ℕ) (r : Resources) (space : ℕ) → IsSound r → AreInPages domain r space
unfolding page_at lookup
pages_there domain r space sound va = found_page domain r space va (find (is_inside va) (regions_in r space)) sound refl
