-- Which numbers of resources are free, and that regions are of resources that are there.
use Rattle.std.proofs.Common.{◌≡◌, ◌≢◌, ◌∙◌, ◌⊎◌, inl, inr, ℕ, zero, suc, ◌<◌, ◌≤◌, Bool, true, false, not, cond, List, [], ◌∷◌, length, map, replicate, find, filter, get_or, Option, Some, None, option_map, unwrap_or, Ok, refl, sym, ap, subst, arith, All, is_some, slice_index_or, slice_set, eq-eqb, zero-add}
use Rattle.std.specs.Prelude.{nat_eq, nat_le}
use Rattle.std.specs.List.{list_any}
use Rattle.std.proofs.lemmas.Bool.{false≢true, eqb-true, cases_eq}
use Rattle.std.proofs.lemmas.List.{get_or-set_other, get_or-set_same, get_or_past, length-map, length-replicate, length-set}
use Rattle.std.proofs.lemmas.List.Elements.{All-nil, All-cons, All-head, All-tail, All-map, All-filter, All-weaker}
use Rattle.cloak_base.specs.declared.names.PageId.{PageId}
use Rattle.cloak_model.specs.declared.resource.MapFault.{MapFault}
use Rattle.cloak_model.specs.declared.resource.MapFault.TheVariants.{Full, BadArg, Overlap, NotFound}
use Rattle.cloak_model.specs.declared.resource.Owner.{Owner}
use Rattle.cloak_model.specs.declared.resource.Owner.TheVariants.{Space, File}
use Rattle.cloak_model.specs.declared.resource.Region.{Region}
use Rattle.cloak_model.specs.declared.resource.Resource.{Resource}
use Rattle.cloak_model.specs.Files.{file_found}
use Rattle.cloak_model.specs.Fork.{private_numbers, free_numbers, copies, with_copy, with_copies, copied_region, forked_resources}
use Rattle.cloak_model.specs.Resources.{Resources, Mapped, resource_at, regions_in, is_inside, place_in, lookup, page_id, page_at, started_resources, pages_of, first_free, refused, made_at, new_resource, is_shared_with, size_for, is_region, overlaps, with_region, with_regions, mapped, map_region, starts_at, unmap_region, is_space, is_private_to, without_space, drop_space}
use Rattle.resource_map.proofs.Lists.{get_or-replicate_none, get_or-map_all, first_free-at, All-find, inside_from_some}
use Rattle.resource_map.proofs.Places.{any-places}
use Rattle.resource_map.proofs.Copies.{All-zip, Both, find-zip, free_all}
use Rattle.resource_map.proofs.RegionLists.{All-with_region}
use Rattle.cloak_base.proofs.Lists.{free_before}

-- a resource that is there, and that a space may map
abbrev pub may_map : ℕ → Option Resource → Bool
may_map space None = false
may_map space (Some held) = is_shared_with space held.owner

abbrev pub IsOf : Resources → ℕ → Region → Type 0
IsOf r space g = may_map space (resource_at r g.resource) ≡ true

-- each region is of a resource that is there, and that its space may map
abbrev pub MapsHeld : Resources → Type 0
MapsHeld r = (space : ℕ) → All (IsOf r space) (regions_in r space)

-- there are 16 numbers at most
abbrev pub HasFew : Resources → Type 0
HasFew r = length r.held ≤ 16

-- what a step without moves leaves of resources
pub record ResourcesFollow (r r' : Resources) : Type 0 where
  pub maps : MapsHeld r → MapsHeld r'
  pub few : HasFew r → HasFew r'
  pub free : (n : ℕ) → resource_at r' n ≡ None → resource_at r n ≡ None

pub follows_same : (r : Resources) → ResourcesFollow r r
follows_same r = record { maps = λ maps. maps; few = λ few. few; free = λ n free. free }

pub follows_equal : (r r' : Resources) → r' ≡ r → ResourcesFollow r r'
follows_equal r r' same = subst (ResourcesFollow r) (sym same) (follows_same r)

-- As a program begins.

started_maps_at : (pages base space : ℕ) →
    All (IsOf (started_resources pages base) space) (regions_in (started_resources pages base) space)
unfolding started_resources
started_maps_at pages base zero =
    All-cons (IsOf (started_resources pages base) zero) _ [] refl (All-nil (IsOf (started_resources pages base) zero))
started_maps_at pages base (suc space) =
    subst (λ (o : Option (List Region)). All (IsOf (started_resources pages base) (suc space)) (unwrap_or o []))
    (sym (get_or-replicate_none 7 space)) (All-nil (IsOf (started_resources pages base) (suc space)))

pub started_maps : (pages base : ℕ) → MapsHeld (started_resources pages base)
started_maps pages base space = started_maps_at pages base space

-- its program is at number 0
pub started_free : (pages base n : ℕ) → resource_at (started_resources pages base) n ≡ None → n ≢ 0
unfolding started_resources
started_free pages base zero free same = cc
started_free pages base (suc n) free same = absurd (omega (arith, same))

pub started_few : (pages base : ℕ) → HasFew (started_resources pages base)
unfolding started_resources
started_few pages base = let long = length-replicate {A = Option Resource} 15 None in omega (arith, long)

-- As it has ended.

abbrev pub no_resources : Resources
no_resources = record { held = replicate 16 None; spaces = replicate 8 None }

pub ended_maps : MapsHeld no_resources
ended_maps space =
    subst (λ (o : Option (List Region)). All (IsOf no_resources space) (unwrap_or o []))
    (sym (get_or-replicate_none 8 space)) (All-nil (IsOf no_resources space))

pub ended_few : HasFew no_resources
ended_few = let long = length-replicate {A = Option Resource} 16 None in omega (arith, long)

-- a number past the last is free
pub past_free : (r : Resources) (n : ℕ) → HasFew r → 16 ≤ n → resource_at r n ≡ None
past_free r n few past = get_or_past r.held n None (omega (arith, few, past))

-- A page at an address is of a resource that is there.

abbrev pub HeldPlace : Resources → Option PageId → Type 0
HeldPlace r None = Unit {0}
HeldPlace r (Some q) = is_some (resource_at r q.resource) ≡ true

held_from_map : (space : ℕ) (o : Option Resource) → may_map space o ≡ true → is_some o ≡ true
held_from_map space None may = absurd (false≢true may)
held_from_map space (Some held) may = refl

held_found : (d : ℕ) (r : Resources) (space va : ℕ) (found : Option Region) → MapsHeld r →
    find (is_inside va) (regions_in r space) ≡ found →
    HeldPlace r (option_map (page_id d) (option_map (place_in va) found))
held_found d r space va None maps is = tt
held_found d r space va (Some g) maps is =
    held_from_map space (resource_at r g.resource)
    (All-find (IsOf r space) (is_inside va) (regions_in r space) g (maps space) is)

pub held_page : (d : ℕ) (r : Resources) (space va : ℕ) → MapsHeld r → HeldPlace r (page_at d r space va)
unfolding page_at lookup
held_page d r space va maps = held_found d r space va (find (is_inside va) (regions_in r space)) maps refl

-- A resource is made.

other_number : (held : List (Option Resource)) (space i m : ℕ) → get_or held i None ≡ None →
    may_map space (get_or held m None) ≡ true → m ≢ i
other_number held space i m free may same =
    false≢true (ap (may_map space) (sym free) ∙ ap (λ (k : ℕ). may_map space (get_or held k None)) (sym same) ∙ may)

-- if the resource of each region is there already, one more place changes nothing
put_maps : (r : Resources) (i : ℕ) (x : Resource) → resource_at r i ≡ None → MapsHeld r →
    MapsHeld (record r { held = slice_set r.held i (Some x) })
put_maps r i x free maps space =
    All-weaker (IsOf r space) (IsOf (record r { held = slice_set r.held i (Some x) }) space)
    (λ g may. ap (may_map space)
    (get_or-set_other r.held i g.resource (Some x) None (other_number r.held space i g.resource free may)) ∙ may)
    (regions_in r space) (maps space)

made_follows : (owner : Owner) (pages : ℕ) (place : Option ℕ) (r : Resources) → first_free r.held ≡ place →
    ResourcesFollow r (made_at owner pages place r).resources
unfolding made_at
made_follows owner pages None r is = follows_same r
made_follows owner pages (Some n) r is = record {
  maps = put_maps r n (record { owner = owner; pages = pages }) (first_free-at r.held n is).1;
  few = λ few. subst (λ (k : ℕ). k ≤ 16) (sym (length-set r.held n _)) few;
  free = λ m free. free_before r.held n m _ free;
}

follows_either : {A : Type 0} (b : Bool) (r : Resources) (m n : Mapped A) → ResourcesFollow r m.resources →
    ResourcesFollow r n.resources → ResourcesFollow r (cond b m n).resources
follows_either true r m n p q = p
follows_either false r m n p q = q

pub new_follows : (owner : Owner) (pages : ℕ) (r : Resources) → ResourcesFollow r (new_resource owner pages r).resources
unfolding new_resource
new_follows owner pages r =
    follows_either _ r (refused BadArg r) _ (follows_same r)
    (follows_either _ r (refused Full r) (made_at owner pages (first_free r.held) r) (follows_same r)
    (made_follows owner pages (first_free r.held) r refl))

pub found_follows : (number pages : ℕ) (place : Option ℕ) (r : Resources) →
    ResourcesFollow r (file_found number pages place r).resources
unfolding file_found
found_follows number pages None r = new_follows (File number) pages r
found_follows number pages (Some n) r =
    follows_either _ r (record { answer = Ok n; resources = r }) (refused BadArg r) (follows_same r) (follows_same r)

-- the number that is given was free

at_free : (owner : Owner) (pages : ℕ) (place : Option ℕ) (r : Resources) (n : ℕ) → first_free r.held ≡ place →
    (made_at owner pages place r).answer ≡ Ok n → resource_at r n ≡ None
unfolding made_at
at_free owner pages None r n is made = absurd cc
at_free owner pages (Some m) r n is made =
    let same : m ≡ n = cc in
    subst (λ (k : ℕ). resource_at r k ≡ None) same (first_free-at r.held m is).1

free_either : (b : Bool) (fault : MapFault) (r : Resources) (m : Mapped ℕ) (n : ℕ) →
    (m.answer ≡ Ok n → resource_at r n ≡ None) → (cond b (refused fault r) m).answer ≡ Ok n → resource_at r n ≡ None
free_either true fault r m n free made = absurd cc
free_either false fault r m n free made = free made

pub made_free : (owner : Owner) (pages : ℕ) (r : Resources) (n : ℕ) → (new_resource owner pages r).answer ≡ Ok n →
    resource_at r n ≡ None
unfolding new_resource
made_free owner pages r n made =
    free_either _ BadArg r _ n
    (free_either _ Full r (made_at owner pages (first_free r.held) r) n
    (at_free owner pages (first_free r.held) r n refl)) made

-- A space has other regions.

set_regions : (P : ℕ → Region → Type 0) (spaces : List (Option (List Region))) (space s : ℕ)
    (new : Option (List Region)) → All (P space) (unwrap_or new []) →
    ((k : ℕ) → All (P k) (unwrap_or (slice_index_or spaces k None) [])) →
    All (P s) (unwrap_or (slice_index_or (slice_set spaces space new) s None) [])
set_regions P [] space s new these all = all s
set_regions P (x ∷ spaces) zero zero new these all = these
set_regions P (x ∷ spaces) zero (suc s) new these all = all (suc s)
set_regions P (x ∷ spaces) (suc space) zero new these all = all zero
set_regions P (x ∷ spaces) (suc space) (suc s) new these all =
    set_regions (λ (k : ℕ). P (suc k)) spaces space s new these (λ k. all (suc k))

regions_follow : (space : ℕ) (regions : List Region) (r : Resources) →
    (MapsHeld r → All (IsOf r space) regions) → ResourcesFollow r (with_regions space regions r)
regions_follow space regions r all = record {
  maps = λ maps s. set_regions (IsOf r) r.spaces space s (Some regions) (all maps) maps;
  few = λ few. few;
  free = λ n free. free;
}

sized : (b : Bool) (pages size : ℕ) → cond b (Some pages) None ≡ Some size → b ≡ true
sized true pages size is = refl
sized false pages size is = absurd cc

map_from_size : (space : ℕ) (o : Option Resource) (size : ℕ) → size_for space o ≡ Some size → may_map space o ≡ true
map_from_size space None size is = absurd cc
map_from_size space (Some held) size is = sized (is_shared_with space held.owner) held.pages size is

mapped_by : (bad overlap full : Bool) (r r' : Resources) → ResourcesFollow r r' →
    ResourcesFollow r (cond bad (refused {A = Unit {0}} BadArg r) (cond overlap (refused {A = Unit {0}} Overlap r)
    (cond full (refused {A = Unit {0}} Full r) (record { answer = Ok tt; resources = r' })))).resources
mapped_by true overlap full r r' follows = follows_same r
mapped_by false true full r r' follows = follows_same r
mapped_by false false true r r' follows = follows_same r
mapped_by false false false r r' follows = follows

mapped_follows : (space : ℕ) (g : Region) (size : Option ℕ) (r : Resources) →
    size_for space (resource_at r g.resource) ≡ size →
    ResourcesFollow r (mapped space g size (regions_in r space) r).resources
unfolding mapped
mapped_follows space g None r is = follows_same r
mapped_follows space g (Some size) r is =
    let regions = regions_in r space in
    mapped_by (not (is_region g size)) (list_any (overlaps g) regions) (nat_le 16 (length regions)) r
    (with_regions space (with_region g regions) r)
    (regions_follow space (with_region g regions) r (λ maps.
    All-with_region (IsOf r space) g regions (map_from_size space (resource_at r g.resource) size is) (maps space)))

pub map_follows : (space : ℕ) (g : Region) (r : Resources) → ResourcesFollow r (map_region space g r).resources
unfolding map_region
map_follows space g r = mapped_follows space g (size_for space (resource_at r g.resource)) r refl

pub unmap_follows : (space start : ℕ) (r : Resources) → ResourcesFollow r (unmap_region space start r).resources
unfolding unmap_region
unmap_follows space start r =
    let kept = filter (λ (g : Region). not (starts_at start g)) (regions_in r space) in
    follows_either _ r (refused NotFound r) (record { answer = Ok tt; resources = with_regions space kept r })
    (follows_same r)
    (regions_follow space kept r (λ maps.
    All-filter (λ (g : Region). not (starts_at start g)) (IsOf r space) (regions_in r space) (maps space)))

-- A space ends.

-- another space keeps what it may map
kept_by : (s space : ℕ) (o : Option Resource) → s ≢ space → may_map s o ≡ true →
    may_map s (without_space space o) ≡ true
kept_by s space None other may = may
kept_by s space (Some x) other may = by_test (is_space space x.owner) refl where
  apart : (owner : Owner) → is_shared_with s owner ≡ true → is_space space owner ≡ true → ⊥
  apart (Space number) shared own = other (sym (eqb-true number s shared) ∙ eqb-true number space own)
  apart (File number) shared own = false≢true own

  by_test : (t : Bool) → is_space space x.owner ≡ t → may_map s (cond t None (Some x)) ≡ true
  by_test true own = absurd (apart x.owner may own)
  by_test false own = may

at_dropped : (space : ℕ) (r : Resources) (n : ℕ) →
    resource_at (drop_space space r) n ≡ without_space space (resource_at r n)
unfolding drop_space
at_dropped space r n = get_or-map_all (without_space space) None None r.held n refl

-- the regions of another space
pub dropped_maps : (space : ℕ) (r : Resources) → MapsHeld r → MapsHeld (drop_space space r)
unfolding drop_space
dropped_maps space r maps s = elim (cases_eq s space) [
  | inl same ↦
      subst (λ (o : Option (List Region)). All (IsOf (drop_space space r) s) (unwrap_or o []))
      (sym (ap (λ (k : ℕ). slice_index_or (slice_set r.spaces space None) k None) same ∙ none_there r.spaces space))
      (All-nil (IsOf (drop_space space r) s))
  | inr other ↦
      subst (λ (o : Option (List Region)). All (IsOf (drop_space space r) s) (unwrap_or o []))
      (sym (get_or-set_other r.spaces space s None None other))
      (All-weaker (IsOf r s) (IsOf (drop_space space r) s)
      (λ g may. ap (may_map s) (at_dropped space r g.resource)
      ∙ kept_by s space (resource_at r g.resource) other may)
      (regions_in r s) (maps s))
] where
  none_there : (spaces : List (Option (List Region))) (i : ℕ) →
      slice_index_or (slice_set spaces i None) i None ≡ None
  none_there [] i = refl
  none_there (x ∷ spaces) zero = refl
  none_there (x ∷ spaces) (suc i) = none_there spaces i

-- a number that is free now was free, or private to the space
freed : (space : ℕ) (o : Option Resource) (private : Bool) → is_private_to space o ≡ private →
    cond private None o ≡ None → (o ≡ None) ⊎ (private ≡ true)
freed space o true is free = inr refl
freed space o false is free = inl free

private_there : (space : ℕ) (o : Option Resource) → is_private_to space o ≡ true → is_some o ≡ true
private_there space None private = absurd (false≢true private)
private_there space (Some x) private = refl

private_listed : (space : ℕ) (r : Resources) (n : ℕ) → is_private_to space (resource_at r n) ≡ true →
    list_any (λ m. nat_eq m n) (private_numbers space r) ≡ true
private_listed space r n private =
    let inside = inside_from_some r.held n (private_there space (resource_at r n) private) in
    subst (λ (k : ℕ). list_any (λ m. nat_eq m k) (private_numbers space r) ≡ true) (zero-add n)
    (any-places (is_private_to space) None 0 n r.held inside private)

pub dropped_free : (space : ℕ) (r : Resources) (n : ℕ) → resource_at (drop_space space r) n ≡ None →
    (resource_at r n ≡ None) ⊎ (list_any (λ m. nat_eq m n) (private_numbers space r) ≡ true)
dropped_free space r n free =
    elim (freed space (resource_at r n) (is_private_to space (resource_at r n)) refl
    (sym (at_dropped space r n) ∙ free)) [
      | inl was ↦ inl was
      | inr private ↦ inr (private_listed space r n private)
    ]

pub drop_few : (space : ℕ) (r : Resources) → HasFew r → HasFew (drop_space space r)
unfolding drop_space
drop_few space r few = subst (λ (k : ℕ). k ≤ 16) (sym (length-map r.held (without_space space))) few

-- A space is copied.

-- what is at a number that no copy has
other_stays : (new : ℕ) (r : Resources) (list : List (ℕ × ℕ)) (held : List (Option Resource)) (n : ℕ) →
    All (λ (copy : ℕ × ℕ). n ≢ copy.1) list →
    get_or (with_copies new held list r) n None ≡ get_or held n None
other_stays new r [] held n other = refl
other_stays new r (copy ∷ rest) held n other =
    other_stays new r rest (with_copy new held copy r) n (All-tail (λ (copy : ℕ × ℕ). n ≢ copy.1) copy rest other)
    ∙ get_or-set_other held copy.1 n _ None (All-head (λ (copy : ℕ × ℕ). n ≢ copy.1) copy rest other)

-- a resource that is private to a space
abbrev IsOwned : ℕ → Option Resource → Type 0
IsOwned new o = is_private_to new o ≡ true

-- at the number of a copy there is one that is private to the new space
owned_set : (new i n : ℕ) (pages : ℕ) (held : List (Option Resource)) → IsOwned new (get_or held n None) →
    IsOwned new (get_or (slice_set held i (Some (record { owner = Space new; pages = pages }))) n None)
owned_set new i n pages [] is = is
owned_set new zero zero pages (x ∷ held) is = eq-eqb new new refl
owned_set new zero (suc n) pages (x ∷ held) is = is
owned_set new (suc i) zero pages (x ∷ held) is = is
owned_set new (suc i) (suc n) pages (x ∷ held) is = owned_set new i n pages held is

owned_stays : (new : ℕ) (r : Resources) (list : List (ℕ × ℕ)) (held : List (Option Resource)) (n : ℕ) →
    IsOwned new (get_or held n None) → IsOwned new (get_or (with_copies new held list r) n None)
owned_stays new r [] held n is = is
owned_stays new r (copy ∷ rest) held n is =
    owned_stays new r rest (with_copy new held copy r) n
    (owned_set new copy.1 n (pages_of (resource_at r copy.0)) held is)

copies_owned : (new : ℕ) (r : Resources) (list : List (ℕ × ℕ)) (held : List (Option Resource)) →
    All (λ (copy : ℕ × ℕ). copy.1 < length held) list →
    All (λ (copy : ℕ × ℕ). IsOwned new (get_or (with_copies new held list r) copy.1 None)) list
copies_owned new r [] held inside = All-nil _
copies_owned new r (copy ∷ rest) held inside =
    let held' = with_copy new held copy r in
    let long : length held' ≡ length held = length-set held copy.1 _ in
    let here : IsOwned new (get_or held' copy.1 None) =
    ap (is_private_to new)
    (get_or-set_same held copy.1 _ None (All-head (λ (copy : ℕ × ℕ). copy.1 < length held) copy rest inside))
    ∙ eq-eqb new new refl in
    All-cons (λ (one : ℕ × ℕ). IsOwned new (get_or (with_copies new held' rest r) one.1 None)) copy rest
    (owned_stays new r rest held' copy.1 here)
    (copies_owned new r rest held'
    (subst (λ (n : ℕ). All (λ (one : ℕ × ℕ). one.1 < n) rest) (sym long)
    (All-tail (λ (copy : ℕ × ℕ). copy.1 < length held) copy rest inside)))

-- the number of a copy was free
abbrev Suits : Resources → ℕ × ℕ → Type 0
Suits r copy = (copy.1 < length r.held) × (resource_at r copy.1 ≡ None)

copies_suit : (space : ℕ) (r : Resources) → All (Suits r) (copies space r)
copies_suit space r =
    All-weaker (Both (λ (n : ℕ). Unit {0}) (λ n. (n < length r.held) × (resource_at r n ≡ None))) (Suits r)
    (λ copy both. both.1) (copies space r)
    (All-zip (λ (n : ℕ). Unit {0}) (λ n. (n < length r.held) × (resource_at r n ≡ None)) (private_numbers space r)
    (free_numbers r) (λ i d less. tt) (free_all r))

module _ (space new : ℕ) (r : Resources) where
  copied_held : List (Option Resource)
  copied_held = with_copies new r.held (copies space r) r

  -- what is there stays
  stays_at : (n : ℕ) → is_some (resource_at r n) ≡ true → get_or copied_held n None ≡ resource_at r n
  unfolding copied_held
  stays_at n there =
      other_stays new r (copies space r) r.held n
      (All-weaker (Suits r) (λ (copy : ℕ × ℕ). n ≢ copy.1)
      (λ copy suits same. false≢true
      (ap is_some (sym suits.1) ∙ ap (λ (k : ℕ). is_some (resource_at r k)) (sym same) ∙ there))
      (copies space r) (copies_suit space r))

  owned : All (λ (copy : ℕ × ℕ). IsOwned new (get_or copied_held copy.1 None)) (copies space r)
  unfolding copied_held
  owned =
      copies_owned new r (copies space r) r.held
      (All-weaker (Suits r) (λ (copy : ℕ × ℕ). copy.1 < length r.held) (λ copy suits. suits.0) (copies space r)
      (copies_suit space r))

  -- a space may map what is private to it
  map_owned : (o : Option Resource) → IsOwned new o → may_map new o ≡ true
  map_owned None is = absurd (false≢true is)
  map_owned (Some x) is = by_owner x.owner is where
    by_owner : (owner : Owner) → is_space new owner ≡ true → is_shared_with new owner ≡ true
    by_owner (Space number) own = own
    by_owner (File number) own = absurd (false≢true own)

  abbrev pub Enough : Type 0
  Enough = length (private_numbers space r) ≤ length (free_numbers r)

  -- a region of a resource without a copy: of a file
  map_file : (n : ℕ) (o : Option Resource) → Enough → resource_at r n ≡ o → may_map space o ≡ true →
      find (λ (copy : ℕ × ℕ). nat_eq copy.0 n) (copies space r) ≡ None → may_map new o ≡ true
  map_file n None enough is may none = absurd (false≢true may)
  map_file n (Some x) enough is may none = by_owner x.owner refl may where
    by_owner : (owner : Owner) → x.owner ≡ owner → is_shared_with space owner ≡ true →
        is_shared_with new owner ≡ true
    by_owner (File number) own shared = refl
    by_owner (Space number) own shared =
        let private : is_private_to space (resource_at r n) ≡ true =
        ap (is_private_to space) is ∙ (ap (is_space space) own ∙ shared) in
        let found = find-zip n (private_numbers space r) (free_numbers r) (private_listed space r n private) enough in
        absurd (false≢true (ap is_some (sym none) ∙ found))

  region_copied : (g : Region) (found : Option (ℕ × ℕ)) → Enough →
      find (λ (copy : ℕ × ℕ). nat_eq copy.0 g.resource) (copies space r) ≡ found →
      may_map space (resource_at r g.resource) ≡ true →
      may_map new (get_or copied_held
      (unwrap_or (option_map (λ (copy : ℕ × ℕ). copy.1) found) g.resource) None) ≡ true
  region_copied g (Some copy) enough is may =
      map_owned (get_or copied_held copy.1 None)
      (All-find (λ (one : ℕ × ℕ). IsOwned new (get_or copied_held one.1 None))
      (λ (one : ℕ × ℕ). nat_eq one.0 g.resource) (copies space r) copy owned is)
  region_copied g None enough is may =
      ap (may_map new) (stays_at g.resource (held_from_map space (resource_at r g.resource) may))
      ∙ map_file g.resource (resource_at r g.resource) enough refl may is

  pub fork_maps : Enough → MapsHeld r → MapsHeld (forked_resources space new r)
  unfolding copied_held forked_resources
  fork_maps enough maps s =
      set_regions (IsOf (forked_resources space new r)) r.spaces new s
      (Some (map (copied_region (copies space r)) (regions_in r space)))
      (All-map (IsOf (forked_resources space new r) new) (copied_region (copies space r)) (regions_in r space)
      (All-weaker (IsOf r space)
      (λ (g : Region). IsOf (forked_resources space new r) new (copied_region (copies space r) g))
      (λ g may. region_copied g (find (λ (copy : ℕ × ℕ). nat_eq copy.0 g.resource) (copies space r)) enough refl may)
      (regions_in r space) (maps space)))
      (λ k. All-weaker (IsOf r k) (IsOf (forked_resources space new r) k)
      (λ g may. ap (may_map k) (stays_at g.resource (held_from_map k (resource_at r g.resource) may)) ∙ may)
      (regions_in r k) (maps k))

  copied_length : (list : List (ℕ × ℕ)) (held : List (Option Resource)) →
      length (with_copies new held list r) ≡ length held
  copied_length [] held = refl
  copied_length (copy ∷ rest) held = copied_length rest (with_copy new held copy r) ∙ length-set held copy.1 _

  pub fork_few : HasFew r → HasFew (forked_resources space new r)
  unfolding forked_resources
  fork_few few = subst (λ (k : ℕ). k ≤ 16) (sym (copied_length (copies space r) r.held)) few

  copied_free : (list : List (ℕ × ℕ)) (held : List (Option Resource)) (n : ℕ) →
      get_or (with_copies new held list r) n None ≡ None → get_or held n None ≡ None
  copied_free [] held n free = free
  copied_free (copy ∷ rest) held n free =
      free_before held copy.1 n _ (copied_free rest (with_copy new held copy r) n free)

  pub fork_free : (n : ℕ) → resource_at (forked_resources space new r) n ≡ None → resource_at r n ≡ None
  unfolding forked_resources
  fork_free n free = copied_free (copies space r) r.held n free

  -- a number that is free after is no copy's
  pub fork_apart : (n : ℕ) → resource_at (forked_resources space new r) n ≡ None →
      All (λ (copy : ℕ × ℕ). n ≢ copy.1) (copies space r)
  unfolding forked_resources copied_held
  fork_apart n free =
      All-weaker (λ (copy : ℕ × ℕ). IsOwned new (get_or copied_held copy.1 None)) (λ (copy : ℕ × ℕ). n ≢ copy.1)
      (λ copy is same. false≢true (ap (is_private_to new) (sym free)
      ∙ (ap (λ (k : ℕ). is_private_to new (get_or copied_held k None)) same ∙ is)))
      (copies space r) owned
