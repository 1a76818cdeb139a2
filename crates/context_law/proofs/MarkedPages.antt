-- A reservation names a page of a resource that the space of its context may map: so this is in use.
use Rattle.std.proofs.Common.{◌≡◌, ◌≢◌, ◌∙◌, ℕ, ◌+◌, Bool, true, false, not, cond, List, [], ◌∷◌, get_or, length, filter, slice_set, find, Option, Some, None, Ok, option_map, All, is_some, refl, sym, ap}
use Rattle.std.specs.Prelude.{IfSome, IsSomeAnd, ◌==◌, ◌||◌, nat_lt, nat_le}
use Rattle.std.specs.List.{list_any}
use Rattle.std.proofs.lemmas.Bool.{false≢true, eqb-true}
use Rattle.std.proofs.lemmas.List.{get_or-set_other}
use Rattle.std.proofs.lemmas.List.Elements.{All-head, All-tail}
use Rattle.cloak_model.specs.declared.resource.MapFault.TheVariants.{Full, BadArg, Overlap, NotFound}
use Rattle.cloak_model.specs.declared.resource.Owner.{Owner}
use Rattle.cloak_model.specs.declared.resource.Owner.TheVariants.{Space, File}
use Rattle.cloak_model.specs.declared.resource.Region.{Region}
use Rattle.cloak_model.specs.declared.resource.Resource.{Resource}
use Rattle.cloak_model.specs.Files.{file_found, file_resource}
use Rattle.cloak_model.specs.Fork.{copies, with_copy, with_copies, forked_resources}
use Rattle.cloak_model.specs.Resources.{Resources, Mapped, resource_at, pages_of, all_pages, with_region, with_regions, is_region, overlaps, starts_at, regions_in, is_inside, place_in, page_id, lookup, page_at, first_free, refused, made_at, new_resource, is_shared_with, size_for, mapped, map_region, unmap_region, is_private_to, without_space, drop_space}
use Rattle.resource_map.specs.Kept.{IsMapped, IsSound}
use Rattle.resource_map.proofs.Lists.{All-find, first_free-at}
use Rattle.latest_store.proofs.Numbers.{may_map}
use Rattle.context_law.proofs.Spared.{IsUsed, copies_free, dropped_at}

-- The space may map the resource of this number.
abbrev pub MayMap : Resources → ℕ → ℕ → Type 0
MayMap r space n = may_map space (resource_at r n) ≡ true

may_used : (space : ℕ) (o : Option Resource) → may_map space o ≡ true → is_some o ≡ true
may_used space None is = absurd (false≢true is)
may_used space (Some held) is = refl

pub is_used : (r : Resources) (space n : ℕ) → MayMap r space n → IsUsed r n
is_used r space n may = may_used space (resource_at r n) may

-- a page at an address of the space is of such a resource

mapped_may : (P : Resource → Type 0) (space : ℕ) (o : Option Resource) →
    IsSomeAnd o (λ held. (is_shared_with space held.owner ≡ true) × P held) → may_map space o ≡ true
mapped_may P space None is = absurd is
mapped_may P space (Some held) is = is.0

found_may : (d : ℕ) (r : Resources) (space va : ℕ) (found : Option Region) → IsSound r →
    find (is_inside va) (regions_in r space) ≡ found →
    IfSome (option_map (page_id d) (option_map (place_in va) found)) (λ q. MayMap r space q.resource)
found_may d r space va None sound is = tt
found_may d r space va (Some g) sound is =
    mapped_may _ space (resource_at r g.resource)
    (All-find (IsMapped r space) (is_inside va) (regions_in r space) g (sound.mapped space) is)

pub page_may : (d : ℕ) (r : Resources) (space va : ℕ) → IsSound r →
    IfSome (page_at d r space va) (λ q. MayMap r space q.resource)
unfolding page_at lookup
page_may d r space va sound = found_may d r space va (find (is_inside va) (regions_in r space)) sound refl

-- What resources become: what a space may map it may map then.

abbrev pub MapsAsMuch : Resources → Resources → Type 0
MapsAsMuch r r' = (space n : ℕ) → MayMap r space n → MayMap r' space n

same_held : (r r' : Resources) → r'.held ≡ r.held → MapsAsMuch r r'
same_held r r' same space n may = ap (λ (held : List (Option Resource)). may_map space (get_or held n None)) same ∙ may

set_free : (r : Resources) (i : ℕ) (x : Resource) → resource_at r i ≡ None →
    MapsAsMuch r (record r { held = slice_set r.held i (Some x) })
set_free r i x free space n may =
    ap (may_map space) (get_or-set_other r.held i n (Some x) None (λ same.
    false≢true (ap (may_map space) (sym free) ∙ ap (λ (k : ℕ). may_map space (resource_at r k)) (sym same) ∙ may)))
    ∙ may

at_as_much : (owner : Owner) (pages : ℕ) (place : Option ℕ) (r : Resources) → first_free r.held ≡ place →
    MapsAsMuch r (made_at owner pages place r).resources
unfolding made_at
at_as_much owner pages None r is space n may = may
at_as_much owner pages (Some i) r is space n may =
    set_free r i (record { owner = owner; pages = pages }) (first_free-at r.held i is).1 space n may

either_as_much : {A : Type 0} (b : Bool) (r : Resources) (m k : Mapped A) → MapsAsMuch r m.resources →
    MapsAsMuch r k.resources → MapsAsMuch r (cond b m k).resources
either_as_much true r m k p q = p
either_as_much false r m k p q = q

pub new_as_much : (owner : Owner) (pages : ℕ) (r : Resources) → MapsAsMuch r (new_resource owner pages r).resources
unfolding new_resource
new_as_much owner pages r =
    let made = made_at owner pages (first_free r.held) r in
    let full = nat_lt 1024 (all_pages r + pages) in
    either_as_much {A = ℕ} ((pages == 0) || nat_lt 1024 pages) r (refused BadArg r) (cond full (refused Full r) made)
    (λ space n may. may)
    (either_as_much {A = ℕ} full r (refused Full r) made (λ space n may. may)
    (at_as_much owner pages (first_free r.held) r refl))

found_as_much : (number pages : ℕ) (place : Option ℕ) (r : Resources) →
    MapsAsMuch r (file_found number pages place r).resources
unfolding file_found
found_as_much number pages None r = new_as_much (File number) pages r
found_as_much number pages (Some i) r =
    either_as_much {A = ℕ} (pages_of (resource_at r i) == pages) r (record { answer = Ok i; resources = r })
    (refused BadArg r) (λ space n may. may) (λ space n may. may)

pub file_as_much : (number pages : ℕ) (r : Resources) → MapsAsMuch r (file_resource number pages r).resources
unfolding file_resource
file_as_much number pages r = found_as_much number pages _ r

-- regions are no resources

held_either : {A : Type 0} (b : Bool) (r : Resources) (m k : Mapped A) → m.resources.held ≡ r.held →
    k.resources.held ≡ r.held → (cond b m k).resources.held ≡ r.held
held_either true r m k p q = p
held_either false r m k p q = q

mapped_held : (space : ℕ) (g : Region) (size : Option ℕ) (regions : List Region) (r : Resources) →
    (mapped space g size regions r).resources.held ≡ r.held
unfolding mapped
mapped_held space g None regions r = refl
mapped_held space g (Some size) regions r =
    let done : Mapped (Unit {0}) =
    record { answer = Ok tt; resources = with_regions space (with_region g regions) r } in
    let fits = cond (nat_le 16 (length regions)) (refused Full r) done in
    let apart = cond (list_any (overlaps g) regions) (refused Overlap r) fits in
    held_either (not (is_region g size)) r (refused BadArg r) apart refl
    (held_either (list_any (overlaps g) regions) r (refused Overlap r) fits refl
    (held_either (nat_le 16 (length regions)) r (refused Full r) done refl refl))

pub map_as_much : (space : ℕ) (g : Region) (r : Resources) → MapsAsMuch r (map_region space g r).resources
unfolding map_region
map_as_much space g r =
    same_held r (map_region space g r).resources
    (mapped_held space g (size_for space (resource_at r g.resource)) (regions_in r space) r)

pub unmap_as_much : (space start : ℕ) (r : Resources) → MapsAsMuch r (unmap_region space start r).resources
unfolding unmap_region
unmap_as_much space start r =
    let regions = regions_in r space in
    let done : Mapped (Unit {0}) =
    record { answer = Ok tt; resources = with_regions space (filter (λ g. not (starts_at start g)) regions) r } in
    same_held r (unmap_region space start r).resources
    (held_either (not (list_any (starts_at start) regions)) r (refused NotFound r) done refl refl)

-- copies are made at free numbers

others_at : (new : ℕ) (r : Resources) (list : List (ℕ × ℕ)) (held : List (Option Resource)) (n : ℕ) →
    All (λ (copy : ℕ × ℕ). n ≢ copy.1) list → get_or (with_copies new held list r) n None ≡ get_or held n None
others_at new r [] held n other = refl
others_at new r (copy ∷ rest) held n other =
    others_at new r rest (with_copy new held copy r) n (All-tail (λ (copy : ℕ × ℕ). n ≢ copy.1) copy rest other)
    ∙ get_or-set_other held copy.1 n _ None (All-head (λ (copy : ℕ × ℕ). n ≢ copy.1) copy rest other)

pub fork_as_much : (space new : ℕ) (r : Resources) → MapsAsMuch r (forked_resources space new r)
unfolding forked_resources
fork_as_much space new r s n may =
    ap (may_map s) (others_at new r (copies space r) r.held n (copies_free space r n (is_used r s n may))) ∙ may

-- the end of a space leaves what other spaces may map

by_owner : (space s : ℕ) (x : Resource) (owner : Owner) → x.owner ≡ owner → s ≢ space →
    is_shared_with s x.owner ≡ true → is_private_to space (Some x) ≡ false
by_owner space s x (Space k) is other shared =
    let own : (k == s) ≡ true = ap (is_shared_with s) (sym is) ∙ shared in
    by_test (k == space) refl own
  where
    by_test : (b : Bool) → (k == space) ≡ b → (k == s) ≡ true → is_private_to space (Some x) ≡ false
    by_test true test own = absurd (other (sym (eqb-true k s own) ∙ eqb-true k space test))
    by_test false test own = ap (λ (o : Owner). is_private_to space (Some (record x { owner = o }))) is ∙ test
by_owner space s x (File k) is other shared =
    ap (λ (o : Owner). is_private_to space (Some (record x { owner = o }))) is

stays_there : (space s : ℕ) (o : Option Resource) → s ≢ space → may_map s o ≡ true →
    may_map s (without_space space o) ≡ true
stays_there space s None other may = may
stays_there space s (Some x) other may =
    ap (λ (b : Bool). may_map s (cond b None (Some x))) (by_owner space s x x.owner refl other may) ∙ may

pub drop_maps : (space s n : ℕ) (r : Resources) → s ≢ space → MayMap r s n → MayMap (drop_space space r) s n
drop_maps space s n r other may =
    ap (may_map s) (dropped_at space r n) ∙ stays_there space s (resource_at r n) other may
