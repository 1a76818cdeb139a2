-- Resources are made again of their parts.
use Rattle.std.proofs.Common.{◌≡◌, ◌≢◌, ◌∙◌, ℕ, zero, suc, ◌+◌, ◌-◌, ◌%◌, ◌^◌, ◌<◌, ◌≤◌, Bool, true, false, cond, List, [], ◌∷◌, ◌++◌, length, take, drop, map, replicate, get_or, set, Option, Some, None, unwrap_or, Ok, ◌⊎◌, refl, ap, sym, subst, inl, inr, arith}
use Rattle.std.specs.Prelude.{All, IfSome, IsSome, IsNone, IsSomeAnd, position, sum_by, count_by, nat_le, nat_lt, is_some, slice_index_or}
use Rattle.std.specs.List.{list_any}
use Rattle.std.proofs.lemmas.Bool.{cases_lt, le-ltb, le-leb, lt-leb, eq-eqb, ne_eqb, false≢true}
use Rattle.std.proofs.lemmas.List.{take_all, drop_more, take_more_set, take_more, drop-set-lt, get_or-drop, get_or-take, length-set, length-map, length-take-le, set-set, get_or-set_same, get_or-set_other, take-append-drop, get_or_default, drop-replicate}
use Rattle.std.proofs.lemmas.List.Elements.{All-head, All-tail}
use Rattle.std.proofs.lemmas.List.Quantifiers.{position-Some}
use Rattle.std.proofs.lemmas.List.Sums.{sum_by-append, sum_by-set, get_or-le-sum_by}
use Rattle.cloak_model.specs.declared.resource.Owner.{Owner}
use Rattle.cloak_model.specs.declared.resource.Owner.TheVariants.{Space, File}
use Rattle.cloak_model.specs.declared.resource.Resource.{Resource}
use Rattle.cloak_model.specs.declared.resource.Region.{Region}
use Rattle.cloak_model.specs.Files.{holds_file}
use Rattle.cloak_model.specs.Resources.{Resources, Mapped, resource_at, regions_in, region_end, pages_of, all_pages, is_shared_with, size_for, is_region, overlaps, with_region, with_regions, mapped, map_region}
use Rattle.frozen_state.specs.Limits.{IsSpace}
use Rattle.resource_map.specs.Kept.{IsInUse, IsOwner, IsHeld, IsMapped, IsSound, IsSoundRegion}
use Rattle.resource_map.specs.Owning.{MayOwn}
use Rattle.resource_map.proofs.Lists.{inside_from_some, get_or-replicate_none}
use Rattle.domain_page.specs.Making.{emptied, CanPut, CanHold, CanMap, CanMapAll}

-- A list that is filled from the front.

-- the first n elements are those of the target, and the others those of the start
pub record Filled {A : Type 0} (target start : List A) (n : ℕ) (now : List A) : Type 0 where
  pub front : take n now ≡ take n target
  pub back : drop n now ≡ drop n start

module _ {A : Type 0} (target start : List A) where
  pub filled_none : Filled target start 0 start
  filled_none = record { front = refl; back = refl }

  pub filled_more : (n : ℕ) (now : List A) (d : A) → n < length now → n < length target → n < length start →
      Filled target start n now → Filled target start (n + 1) (set now n (get_or target n d))
  filled_more n now d inside there before f = record {
    front = take_more_set now n (get_or target n d) inside
        ∙ (ap (λ (l : List A). l ++ get_or target n d ∷ []) f.front ∙ sym (take_more target n d there));
    back = drop-set-lt (n + 1) now n (get_or target n d) (omega arith) ∙ later n now d inside before f;
  } where
    later : (n : ℕ) (now : List A) (d : A) → n < length now → n < length start → Filled target start n now →
        drop (n + 1) now ≡ drop (n + 1) start
    later n now d inside before f =
        let e : get_or now n d ∷ drop (n + 1) now ≡ get_or start n d ∷ drop (n + 1) start =
        sym (drop_more now n d inside) ∙ (f.back ∙ drop_more start n d before) in
        cc

  pub filled_same : (n : ℕ) (now : List A) (d : A) → n < length now → n < length target → n < length start →
      get_or start n d ≡ get_or target n d → Filled target start n now → Filled target start (n + 1) now
  filled_same n now d inside there before same f =
      let e : get_or now n d ∷ drop (n + 1) now ≡ get_or start n d ∷ drop (n + 1) start =
      sym (drop_more now n d inside) ∙ (f.back ∙ drop_more start n d before) in
      let here : get_or now n d ≡ get_or start n d = cc in
      record {
        front = take_more now n d inside
            ∙ (ap (λ (l : List A). l ++ get_or now n d ∷ []) f.front
            ∙ (ap (λ (x : A). take n target ++ x ∷ []) (here ∙ same) ∙ sym (take_more target n d there)));
        back = cc;
      }

  pub filled_all : (n : ℕ) (now : List A) → length now ≤ n → length target ≤ n → Filled target start n now → now ≡ target
  filled_all n now end last f = sym (take_all n now end) ∙ (f.front ∙ take_all n target last)

  -- what stands at the place that comes next
  pub filled_next : (n : ℕ) (now : List A) (d : A) → Filled target start n now → get_or now n d ≡ get_or start n d
  filled_next n now d f =
      let a : get_or (drop n now) 0 d ≡ get_or now (n + 0) d = get_or-drop n now 0 d in
      let b : get_or (drop n start) 0 d ≡ get_or start (n + 0) d = get_or-drop n start 0 d in
      let e : n + 0 ≡ n = omega arith in
      ap (λ (k : ℕ). get_or now k d) (sym e) ∙ (sym a ∙ (ap (λ (l : List A). get_or l 0 d) f.back ∙ (b ∙ ap (λ (k : ℕ). get_or start k d) e)))

-- Resources.

none_if : {A : Type 0} (o : Option A) → ((x : A) → o ≡ Some x → ⊥) → IsNone o
none_if None never = refl
none_if (Some x) never = absurd (never x refl)

abbrev one_if : ℕ → Option Resource → ℕ
one_if number o = cond (holds_file number o) 1 0

-- two places with one file are one place
same_place : (number : ℕ) (xs : List (Option Resource)) (m n : ℕ) → count_by (holds_file number) xs ≤ 1 → m < length xs →
    n < length xs → holds_file number (get_or xs m None) ≡ true → holds_file number (get_or xs n None) ≡ true → m ≢ n → ⊥
same_place number xs m n few inside there first second other =
    let without = set xs n None in
    let a = sum_by-set (one_if number) xs n None None there in
    let b = get_or-le-sum_by (one_if number) without m None (omega (arith, inside, length-set xs n None)) in
    let c : one_if number (get_or xs n None) ≡ 1 = ap (λ (t : Bool). cond t 1 0) second in
    let d : one_if number (get_or without m None) ≡ 1 =
    ap (one_if number) (get_or-set_other xs n m None None other) ∙ ap (λ (t : Bool). cond t 1 0) first in
    omega (arith, a, b, c, d)

no_pages : (n : ℕ) → sum_by pages_of (replicate n None) ≡ 0
no_pages zero = refl
no_pages (suc n) = no_pages n

-- what stands at a place of a list that is filled so far
filled_at : (xs now : List (Option Resource)) (n m : ℕ) → Filled xs (replicate 16 None) n now →
    (get_or now m None ≡ get_or xs m None) × (m < n) ⊎ (get_or now m None ≡ None)
filled_at xs now n m f =
    elim (cases_lt m n) [
      | inl lt ↦
          inl (sym (get_or-take n now m None lt) ∙ (ap (λ (l : List (Option Resource)). get_or l m None) f.front ∙ get_or-take n xs m None lt), lt)
      | inr ge ↦
          let e : n + (m - n) ≡ m = omega arith in
          inr (ap (λ (k : ℕ). get_or now k None) (sym e)
          ∙ (sym (get_or-drop n now (m - n) None)
          ∙ (ap (λ (l : List (Option Resource)). get_or l (m - n) None) f.back
          ∙ (get_or-drop n (replicate 16 None) (m - n) None
          ∙ get_or-replicate_none 16 (n + (m - n))))))
    ]

module _ (xs : List (Option Resource)) (n : ℕ) (one : Resource) (r r0 : Resources) (can : CanHold r0 xs)
    (filled : Filled xs (replicate 16 None) n r.held) (spaces : r.spaces ≡ r0.spaces) (there : get_or xs n None ≡ Some one)
    (inside : n < length xs) where
  not_yet : (number : ℕ) → one.owner ≡ File number → IsNone (position (holds_file number) r.held)
  not_yet number is = none_if (position (holds_file number) r.held) never where
    here : holds_file number (get_or xs n None) ≡ true
    here =
        ap (holds_file number) there
        ∙ (ap (λ (o : Owner). holds_file number (Some (record { owner = o; pages = one.pages }))) is ∙ eq-eqb number number refl)

    never : (m : ℕ) → position (holds_file number) r.held ≡ Some m → ⊥
    never m found =
        let at = position-Some (holds_file number) r.held m None found in
        elim (filled_at xs r.held n m filled) [
          | inl same ↦
              same_place number xs m n (can.files number) (omega (arith, same.1, inside)) inside
              (ap (holds_file number) (sym same.0) ∙ at.1) here (λ e. omega (arith, same.1, e))
          | inr none ↦ false≢true (sym (ap (holds_file number) none) ∙ at.1)
        ]

  may_be : (owner : Owner) → one.owner ≡ owner → IsOwner r0 owner → MayOwn owner r
  may_be (Space space) is used = subst (λ (s : List (Option (List Region))). IsSome (slice_index_or s space None)) (sym spaces) used
  may_be (File number) is used = not_yet number is

  pages_fit : all_pages r + one.pages ≤ 1024
  pages_fit =
      let now = r.held in
      let a : sum_by pages_of now ≡ sum_by pages_of (take n now) + sum_by pages_of (drop n now) =
      ap (sum_by pages_of) (sym (take-append-drop n now)) ∙ sum_by-append pages_of (take n now) (drop n now) in
      let b : sum_by pages_of (drop n now) ≡ 0 =
      ap (sum_by pages_of) (filled.back ∙ drop-replicate n 16 None) ∙ no_pages (16 - n) in
      let c : sum_by pages_of (take n now) ≡ sum_by pages_of (take n xs) = ap (sum_by pages_of) filled.front in
      let d : sum_by pages_of (take (n + 1) xs) ≡ sum_by pages_of (take n xs) + sum_by pages_of (get_or xs n None ∷ []) =
      ap (sum_by pages_of) (take_more xs n None inside) ∙ sum_by-append pages_of (take n xs) (get_or xs n None ∷ []) in
      let e : sum_by pages_of (get_or xs n None ∷ []) ≡ one.pages =
      ap (λ (o : Option Resource). sum_by pages_of (o ∷ [])) there ∙ omega arith in
      let f : sum_by pages_of xs ≡ sum_by pages_of (take (n + 1) xs) + sum_by pages_of (drop (n + 1) xs) =
      ap (sum_by pages_of) (sym (take-append-drop (n + 1) xs)) ∙ sum_by-append pages_of (take (n + 1) xs) (drop (n + 1) xs) in
      omega (arith, can.few, a, b, c, d, e, f)

  pub can_put : CanPut r one
  can_put =
      let held : IsHeld r0 one = subst (λ (o : Option Resource). IfSome o (IsHeld r0)) there (can.each n) in
      record { owner = may_be one.owner refl held.1; some = held.0; few = pages_fit }

-- Regions.

-- a region that starts above others goes after them
after_others : (g : Region) (xs : List Region) → All (λ (h : Region). region_end h ≤ g.start) xs →
    with_region g xs ≡ xs ++ g ∷ []
after_others g [] below = refl
after_others g (h ∷ xs) below =
    let low : region_end h ≤ g.start = All-head (λ (h : Region). region_end h ≤ g.start) h xs below in
    let test : nat_lt g.start h.start ≡ false = le-ltb g.start h.start (omega arith) in
    ap (λ (t : Bool). cond t (g ∷ (h ∷ xs)) (h ∷ with_region g xs)) test
    ∙ ap (λ (l : List Region). h ∷ l) (after_others g xs (All-tail (λ (h : Region). region_end h ≤ g.start) h xs below))

shares_none : (g : Region) (xs : List Region) → All (λ (h : Region). region_end h ≤ g.start) xs →
    list_any (overlaps g) xs ≡ false
shares_none g [] below = refl
shares_none g (h ∷ xs) below =
    let low : region_end h ≤ g.start = All-head (λ (h : Region). region_end h ≤ g.start) h xs below in
    let test : nat_lt g.start (region_end h) ≡ false = le-ltb g.start (region_end h) low in
    rw (test, shares_none g xs (All-tail (λ (h : Region). region_end h ≤ g.start) h xs below)) refl

-- the size of what may be mapped
has_size : (space : ℕ) (g : Region) (o : Option Resource) →
    IsSomeAnd o (λ held. (is_shared_with space held.owner ≡ true) × (g.first + g.pages ≤ held.pages)) →
    (size : ℕ) × ((size_for space o ≡ Some size) × (g.first + g.pages ≤ size))
has_size space g None there = absurd there
has_size space g (Some held) there =
    (held.pages, (ap (λ (t : Bool). cond t (Some held.pages) None) there.0, there.1))

is_one : (g : Region) (size : ℕ) → IsSoundRegion g → g.first + g.pages ≤ size → is_region g size ≡ true
is_one g size sound within =
    let some : g.pages ≡ 0 → ⊥ = λ e. absurd (omega (arith, e, sound.some)) in
    rw (eq-eqb (g.start % 4096) 0 sound.aligned, ne_eqb g.pages 0 some, le-leb (region_end g) (2 ^ 32) sound.top, le-leb (g.first + g.pages) size within)
    refl

mapped_ok : (space : ℕ) (g : Region) (size : ℕ) (o : Option ℕ) (regions : List Region) (r : Resources) → o ≡ Some size →
    is_region g size ≡ true → list_any (overlaps g) regions ≡ false → nat_le 16 (length regions) ≡ false →
    mapped space g o regions r ≡ record { answer = Ok tt; resources = with_regions space (with_region g regions) r }
unfolding mapped
mapped_ok space g size o regions r has one apart few = rw (has, one, apart, few) refl

module _ (r : Resources) (space : ℕ) (xs : List Region) (can : CanMap r space xs) (i : ℕ) (d : Region) (inside : i < length xs) where
  below : All (λ (h : Region). region_end h ≤ (get_or xs i d).start) (take i xs)
  below k e l =
      let low : k < i = omega (arith, l, length-take-le i xs (omega (arith, inside))) in
      rw (get_or-take i xs k e low) (subst (λ (g : Region). region_end (get_or xs k e) ≤ g.start) (get_or_default xs i e d inside) (can.apart k i e low inside))

  pub map_more : space < length r.spaces →
      map_region space (get_or xs i d) (with_regions space (take i xs) r)
      ≡ record { answer = Ok tt; resources = with_regions space (take (i + 1) xs) r }
  unfolding map_region
  map_more room =
      let g = get_or xs i d in
      let size = has_size space g (resource_at r g.resource) (can.mapped i d inside) in
      let few : nat_le 16 (length (take i xs)) ≡ false = lt-leb 16 (length (take i xs)) (omega (arith, inside, can.few, length-take-le i xs (omega (arith, inside)))) in
      let has : regions_in (with_regions space (take i xs) r) space ≡ take i xs =
      ap (λ (o : Option (List Region)). unwrap_or o []) (get_or-set_same r.spaces space (Some (take i xs)) None room) in
      ap (λ (regions : List Region). mapped space g (size_for space (resource_at r g.resource)) regions (with_regions space (take i xs) r)) has
      ∙ (mapped_ok space g size.0 (size_for space (resource_at r g.resource)) (take i xs) (with_regions space (take i xs) r) size.1.0
      (is_one g size.0 (can.each i d inside) size.1.1) (shares_none g (take i xs) below) few
      ∙ (ap (λ (regions : List Region). record { answer = Ok tt; resources = with_regions space regions (with_regions space (take i xs) r) })
      (after_others g (take i xs) below ∙ sym (take_more xs i d inside))
      ∙ ap (λ (spaces : List (Option (List Region))). record { answer = Ok tt; resources = record r { spaces = spaces } })
      (set-set r.spaces space (Some (take i xs)) (Some (take (i + 1) xs)))))

-- Spaces.

-- a space is in use if it is without its regions
pub used_emptied : (o : Option (List Region)) → is_some (emptied o) ≡ is_some o
used_emptied None = refl
used_emptied (Some xs) = refl

pub emptied_at : (xs : List (Option (List Region))) (s : ℕ) → slice_index_or (map emptied xs) s None ≡ emptied (slice_index_or xs s None)
emptied_at [] s = refl
emptied_at (x ∷ xs) zero = refl
emptied_at (x ∷ xs) (suc s) = emptied_at xs s

-- All of it.

module _ (r opened : Resources) (sound : IsSound r) (spaces : opened.spaces ≡ map emptied r.spaces) where
  used : (s : ℕ) → IsInUse r s → IsInUse opened s
  used s there =
      ap (λ (l : List (Option (List Region))). is_some (slice_index_or l s None)) spaces
      ∙ (ap is_some (emptied_at r.spaces s) ∙ (used_emptied (slice_index_or r.spaces s None) ∙ there))

  owner_there : (owner : Owner) → IsOwner r owner → IsOwner opened owner
  owner_there (Space s) there = used s there
  owner_there (File number) there = tt

  each_held : (o : Option Resource) → IfSome o (IsHeld r) → IfSome o (IsHeld opened)
  each_held None held = tt
  each_held (Some x) held = (held.0, owner_there x.owner held.1)

  pub can_hold : CanHold opened r.held
  can_hold = record {
    each = λ n. each_held (resource_at r n) (sound.held n);
    few = sound.few;
    files = sound.files;
  }

module _ (r now : Resources) (sound : IsSound r) (apart : (space : ℕ) → IsSpace (regions_in r space)) (held : now.held ≡ r.held) where
  map_there : (space : ℕ) (xs : List Region) → All (IsMapped r space) xs → All (IsMapped now space) xs
  map_there space xs all k d inside =
      subst (λ (l : List (Option Resource)). IsSomeAnd (slice_index_or l (get_or xs k d).resource None)
      (λ x. (is_shared_with space x.owner ≡ true) × ((get_or xs k d).first + (get_or xs k d).pages ≤ x.pages))) (sym held) (all k d inside)

  each_space : (space : ℕ) (o : Option (List Region)) → IsSpace (unwrap_or o []) → All (IsMapped r space) (unwrap_or o []) →
      IfSome o (CanMap now space)
  each_space space None is mapped = tt
  each_space space (Some xs) is mapped = record { few = is.few; mapped = map_there space xs mapped; each = is.each; apart = is.apart }

  pub can_map : CanMapAll now r.spaces
  can_map space = each_space space (slice_index_or r.spaces space None) (apart space) (sound.mapped space)

-- The steps of the loops.

pub put_more : (xs now : List (Option Resource)) (n : ℕ) (one : Resource) → n < length now → n < length xs → n < 16 →
    get_or xs n None ≡ Some one → Filled xs (replicate 16 None) n now →
    Filled xs (replicate 16 None) (n + 1) (set now n (Some one))
put_more xs now n one inside there few at f =
    subst (λ (o : Option Resource). Filled xs (replicate 16 None) (n + 1) (set now n o)) at
    (filled_more xs (replicate 16 None) n now None inside there few f)

pub put_none : (xs now : List (Option Resource)) (n : ℕ) → n < length now → n < length xs → n < 16 →
    get_or xs n None ≡ None → Filled xs (replicate 16 None) n now → Filled xs (replicate 16 None) (n + 1) now
put_none xs now n inside there few at f =
    filled_same xs (replicate 16 None) n now None inside there few (get_or-replicate_none 16 n ∙ sym at) f

pub put_free : (xs now : List (Option Resource)) (n : ℕ) → Filled xs (replicate 16 None) n now → get_or now n None ≡ None
put_free xs now n f = filled_next xs (replicate 16 None) n now None f ∙ get_or-replicate_none 16 n

-- a space that is opened, and one that is not
emptied_some : (o : Option (List Region)) → is_some o ≡ true → emptied o ≡ Some []
emptied_some None used = absurd (false≢true used)
emptied_some (Some xs) used = refl

emptied_none : (o : Option (List Region)) → is_some o ≡ false → emptied o ≡ None
emptied_none None free = refl
emptied_none (Some xs) free = absurd (false≢true (sym free))

pub open_more : (spaces now : List (Option (List Region))) (n : ℕ) → length now ≡ 8 → length spaces ≡ 8 → n < 8 →
    is_some (get_or spaces n None) ≡ true → Filled (map emptied spaces) (replicate 8 None) n now →
    Filled (map emptied spaces) (replicate 8 None) (n + 1) (set now n (Some []))
open_more spaces now n count long low used f =
    subst (λ (o : Option (List Region)). Filled (map emptied spaces) (replicate 8 None) (n + 1) (set now n o))
    (emptied_at spaces n ∙ emptied_some (get_or spaces n None) used)
    (filled_more (map emptied spaces) (replicate 8 None) n now None (omega (arith, count, low)) (omega (arith, long, low, length-map spaces emptied)) low f)

pub open_none : (spaces now : List (Option (List Region))) (n : ℕ) → length now ≡ 8 → length spaces ≡ 8 → n < 8 →
    is_some (get_or spaces n None) ≡ false → Filled (map emptied spaces) (replicate 8 None) n now →
    Filled (map emptied spaces) (replicate 8 None) (n + 1) now
open_none spaces now n count long low free f =
    filled_same (map emptied spaces) (replicate 8 None) n now None (omega (arith, count, low)) (omega (arith, long, low, length-map spaces emptied)) low
    (get_or-replicate_none 8 n ∙ sym (emptied_at spaces n ∙ emptied_none (get_or spaces n None) free)) f

pub map_step : (r0 r : Resources) (space : ℕ) (xs : List Region) (i : ℕ) (d : Region) (m : Mapped (Unit {0})) →
    CanMap r0 space xs → i < length xs → IsInUse r0 space → r ≡ with_regions space (take i xs) r0 →
    m ≡ map_region space (get_or xs i d) r →
    m ≡ record { answer = Ok tt; resources = with_regions space (take (i + 1) xs) r0 }
map_step r0 r space xs i d m can inside used is made =
    made ∙ (ap (map_region space (get_or xs i d)) is ∙ map_more r0 space xs can i d inside (inside_from_some r0.spaces space used))

-- the regions of the first n spaces are mapped
pub record MappedTo (r0 : Resources) (spaces : List (Option (List Region))) (n : ℕ) (r : Resources) : Type 0 where
  pub held_is : r.held ≡ r0.held
  pub count : length r.spaces ≡ 8
  pub filled : Filled spaces (map emptied spaces) n r.spaces

module _ (r0 : Resources) (spaces : List (Option (List Region))) (long : length spaces ≡ 8) where
  pub mapped_none : r0.spaces ≡ map emptied spaces → MappedTo r0 spaces 0 r0
  mapped_none is = record {
    held_is = refl;
    count = ap length is ∙ (length-map spaces emptied ∙ long);
    filled = subst (Filled spaces (map emptied spaces) 0) (sym is) (filled_none spaces (map emptied spaces));
  }

  pub mapped_more : (n : ℕ) (r r' : Resources) (xs : List Region) → n < 8 → get_or spaces n None ≡ Some xs →
      r' ≡ with_regions n xs r → MappedTo r0 spaces n r → MappedTo r0 spaces (n + 1) r'
  mapped_more n r r' xs low at is before =
      subst (MappedTo r0 spaces (n + 1)) (sym is)
      (record {
        held_is = before.held_is;
        count = length-set r.spaces n (Some xs) ∙ before.count;
        filled = subst (λ (o : Option (List Region)). Filled spaces (map emptied spaces) (n + 1) (set r.spaces n o)) at
            (filled_more spaces (map emptied spaces) n r.spaces None (omega (arith, before.count, low)) (omega (arith, long, low))
            (omega (arith, long, low, length-map spaces emptied)) before.filled);
      })

  pub mapped_free : (n : ℕ) (r : Resources) → n < 8 → get_or spaces n None ≡ None → MappedTo r0 spaces n r →
      MappedTo r0 spaces (n + 1) r
  mapped_free n r low at before = record {
    held_is = before.held_is;
    count = before.count;
    filled = filled_same spaces (map emptied spaces) n r.spaces None (omega (arith, before.count, low)) (omega (arith, long, low))
        (omega (arith, long, low, length-map spaces emptied)) (emptied_at spaces n ∙ (ap emptied at ∙ sym at)) before.filled;
  }

  pub mapped_last : (n : ℕ) (r : Resources) → 8 ≤ n → MappedTo r0 spaces n r → r ≡ record { held = r0.held; spaces = spaces }
  mapped_last n r last before =
      let is : r.spaces ≡ spaces = filled_all spaces (map emptied spaces) n r.spaces (omega (arith, before.count, last)) (omega (arith, long, last)) before.filled in
      rw (before.held_is, is) refl

  pub empty_now : (n : ℕ) (r : Resources) (xs : List Region) → get_or spaces n None ≡ Some xs → MappedTo r0 spaces n r →
      regions_in r n ≡ []
  empty_now n r xs at before =
      ap (λ (o : Option (List Region)). unwrap_or o [])
      (filled_next spaces (map emptied spaces) n r.spaces None before.filled ∙ (emptied_at spaces n ∙ ap emptied at))

  pub can_now : (n : ℕ) (r : Resources) (xs : List Region) → CanMapAll r0 spaces → get_or spaces n None ≡ Some xs →
      r.held ≡ r0.held → CanMap r n xs
  can_now n r xs all at held =
      let can : CanMap r0 n xs = subst (λ (o : Option (List Region)). IfSome o (CanMap r0 n)) at (all n) in
      record {
        few = can.few;
        mapped = λ k d inside.
            subst (λ (l : List (Option Resource)). IsSomeAnd (slice_index_or l (get_or xs k d).resource None)
            (λ x. (is_shared_with n x.owner ≡ true) × ((get_or xs k d).first + (get_or xs k d).pages ≤ x.pages))) (sym held) (can.mapped k d inside);
        each = can.each;
        apart = can.apart;
      }
