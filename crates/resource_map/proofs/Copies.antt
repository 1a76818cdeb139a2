-- The copies of a space's private resources.
use Rattle.std.proofs.Common.{◌≡◌, ◌≢◌, ℕ, ◌+◌, ◌<◌, ◌≤◌, Bool, true, false, not, cond, List, [], ◌∷◌, length, get_or, set, map, Option, None, Some, unwrap_or, option_map, zero-add, refl, ap, sym, ◌∙◌, subst, inl, inr, arith}
use Rattle.std.specs.Prelude.{All, AllPairs, IfSome, IsSome, IsSomeAnd, is_none, nat_eq, nat_lt, find, zip, sum_by, slice_index_or}
use Rattle.std.specs.List.{list_any}
use Rattle.std.proofs.lemmas.Bool.{false≢true, eqb-true, eq-eqb, or_cases, both_ways, and_parts, not-true, ltb-false}
use Rattle.std.proofs.lemmas.List.{get_or-set_same, get_or-set_other, length-set, set-set}
use Rattle.std.proofs.lemmas.List.Elements.{All-nil, All-cons, All-head, All-tail, All-weaker, All-map}
use Rattle.std.proofs.lemmas.List.Kept.{AllPairs-cons}
use Rattle.std.proofs.lemmas.List.Sums.{sum_by-cons, sum_by-set}
use Rattle.std.proofs.lemmas.Option.{none-some, same_Some}
use Rattle.cloak_model.specs.declared.resource.Owner.{Owner}
use Rattle.cloak_model.specs.declared.resource.Owner.TheVariants.{Space, File}
use Rattle.cloak_model.specs.declared.resource.Resource.{Resource}
use Rattle.cloak_model.specs.declared.resource.Region.{Region}
use Rattle.cloak_model.specs.Resources.{Resources, resource_at, regions_in, pages_of, all_pages, is_private_to, is_shared_with}
use Rattle.cloak_model.specs.Fork.{marked, private_numbers, free_numbers, copies, private_pages, with_copies, with_copy, copy_of, copied_region, forked_resources}
use Rattle.resource_map.specs.Kept.{IsMapped, IsHeld, IsSound}
use Rattle.resource_map.specs.Copying.{IsCopy, can_copy}
use Rattle.resource_map.proofs.Lists.{All-find, get_or-map_all, none_from_test, inside_from_some}
use Rattle.resource_map.proofs.RegionLists.{AllPairs-head, AllPairs-tail}
use Rattle.resource_map.proofs.Places.{All-places, places_rise, sum_by-places, any-places}
use Rattle.resource_map.proofs.Soundness.{IsSound-made, IsSound-with_regions}

-- Pairs.

module _ {X Y : Type 0} (P : X → Type 0) (Q : Y → Type 0) where
  abbrev pub Both : X × Y → Type 0
  Both pair = P pair.0 × Q pair.1

  pub All-zip : (xs : List X) (ys : List Y) → All P xs → All Q ys → All Both (zip xs ys)
  All-zip [] ys first second = All-nil Both
  All-zip (x ∷ xs) [] first second = All-nil Both
  All-zip (x ∷ xs) (y ∷ ys) first second =
      All-cons Both (x, y) (zip xs ys) (All-head P x xs first, All-head Q y ys second) (All-zip xs ys (All-tail P x xs first) (All-tail Q y ys second))

abbrev pub Rises : ℕ × ℕ → ℕ × ℕ → Type 0
Rises a b = a.1 < b.1

pub AllPairs-zip : (xs ys : List ℕ) → AllPairs (λ a b. a < b) ys → AllPairs Rises (zip xs ys)
AllPairs-zip [] ys rise = λ i j d l m. absurd (omega arith)
AllPairs-zip (x ∷ xs) [] rise = λ i j d l m. absurd (omega arith)
AllPairs-zip (x ∷ xs) (y ∷ ys) rise =
    let above : All (λ b. y < b) ys = AllPairs-head (λ a b. a < b) y ys rise in
    let pairs = All-zip (λ (a : ℕ). Unit {0}) (λ b. y < b) xs ys (λ k d l. tt) above in
    AllPairs-cons Rises (x, y) (zip xs ys) (λ k d l. (pairs k d l).1) (AllPairs-zip xs ys (AllPairs-tail (λ a b. a < b) y ys rise))

pub sum_by-zip : (f : ℕ → ℕ) (xs ys : List ℕ) → sum_by (λ (pair : ℕ × ℕ). f pair.0) (zip xs ys) ≤ sum_by f xs
sum_by-zip f [] ys = omega arith
sum_by-zip f (x ∷ xs) [] = omega arith
sum_by-zip f (x ∷ xs) (y ∷ ys) =
    let pairs = sum_by-cons (λ (pair : ℕ × ℕ). f pair.0) (x, y) (zip xs ys) in
    let firsts = sum_by-cons f x xs in
    let later = sum_by-zip f xs ys in
    omega arith

-- the pair whose first number this is
abbrev is_first : ℕ → ℕ × ℕ → Bool
is_first n pair = nat_eq pair.0 n

find_step : (t : Bool) (n : ℕ) (pair : ℕ × ℕ) (rest : List (ℕ × ℕ)) → (t ≡ false → IsSome (find (is_first n) rest)) → IsSome (cond t (Some pair) (find (is_first n) rest))
find_step true n pair rest later = refl
find_step false n pair rest later = later refl

pub find-zip : (n : ℕ) (xs ys : List ℕ) → list_any (λ m. nat_eq m n) xs ≡ true → length xs ≤ length ys → IsSome (find (is_first n) (zip xs ys))
find-zip n [] ys any short = absurd (false≢true any)
find-zip n (x ∷ xs) [] any short = absurd (omega arith)
find-zip n (x ∷ xs) (y ∷ ys) any short =
    find_step (nat_eq x n) n (x, y) (zip xs ys)
    (λ no. elim (or_cases (nat_eq x n) (list_any (λ m. nat_eq m n) xs) any) [
      | inl here ↦ absurd (both_ways (nat_eq x n) no here)
      | inr there ↦ find-zip n xs ys there (omega arith)
    ])

passes_step : (t : Bool) (n : ℕ) (pair found : ℕ × ℕ) (rest : List (ℕ × ℕ)) → is_first n pair ≡ t → (find (is_first n) rest ≡ Some found → is_first n found ≡ true) → cond t (Some pair) (find (is_first n) rest) ≡ Some found → is_first n found ≡ true
passes_step true n pair found rest e later is = subst (λ (p : ℕ × ℕ). is_first n p ≡ true) (same_Some pair found is) e
passes_step false n pair found rest e later is = later is

-- what is found passes
find_passes : (n : ℕ) (list : List (ℕ × ℕ)) (found : ℕ × ℕ) → find (is_first n) list ≡ Some found → found.0 ≡ n
find_passes n list found is = eqb-true found.0 n (go list is) where
  go : (list : List (ℕ × ℕ)) → find (is_first n) list ≡ Some found → is_first n found ≡ true
  go [] is = absurd (none-some found is)
  go (pair ∷ rest) is = passes_step (is_first n pair) n pair found rest refl (go rest) is

-- Which copies there are.

private_all : (space : ℕ) (r : Resources) → All (λ n. is_private_to space (resource_at r n) ≡ true) (private_numbers space r)
private_all space r =
    All-places (is_private_to space) (λ n. is_private_to space (resource_at r n) ≡ true) None 0 r.held
    (λ i lt pass. subst (λ n. is_private_to space (resource_at r n) ≡ true) (sym (zero-add i)) pass)

pub free_all : (r : Resources) → All (λ n. (n < length r.held) × (resource_at r n ≡ None)) (free_numbers r)
free_all r =
    All-places is_none (λ n. (n < length r.held) × (resource_at r n ≡ None)) None 0 r.held
    (λ i lt pass. subst (λ n. (n < length r.held) × (resource_at r n ≡ None)) (sym (zero-add i)) (lt, none_from_test (resource_at r i) pass))

-- what is private to a space is there
pub some_from_private : (space : ℕ) (o : Option Resource) → is_private_to space o ≡ true → IsSome o
some_from_private space None private = absurd (false≢true private)
some_from_private space (Some x) private = refl

private_inside : (space : ℕ) (r : Resources) (n : ℕ) → length r.held ≡ 16 → is_private_to space (resource_at r n) ≡ true → n < 16
private_inside space r n long private =
    let inside = inside_from_some r.held n (some_from_private space (resource_at r n) private) in
    omega arith

marked_from_private : (space : ℕ) (r : Resources) (n : ℕ) → is_private_to space (resource_at r n) ≡ true → slice_index_or (marked space r) n false ≡ true
marked_from_private space r n private = get_or-map_all (is_private_to space) None false r.held n refl ∙ private

pub marked_all : (space : ℕ) (r : Resources) → All (λ n. slice_index_or (marked space r) n false ≡ true) (private_numbers space r)
marked_all space r = All-weaker (λ n. is_private_to space (resource_at r n) ≡ true) _ (λ n private. marked_from_private space r n private) (private_numbers space r) (private_all space r)

pub inside_all : (space : ℕ) (r : Resources) → length r.held ≡ 16 → All (λ n. n < 16) (private_numbers space r)
inside_all space r long = All-weaker (λ n. is_private_to space (resource_at r n) ≡ true) _ (λ n private. private_inside space r n long private) (private_numbers space r) (private_all space r)

-- a private resource with a free number
abbrev Suits : ℕ → Resources → ℕ × ℕ → Type 0
Suits space r copy = (is_private_to space (resource_at r copy.0) ≡ true) × ((copy.1 < length r.held) × (resource_at r copy.1 ≡ None))

copies_suit : (space : ℕ) (r : Resources) → All (Suits space r) (copies space r)
copies_suit space r =
    All-zip (λ n. is_private_to space (resource_at r n) ≡ true) (λ n. (n < length r.held) × (resource_at r n ≡ None)) (private_numbers space r) (free_numbers r) (private_all space r) (free_all r)

copies_rise : (space : ℕ) (r : Resources) → AllPairs Rises (copies space r)
copies_rise space r = AllPairs-zip (private_numbers space r) (free_numbers r) (places_rise is_none 0 r.held)

pub IsCopy-all : (space : ℕ) (r : Resources) → length r.held ≡ 16 → All (IsCopy space r) (copies space r)
IsCopy-all space r long =
    All-weaker (Suits space r) (IsCopy space r)
    (λ copy suits. record {
      marked = marked_from_private space r copy.0 suits.0;
      from = private_inside space r copy.0 long suits.0;
      to = let inside = suits.1.0 in omega arith;
      free = suits.1.1;
    })
    (copies space r) (copies_suit space r)

-- What the copies are.

module _ (new : ℕ) (r : Resources) where
  -- the resource that a copy is
  made : ℕ × ℕ → Resource
  made copy = record { owner = Space new; pages = pages_of (resource_at r copy.0) }

  -- no other number changes
  other_stays : (list : List (ℕ × ℕ)) (held : List (Option Resource)) (n : ℕ) → All (λ (copy : ℕ × ℕ). n ≢ copy.1) list → get_or (with_copies new held list r) n None ≡ get_or held n None
  other_stays [] held n other = refl
  other_stays (copy ∷ rest) held n other =
      other_stays rest (with_copy new held copy r) n (All-tail (λ (copy : ℕ × ℕ). n ≢ copy.1) copy rest other)
      ∙ get_or-set_other held copy.1 n _ None (All-head (λ (copy : ℕ × ℕ). n ≢ copy.1) copy rest other)

  copies_made : (list : List (ℕ × ℕ)) (held : List (Option Resource)) → All (λ (copy : ℕ × ℕ). copy.1 < length held) list → AllPairs Rises list → All (λ (copy : ℕ × ℕ). get_or (with_copies new held list r) copy.1 None ≡ Some (made copy)) list
  unfolding made
  copies_made [] held inside rise = All-nil _
  copies_made (copy ∷ rest) held inside rise =
      let held' = with_copy new held copy r in
      let long : length held' ≡ length held = length-set held copy.1 _ in
      let above : All (Rises copy) rest = AllPairs-head Rises copy rest rise in
      let here : get_or held' copy.1 None ≡ Some (made copy) = get_or-set_same held copy.1 _ None (All-head (λ (copy : ℕ × ℕ). copy.1 < length held) copy rest inside) in
      let later = copies_made rest held' (subst (λ (n : ℕ). All (λ (copy : ℕ × ℕ). copy.1 < n) rest) (sym long) (All-tail (λ (copy : ℕ × ℕ). copy.1 < length held) copy rest inside)) (AllPairs-tail Rises copy rest rise) in
      All-cons (λ (one : ℕ × ℕ). get_or (with_copies new held' rest r) one.1 None ≡ Some (made one)) copy rest
      (other_stays rest held' copy.1 (All-weaker (Rises copy) (λ (one : ℕ × ℕ). copy.1 ≢ one.1) (λ one low same. absurd (omega arith)) rest above) ∙ here)
      later

  -- Resources with these copies fit together.

  pages_from : ℕ × ℕ → ℕ
  pages_from copy = pages_of (resource_at r copy.0)

  -- a copy may be made in these numbers
  record IsApt (held : List (Option Resource)) (copy : ℕ × ℕ) : Type 0 where
    inside : copy.1 < length held
    free : get_or held copy.1 None ≡ None
    some : 1 ≤ pages_of (resource_at r copy.0)

  apt_after : (held : List (Option Resource)) (copy one : ℕ × ℕ) → Rises copy one → IsApt held one → IsApt (with_copy new held copy r) one
  apt_after held copy one low apt = record {
    inside = let long = length-set held copy.1 (Some (record { owner = Space new; pages = pages_of (resource_at r copy.0) })) in omega (arith, apt.inside);
    free = get_or-set_other held copy.1 one.1 _ None (λ same. absurd (omega arith)) ∙ apt.free;
    some = apt.some;
  }

  IsSound-copies : (spaces : List (Option (List Region))) (list : List (ℕ × ℕ)) (held : List (Option Resource)) → IsSound (record { held = held; spaces = spaces }) → IsSome (get_or spaces new None) → All (IsApt held) list → AllPairs Rises list → sum_by pages_of held + sum_by pages_from list ≤ 1024 → IsSound (record { held = with_copies new held list r; spaces = spaces })
  unfolding pages_from
  IsSound-copies spaces [] held sound used apt rise few = sound
  IsSound-copies spaces (copy ∷ rest) held sound used apt rise few =
      let here : IsApt held copy = All-head (IsApt held) copy rest apt in
      let held' = with_copy new held copy r in
      let pages = pages_of (resource_at r copy.0) in
      let sums = sum_by-cons pages_from copy rest in
      let all = sum_by-set pages_of held copy.1 (Some (record { owner = Space new; pages = pages })) None here.inside in
      let none : pages_of (get_or held copy.1 None) ≡ 0 = ap pages_of here.free in
      let above : All (Rises copy) rest = AllPairs-head Rises copy rest rise in
      let later : All (IsApt held) rest = All-tail (IsApt held) copy rest apt in
      IsSound-copies spaces rest held'
      (IsSound-made (Space new) pages copy.1 (record { held = held; spaces = spaces }) sound here.inside here.free here.some (omega arith) used)
      used
      (λ k d lt. apt_after held copy (get_or rest k d) (above k d lt) (later k d lt))
      (AllPairs-tail Rises copy rest rise)
      (omega arith)

-- The regions of the new space.

module _ (space new : ℕ) (r : Resources) where
  copied_held : List (Option Resource)
  copied_held = with_copies new r.held (copies space r) r

  copies_inside : All (λ (copy : ℕ × ℕ). copy.1 < length r.held) (copies space r)
  copies_inside = All-weaker (Suits space r) (λ (copy : ℕ × ℕ). copy.1 < length r.held) (λ copy suits. suits.1.0) (copies space r) (copies_suit space r)

  -- what is at a number in use stays
  stays_at : (n : ℕ) (x : Resource) → resource_at r n ≡ Some x → get_or copied_held n None ≡ Some x
  unfolding copied_held
  stays_at n x is =
      other_stays new r (copies space r) r.held n
      (All-weaker (Suits space r) (λ (copy : ℕ × ℕ). n ≢ copy.1)
      (λ copy suits same. none-some x (sym suits.1.1 ∙ (ap (λ (k : ℕ). resource_at r k) (sym same) ∙ is)))
      (copies space r) (copies_suit space r))
      ∙ is

  copy_at : (copy : ℕ × ℕ) (n : ℕ) → find (is_first n) (copies space r) ≡ Some copy → get_or copied_held copy.1 None ≡ Some (made new r copy)
  unfolding copied_held
  copy_at copy n found =
      All-find (λ (one : ℕ × ℕ). get_or (with_copies new r.held (copies space r) r) one.1 None ≡ Some (made new r one)) (is_first n) (copies space r) copy
      (copies_made new r (copies space r) r.held copies_inside (copies_rise space r)) found

  -- a private resource has a copy
  has_copy : (n : ℕ) → length (private_numbers space r) ≤ length (free_numbers r) → is_private_to space (resource_at r n) ≡ true → IsSome (find (is_first n) (copies space r))
  has_copy n enough private =
      let inside = inside_from_some r.held n (some_from_private space (resource_at r n) private) in
      find-zip n (private_numbers space r) (free_numbers r)
      (subst (λ k. list_any (λ m. nat_eq m k) (private_numbers space r) ≡ true) (zero-add n) (any-places (is_private_to space) None 0 n r.held inside private))
      enough

  MayMap : Region → Resource → Type 0
  MayMap g x = (is_shared_with new x.owner ≡ true) × (g.first + g.pages ≤ x.pages)

  -- a region of a file, of which there is no copy
  file_mapped : (g : Region) (owner : Owner) (pages : ℕ) → length (private_numbers space r) ≤ length (free_numbers r) → find (is_first g.resource) (copies space r) ≡ None → resource_at r g.resource ≡ Some (record { owner = owner; pages = pages }) → is_shared_with space owner ≡ true → g.first + g.pages ≤ pages → IsSomeAnd (get_or copied_held g.resource None) (MayMap g)
  unfolding MayMap
  file_mapped g (File number) pages enough none is shared within =
      subst (λ (o : Option Resource). IsSomeAnd o (MayMap g)) (sym (stays_at g.resource (record { owner = File number; pages = pages }) is)) (refl, within)
  file_mapped g (Space s) pages enough none is shared within =
      let private : is_private_to space (resource_at r g.resource) ≡ true = ap (is_private_to space) is ∙ shared in
      absurd (false≢true (subst IsSome none (has_copy g.resource enough private)))

  -- a region of a resource that has a copy
  private_mapped : (g : Region) (x : Resource) (copy : ℕ × ℕ) → find (is_first g.resource) (copies space r) ≡ Some copy → resource_at r g.resource ≡ Some x → g.first + g.pages ≤ x.pages → IsSomeAnd (get_or copied_held copy.1 None) (MayMap g)
  unfolding MayMap made
  private_mapped g x copy found is within =
      let from : resource_at r copy.0 ≡ Some x = ap (λ (k : ℕ). resource_at r k) (find_passes g.resource (copies space r) copy found) ∙ is in
      let pages : pages_of (resource_at r copy.0) ≡ x.pages = ap pages_of from in
      subst (λ (o : Option Resource). IsSomeAnd o (MayMap g)) (sym (copy_at copy g.resource found)) (eq-eqb new new refl, omega arith)

  copied_mapped : (g : Region) (x : Resource) (o : Option (ℕ × ℕ)) → length (private_numbers space r) ≤ length (free_numbers r) → find (is_first g.resource) (copies space r) ≡ o → resource_at r g.resource ≡ Some x → is_shared_with space x.owner ≡ true → g.first + g.pages ≤ x.pages → IsSomeAnd (get_or copied_held (unwrap_or (option_map (λ (copy : ℕ × ℕ). copy.1) o) g.resource) None) (MayMap g)
  copied_mapped g x None enough found is shared within = file_mapped g x.owner x.pages enough found is shared within
  copied_mapped g x (Some copy) enough found is shared within = private_mapped g x copy found is within

  region_mapped : (g : Region) (o : Option Resource) → length (private_numbers space r) ≤ length (free_numbers r) → resource_at r g.resource ≡ o → IsSomeAnd o (λ x. (is_shared_with space x.owner ≡ true) × (g.first + g.pages ≤ x.pages)) → IsSomeAnd (get_or copied_held (copy_of (copies space r) g.resource) None) (MayMap g)
  region_mapped g None enough is there = absurd there
  region_mapped g (Some x) enough is there = copied_mapped g x (find (is_first g.resource) (copies space r)) enough refl is there.0 there.1

-- A space is copied.

-- a private resource has pages
some_pages : (r : Resources) (n : ℕ) → IsSound r → IsSome (resource_at r n) → 1 ≤ pages_of (resource_at r n)
some_pages r n sound some = by_held (resource_at r n) some (sound.held n) where
  by_held : (o : Option Resource) → IsSome o → IfSome o (IsHeld r) → 1 ≤ pages_of o
  by_held None some held = absurd (false≢true some)
  by_held (Some x) some held = held.0

pub IsSound-forked : (space new : ℕ) (r : Resources) → IsSound r → new < 8 → can_copy space r ≡ true → IsSound (forked_resources space new r)
unfolding forked_resources copied_held MayMap pages_from
IsSound-forked space new r sound low room =
    let inside : new < length r.spaces = omega (arith, sound.places) in
    let parts = and_parts (not (nat_lt (length (free_numbers r)) (length (private_numbers space r)))) (not (nat_lt 1024 (all_pages r + private_pages space r))) room in
    let enough : length (private_numbers space r) ≤ length (free_numbers r) = ltb-false _ _ (not-true _ parts.0) in
    let few : all_pages r + private_pages space r ≤ 1024 = ltb-false _ _ (not-true _ parts.1) in
    let pages : ℕ → ℕ = λ n. pages_of (resource_at r n) in
    let zipped : sum_by (pages_from new r) (copies space r) ≤ sum_by pages (private_numbers space r) = sum_by-zip pages (private_numbers space r) (free_numbers r) in
    let placed : sum_by pages (private_numbers space r) ≡ private_pages space r = sum_by-places (is_private_to space) pages_of pages None 0 r.held (λ i lt. ap pages (zero-add i)) in
    let opened = IsSound-with_regions new [] r sound inside (All-nil (IsMapped r new)) in
    let apt = All-weaker (Suits space r) (IsApt new r r.held) (λ copy suits. record { inside = suits.1.0; free = suits.1.1; some = some_pages r copy.0 sound (some_from_private space (resource_at r copy.0) suits.0) }) (copies space r) (copies_suit space r) in
    let copied = IsSound-copies new r (set r.spaces new (Some [])) (copies space r) r.held opened (subst IsSome (sym (get_or-set_same r.spaces new (Some []) None inside)) refl) apt (copies_rise space r) (omega arith) in
    let r' : Resources = record { held = with_copies new r.held (copies space r) r; spaces = set r.spaces new (Some []) } in
    let regions = regions_in r space in
    let f = copied_region (copies space r) in
    let mapped : All (IsMapped r' new) (map f regions) = All-map (IsMapped r' new) f regions (All-weaker (IsMapped r space) (λ g. IsMapped r' new (f g)) (λ g there. region_mapped space new r g (resource_at r g.resource) enough refl there) regions (sound.mapped space)) in
    subst (λ (spaces : List (Option (List Region))). IsSound (record { held = with_copies new r.held (copies space r) r; spaces = spaces })) (set-set r.spaces new (Some []) (Some (map f regions)))
    (IsSound-with_regions new (map f regions) r' copied (let long = length-set r.spaces new (Some []) in omega arith) mapped)

-- the same of parts that are equal
pub IsSound-copied : (space new : ℕ) (r : Resources) (held : List (Option Resource)) (spaces : List (Option (List Region))) (regions : List Region) → IsSound r → new < 8 → can_copy space r ≡ true → held ≡ with_copies new r.held (copies space r) r → spaces ≡ r.spaces → regions ≡ map (copied_region (copies space r)) (regions_in r space) → IsSound (record { held = held; spaces = set spaces new (Some regions) })
unfolding forked_resources
IsSound-copied space new r held spaces regions sound low room held_is spaces_is regions_is =
    rw (held_is, spaces_is, regions_is) (IsSound-forked space new r sound low room)
