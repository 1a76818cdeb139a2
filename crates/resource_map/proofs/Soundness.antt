-- Resources that fit together still do after each call.
use Rattle.std.proofs.Common.{◌≡◌, ◌≢◌, ℕ, zero, suc, ◌+◌, ◌<◌, ◌≤◌, Bool, true, false, cond, List, [], length, get_or, set, replicate, Option, None, Some, unwrap_or, if◌then◌else◌, refl, ap, sym, ◌∙◌, subst, inl, inr, arith}
use Rattle.std.specs.Prelude.{All, IfSome, IsSome, IsNone, IsSomeAnd, position, count_by, slice_set}
use Rattle.std.proofs.lemmas.Bool.{cases_eq, eqb-true, eqb-false, eq-eqb, ne_eqb}
use Rattle.std.proofs.lemmas.List.{get_or-set_same, get_or-set_other, length-set, length-map}
use Rattle.std.proofs.lemmas.List.Elements.{All-nil, All-cons, All-weaker}
use Rattle.std.proofs.lemmas.List.Sums.{sum_by-set}
use Rattle.std.proofs.lemmas.Option.{IfSome_then}
use Rattle.cloak_model.specs.declared.resource.Owner.{Owner}
use Rattle.cloak_model.specs.declared.resource.Owner.TheVariants.{Space, File}
use Rattle.cloak_model.specs.declared.resource.Resource.{Resource}
use Rattle.cloak_model.specs.declared.resource.Region.{Region}
use Rattle.cloak_model.specs.Resources.{Resources, resource_at, regions_in, pages_of, all_pages, is_shared_with, with_regions, is_space, is_private_to, without_space, drop_space, started_resources}
use Rattle.cloak_model.specs.Files.{holds_file}
use Rattle.resource_map.specs.Kept.{IsInUse, IsMapped, IsOwner, IsHeld, IsSound}
use Rattle.resource_map.specs.Owning.{MayOwn}
use Rattle.resource_map.proofs.Lists.{get_or-replicate_none, get_or-map_all, get_or-set_none, count_by-no_position, sum_by-map-le}

-- As a domain begins.

held_at_start : (pages base n : ℕ) → 1 ≤ pages → IfSome (resource_at (started_resources pages base) n) (IsHeld (started_resources pages base))
unfolding started_resources
held_at_start pages base zero some = (some, refl)
held_at_start pages base (suc n) some =
    subst (λ (o : Option Resource). IfSome o (IsHeld (started_resources pages base))) (sym (get_or-replicate_none 15 n)) tt

mapped_at_start : (pages base space : ℕ) → All (IsMapped (started_resources pages base) space) (regions_in (started_resources pages base) space)
unfolding started_resources
mapped_at_start pages base zero =
    All-cons (IsMapped (started_resources pages base) zero) _ [] (refl, omega arith) (All-nil (IsMapped (started_resources pages base) zero))
mapped_at_start pages base (suc space) =
    subst (λ (o : Option (List Region)). All (IsMapped (started_resources pages base) (suc space)) (unwrap_or o [])) (sym (get_or-replicate_none 7 space))
    (All-nil (IsMapped (started_resources pages base) (suc space)))

pub IsSound-started : (pages base : ℕ) → 1 ≤ pages → pages ≤ 1024 → IsSound (started_resources pages base)
unfolding started_resources
IsSound-started pages base some few = record {
  numbers = refl;
  places = refl;
  held = λ n. held_at_start pages base n some;
  few = omega arith;
  files = λ number. omega arith;
  mapped = mapped_at_start pages base;
}

-- As a domain ends.

abbrev nothing_held : Resources
nothing_held = record { held = replicate 16 None; spaces = replicate 8 None }

pub IsSound-nothing : IsSound nothing_held
IsSound-nothing = record {
  numbers = refl;
  places = refl;
  held = λ n. subst (λ (o : Option Resource). IfSome o (IsHeld nothing_held)) (sym (get_or-replicate_none 16 n)) tt;
  few = omega arith;
  files = λ number. omega arith;
  mapped = λ space.
      subst (λ (o : Option (List Region)). All (IsMapped nothing_held space) (unwrap_or o [])) (sym (get_or-replicate_none 8 space))
      (All-nil (IsMapped nothing_held space));
}

-- A resource is made.

-- what may own is there
there_from_may : (owner : Owner) (r : Resources) → MayOwn owner r → IsOwner r owner
there_from_may (Space space) r may = may
there_from_may (File number) r may = tt

-- an owner is there, whatever the resources are
there_stays : (owner : Owner) (r : Resources) (held : List (Option Resource)) → IsOwner r owner → IsOwner (record r { held = held }) owner
there_stays (Space space) r held there = there
there_stays (File number) r held there = there

held_stays : (r : Resources) (held : List (Option Resource)) (o : Option Resource) → IfSome o (IsHeld r) → IfSome o (IsHeld (record r { held = held }))
held_stays r held o is = IfSome_then o is (λ x h. (h.0, there_stays x.owner r held h.1))

-- how often a number is this file
abbrev count_at : ℕ → Option Resource → ℕ
count_at number o = cond (holds_file number o) 1 0

-- a free number is no file
no_file : (number : ℕ) (o : Option Resource) → o ≡ None → count_at number o ≡ 0
no_file number o free = ap (count_at number) free

-- of a file that is made there was none
one_file : (owner : Owner) (pages number : ℕ) (r : Resources) → MayOwn owner r → count_by (holds_file number) r.held ≤ 1 → count_by (holds_file number) r.held + count_at number (Some (record { owner = owner; pages = pages })) ≤ 1
one_file (Space space) pages number r may few = omega arith
one_file (File file) pages number r may few =
    elim (cases_eq file number) [
      | inl same ↦
          let none : count_by (holds_file number) r.held ≡ 0 = count_by-no_position (holds_file number) r.held (subst (λ (n : ℕ). IsNone (position (holds_file n) r.held)) same may) in
          rw (eq-eqb file number same) (omega arith)
      | inr other ↦ rw (ne_eqb file number other) (omega arith)
    ]

-- a resource that is there is at another number than a free one
other_number : (r : Resources) (n m : ℕ) (P : Resource → Type 0) → resource_at r n ≡ None → IsSomeAnd (resource_at r m) P → m ≢ n
other_number r n m P free there same = subst (λ (o : Option Resource). IsSomeAnd o P) free (subst (λ (k : ℕ). IsSomeAnd (resource_at r k) P) same there)

-- what is mapped stays mapped if its resource stays
mapped_stays : (r r' : Resources) (space : ℕ) (g : Region) → resource_at r' g.resource ≡ resource_at r g.resource → IsMapped r space g → IsMapped r' space g
mapped_stays r r' space g same there =
    subst (λ (o : Option Resource). IsSomeAnd o (λ x. (is_shared_with space x.owner ≡ true) × (g.first + g.pages ≤ x.pages))) (sym same) there

module _ (owner : Owner) (pages n : ℕ) (r : Resources) where
  new : Resource
  new = record { owner = owner; pages = pages }

  made : Resources
  made = record r { held = set r.held n (Some new) }

  held_once_made : IsSound r → n < length r.held → 1 ≤ pages → MayOwn owner r → (m : ℕ) → IfSome (resource_at made m) (IsHeld made)
  unfolding made new
  held_once_made sound inside some may m =
      elim (cases_eq m n) [
        | inl same ↦
            subst (λ (o : Option Resource). IfSome o (IsHeld made)) (sym (ap (λ (k : ℕ). resource_at made k) same ∙ get_or-set_same r.held n (Some new) None inside))
            (some, there_stays owner r made.held (there_from_may owner r may))
        | inr other ↦
            subst (λ (o : Option Resource). IfSome o (IsHeld made)) (sym (get_or-set_other r.held n m (Some new) None other))
            (held_stays r made.held (resource_at r m) (sound.held m))
      ]

  pub IsSound-made : IsSound r → n < length r.held → resource_at r n ≡ None → 1 ≤ pages → all_pages r + pages ≤ 1024 → MayOwn owner r → IsSound (record r { held = slice_set r.held n (Some (record { owner = owner; pages = pages })) })
  unfolding made new
  IsSound-made sound inside free some few may = record {
    numbers = length-set r.held n (Some new) ∙ sound.numbers;
    places = sound.places;
    held = held_once_made sound inside some may;
    few =
        let all = sum_by-set pages_of r.held n (Some new) None inside in
        let none : pages_of (resource_at r n) ≡ 0 = ap pages_of free in
        omega arith;
    files = λ number.
        let all = sum_by-set (count_at number) r.held n (Some new) None inside in
        let none = no_file number (resource_at r n) free in
        let one = one_file owner pages number r may (sound.files number) in
        omega arith;
    mapped = λ space. All-weaker (IsMapped r space) (IsMapped made space) (λ g there. mapped_stays r made space g (get_or-set_other r.held n g.resource (Some new) None (other_number r n g.resource _ free there)) there) (regions_in r space) (sound.mapped space);
  }

-- A space has other regions.

-- a space that is in use stays so, and one that is given regions is
in_use_with : (space s : ℕ) (regions : List Region) (r : Resources) → space < length r.spaces → IsInUse r s → IsInUse (with_regions space regions r) s
in_use_with space s regions r inside used =
    elim (cases_eq s space) [
      | inl same ↦ subst (λ (o : Option (List Region)). IsSome o) (sym (ap (λ (k : ℕ). get_or (set r.spaces space (Some regions)) k None) same ∙ get_or-set_same r.spaces space (Some regions) None inside)) refl
      | inr other ↦ subst (λ (o : Option (List Region)). IsSome o) (sym (get_or-set_other r.spaces space s (Some regions) None other)) used
    ]

there_with : (space : ℕ) (regions : List Region) (r : Resources) → space < length r.spaces → (owner : Owner) → IsOwner r owner → IsOwner (with_regions space regions r) owner
there_with space regions r inside (Space s) there = in_use_with space s regions r inside there
there_with space regions r inside (File number) there = tt

mapped_with : (space : ℕ) (regions : List Region) (r : Resources) → IsSound r → space < length r.spaces → All (IsMapped r space) regions → (s : ℕ) → All (IsMapped r s) (regions_in (with_regions space regions r) s)
mapped_with space regions r sound inside all s =
    elim (cases_eq s space) [
      | inl same ↦
          let these : get_or (set r.spaces space (Some regions)) s None ≡ Some regions = ap (λ (k : ℕ). get_or (set r.spaces space (Some regions)) k None) same ∙ get_or-set_same r.spaces space (Some regions) None inside in
          subst (λ (o : Option (List Region)). All (IsMapped r s) (unwrap_or o [])) (sym these) (subst (λ (k : ℕ). All (IsMapped r k) regions) (sym same) all)
      | inr other ↦
          subst (λ (o : Option (List Region)). All (IsMapped r s) (unwrap_or o [])) (sym (get_or-set_other r.spaces space s (Some regions) None other)) (sound.mapped s)
    ]

pub IsSound-with_regions : (space : ℕ) (regions : List Region) (r : Resources) → IsSound r → space < length r.spaces → All (IsMapped r space) regions → IsSound (with_regions space regions r)
IsSound-with_regions space regions r sound inside all = record {
  numbers = sound.numbers;
  places = length-set r.spaces space (Some regions) ∙ sound.places;
  held = λ n. IfSome_then (resource_at r n) (sound.held n) (λ x h. (h.0, there_with space regions r inside x.owner h.1));
  few = sound.few;
  files = sound.files;
  mapped = mapped_with space regions r sound inside all;
}

-- A space ends.

fewer_pages : (space : ℕ) (o : Option Resource) → pages_of (without_space space o) ≤ pages_of o
fewer_pages space None = omega arith
fewer_pages space (Some x) = elim (is_private_to space (Some x)) as (λ t. pages_of (if t then None else Some x) ≤ x.pages) [ true ↦ omega arith | false ↦ omega arith ]

fewer_files : (space number : ℕ) (o : Option Resource) → count_at number (without_space space o) ≤ count_at number o
fewer_files space number None = omega arith
fewer_files space number (Some x) =
    elim (is_private_to space (Some x)) as (λ t. count_at number (if t then None else Some x) ≤ count_at number (Some x)) [ true ↦ omega arith | false ↦ omega arith ]

module _ (space : ℕ) (r : Resources) where
  -- an owner that is not the space is still there
  there_without : (owner : Owner) → is_space space owner ≡ false → IsOwner r owner → IsOwner (drop_space space r) owner
  unfolding drop_space
  there_without (Space s) other there =
      subst (λ (o : Option (List Region)). IsSome o) (sym (get_or-set_other r.spaces space s None None (eqb-false s space other))) there
  there_without (File number) other there = tt

  held_without : (o : Option Resource) → IfSome o (IsHeld r) → IfSome (without_space space o) (IsHeld (drop_space space r))
  held_without None held = tt
  held_without (Some x) held = by_test (is_space space x.owner) refl where
    by_test : (t : Bool) → is_space space x.owner ≡ t → IfSome (if t then None else Some x) (IsHeld (drop_space space r))
    by_test true e = tt
    by_test false e = (held.0, there_without x.owner e held.1)

  -- another space keeps what it may map
  kept_owner : (s : ℕ) (owner : Owner) → s ≢ space → is_shared_with s owner ≡ true → is_space space owner ≡ false
  kept_owner s (Space number) other shared =
      let same : number ≡ s = eqb-true number s shared in
      ne_eqb number space (λ e. other (sym same ∙ e))
  kept_owner s (File number) other shared = refl

  mapped_kept : (s first pages : ℕ) → s ≢ space → (o : Option Resource) → IsSomeAnd o (λ x. (is_shared_with s x.owner ≡ true) × (first + pages ≤ x.pages)) → IsSomeAnd (without_space space o) (λ x. (is_shared_with s x.owner ≡ true) × (first + pages ≤ x.pages))
  mapped_kept s first pages other None there = absurd there
  mapped_kept s first pages other (Some x) there =
      subst (λ (t : Bool). IsSomeAnd (if t then None else Some x) (λ x. (is_shared_with s x.owner ≡ true) × (first + pages ≤ x.pages))) (sym (kept_owner s x.owner other there.0)) there

  at_without : (n : ℕ) → resource_at (drop_space space r) n ≡ without_space space (resource_at r n)
  unfolding drop_space
  at_without n = get_or-map_all (without_space space) None None r.held n refl

  mapped_without : IsSound r → (s : ℕ) → All (IsMapped (drop_space space r) s) (regions_in (drop_space space r) s)
  unfolding drop_space
  mapped_without sound s =
      elim (cases_eq s space) [
        | inl same ↦
            let none : get_or (set r.spaces space None) s None ≡ None = ap (λ (k : ℕ). get_or (set r.spaces space None) k None) same ∙ get_or-set_none r.spaces space in
            subst (λ (o : Option (List Region)). All (IsMapped (drop_space space r) s) (unwrap_or o [])) (sym none) (All-nil (IsMapped (drop_space space r) s))
        | inr other ↦
            subst (λ (o : Option (List Region)). All (IsMapped (drop_space space r) s) (unwrap_or o [])) (sym (get_or-set_other r.spaces space s None None other))
            (All-weaker (IsMapped r s) (IsMapped (drop_space space r) s)
            (λ g there. subst (λ (o : Option Resource). IsSomeAnd o (λ x. (is_shared_with s x.owner ≡ true) × (g.first + g.pages ≤ x.pages))) (sym (at_without g.resource)) (mapped_kept s g.first g.pages other (resource_at r g.resource) there))
            (regions_in r s) (sound.mapped s))
      ]

  pub IsSound-dropped : IsSound r → IsSound (drop_space space r)
  unfolding drop_space
  IsSound-dropped sound = record {
    numbers = length-map r.held (without_space space) ∙ sound.numbers;
    places = length-set r.spaces space None ∙ sound.places;
    held = λ n. subst (λ (o : Option Resource). IfSome o (IsHeld (drop_space space r))) (sym (at_without n)) (held_without (resource_at r n) (sound.held n));
    few = let le = sum_by-map-le pages_of (without_space space) r.held (fewer_pages space) in omega (arith, sound.few);
    files = λ number. let le = sum_by-map-le (count_at number) (without_space space) r.held (fewer_files space number) in omega (arith, sound.files number);
    mapped = mapped_without sound;
  }
