-- The files of a domain by rising number, over plain variables.
use Rattle.std.proofs.Common.{◌≡◌, ◌≢◌, ◌∙◌, ◌≤◌, ◌<◌, ◌+◌, ℕ, zero, suc, Bool, true, false, cond, List, [], ◌∷◌, ◌++◌, length, drop, Option, Some, None, All, refl, ap, sym, arith, add-one}
use Rattle.std.specs.Prelude.{nat_lt, ◌==◌, AllPairs, IfSome, sum_by, count_by, option_and_then, slice_index_or}
use Rattle.std.specs.List.{insert}
use Rattle.std.proofs.lemmas.Bool.{ltb-true, ltb-false}
use Rattle.std.proofs.lemmas.Bool.Decides.{Decides-eqb}
use Rattle.std.proofs.lemmas.List.{drop_more, drop_all}
use Rattle.std.proofs.lemmas.List.Sums.{sum_by-cons}
use Rattle.std.proofs.lemmas.Option.{same_Some}
use Rattle.cloak_model.specs.declared.resource.Owner.{Owner}
use Rattle.cloak_model.specs.declared.resource.Owner.TheVariants.{Space, File}
use Rattle.cloak_model.specs.declared.resource.Resource.{Resource}
use Rattle.cloak_model.specs.Files.{holds_file, is_file}
use Rattle.cloak_model.specs.Resources.{Resources, pages_of, resource_at}
use Rattle.resource_map.specs.Kept.{IsHeld, IsSound}
use Rattle.hypercalls.specs.Filing.{file_at, file_owned}
use Rattle.joint_machine.specs.Storing.{HasLowerNumber, pages_at, place_before, place_in, place_inserted, place_owned, places_in, places_sorted}
use Rattle.joint_machine.specs.declared.storing.FilePlace.{FilePlace}

-- One file among others.

pub inserted_at : (f : FilePlace) (places : List FilePlace) →
    insert places (place_before f.number places) f ≡ place_inserted f places
inserted_at f [] = refl
inserted_at f (g ∷ places) =
    elim (nat_lt f.number g.number) as (λ b. insert (g ∷ places) (cond b 0 (place_before f.number places + 1)) f ≡ cond b (f ∷ g ∷ places) (g ∷ place_inserted f places)) [
      | true ↦ refl
      | false ↦
          ap (λ (n : ℕ). insert (g ∷ places) n f) (add-one (place_before f.number places))
          ∙ ap (λ (l : List FilePlace). g ∷ l) (inserted_at f places)
    ]

pub before_inside : (number : ℕ) (places : List FilePlace) → place_before number places ≤ length places
before_inside number [] = omega arith
before_inside number (g ∷ places) =
    elim (nat_lt number g.number) as (λ b. cond b 0 (place_before number places + 1) ≤ suc (length places)) [
      | true ↦ omega arith
      | false ↦ (let h = before_inside number places in omega (arith, h))
    ]

-- What holds of each.

abbrev Each : (FilePlace → Type 0) → List FilePlace → Type 0
Each P [] = Unit {0}
Each P (f ∷ places) = P f × Each P places

each_then : (P Q : FilePlace → Type 0) (places : List FilePlace) → ((f : FilePlace) → P f → Q f) → Each P places →
    Each Q places
each_then P Q [] then each = tt
each_then P Q (f ∷ places) then each = (then f each.0, each_then P Q places then each.1)

inserted_each : (P : FilePlace → Type 0) (f : FilePlace) (places : List FilePlace) → P f → Each P places →
    Each P (place_inserted f places)
inserted_each P f [] here rest = (here, tt)
inserted_each P f (g ∷ places) here rest =
    elim (nat_lt f.number g.number) as (λ b. Each P (cond b (f ∷ g ∷ places) (g ∷ place_inserted f places))) [
      | true ↦ (here, rest)
      | false ↦ (rest.0, inserted_each P f places here rest.1)
    ]

sorted_each : (P : FilePlace → Type 0) (places : List FilePlace) → Each P places → Each P (places_sorted places)
sorted_each P [] rest = tt
sorted_each P (f ∷ places) rest = inserted_each P f (places_sorted places) rest.0 (sorted_each P places rest.1)

all_each : (P : FilePlace → Type 0) (places : List FilePlace) → Each P places → All P places
all_each P [] rest i x low = absurd (omega (arith, low))
all_each P (f ∷ places) rest zero x low = rest.0
all_each P (f ∷ places) rest (suc i) x low = all_each P places rest.1 i x (omega (arith, low))

-- Numbers.

abbrev ones : Bool → ℕ
ones b = cond b 1 0

counted : (p : Option Resource → Bool) (x : Option Resource) (xs : List (Option Resource)) →
    count_by p (x ∷ xs) ≡ cond (p x) 1 0 + count_by p xs
counted p x xs = sum_by-cons (λ (y : Option Resource). cond (p y) 1 0) x xs

abbrev IsOther : ℕ → FilePlace → Type 0
IsOther number g = g.number ≢ number

one_not_none : (b : Bool) → b ≡ true → ones b ≡ 0 → ⊥
one_not_none true is none = omega (arith, none)
one_not_none false is none = cc

none_owned : (number n pages : ℕ) (owner : Owner) (rest : List FilePlace) → ones (is_file number owner) ≡ 0 →
    Each (IsOther number) rest → Each (IsOther number) (place_owned n pages owner ++ rest)
none_owned number n pages (Space space) rest none each = each
none_owned number n pages (File file) rest none each =
    (λ same. absurd (one_not_none (file == number) ((Decides-eqb file number).1 same) none), each)

-- if no resource is the file of this number, no file has it
none_later : (number n : ℕ) (held : List (Option Resource)) → count_by (holds_file number) held ≡ 0 →
    Each (IsOther number) (places_in n held)
none_later number n [] none = tt
none_later number n (None ∷ more) none =
    none_later number (n + 1) more (let e = counted (holds_file number) None more in omega (arith, e, none))
none_later number n (Some h ∷ more) none =
    let e = counted (holds_file number) (Some h) more in
    none_owned number n h.pages h.owner (places_in (n + 1) more) (omega (arith, e, none))
    (none_later number (n + 1) more (omega (arith, e, none)))

-- the numbers are all different
abbrev Distinct : List FilePlace → Type 0
Distinct [] = Unit {0}
Distinct (f ∷ places) = Each (IsOther f.number) places × Distinct places

distinct_owned : (n pages : ℕ) (owner : Owner) (more : List (Option Resource)) →
    ((number : ℕ) → ones (is_file number owner) + count_by (holds_file number) more ≤ 1) →
    Distinct (places_in (n + 1) more) → Distinct (place_owned n pages owner ++ places_in (n + 1) more)
distinct_owned n pages (Space space) more few rest = rest
distinct_owned n pages (File file) more few rest =
    let one : ones (file == file) ≡ 1 = ap ones ((Decides-eqb file file).1 refl) in
    let most = few file in
    (none_later file (n + 1) more (omega (arith, one, most)), rest)

distinct_in : (n : ℕ) (held : List (Option Resource)) → ((number : ℕ) → count_by (holds_file number) held ≤ 1) →
    Distinct (places_in n held)
distinct_in n [] few = tt
distinct_in n (None ∷ more) few =
    distinct_in (n + 1) more (λ number. let e = counted (holds_file number) None more in let most = few number in omega (arith, e, most))
distinct_in n (Some h ∷ more) few =
    distinct_owned n h.pages h.owner more
    (λ number. let e = counted (holds_file number) (Some h) more in let most = few number in omega (arith, e, most))
    (distinct_in (n + 1) more (λ number. let e = counted (holds_file number) (Some h) more in let most = few number in omega (arith, e, most)))

-- each has a lower number than those after it
abbrev Rising : List FilePlace → Type 0
Rising [] = Unit {0}
Rising (f ∷ places) = Each (HasLowerNumber f) places × Rising places

rising_by : (b : Bool) (f g : FilePlace) (places : List FilePlace) → nat_lt f.number g.number ≡ b →
    IsOther f.number g → Rising (g ∷ places) → Rising (place_inserted f places) →
    Rising (cond b (f ∷ g ∷ places) (g ∷ place_inserted f places))
rising_by true f g places is other rising rest =
    let less : f.number < g.number = ltb-true f.number g.number is in
    ((less, each_then (HasLowerNumber g) (HasLowerNumber f) places (λ h low. omega (arith, less, low)) rising.0), rising)
rising_by false f g places is other rising rest =
    let least : g.number ≤ f.number = ltb-false f.number g.number is in
    (inserted_each (HasLowerNumber g) f places (omega (arith, least, other)) rising.0, rest)

inserted_rising : (f : FilePlace) (places : List FilePlace) → Each (IsOther f.number) places → Rising places →
    Rising (place_inserted f places)
inserted_rising f [] others rising = (tt, tt)
inserted_rising f (g ∷ places) others rising =
    rising_by (nat_lt f.number g.number) f g places refl others.0 rising (inserted_rising f places others.1 rising.1)

sorted_rising : (places : List FilePlace) → Distinct places → Rising (places_sorted places)
sorted_rising [] distinct = tt
sorted_rising (f ∷ places) distinct =
    inserted_rising f (places_sorted places) (sorted_each (IsOther f.number) places distinct.0) (sorted_rising places distinct.1)

pairs_rising : (places : List FilePlace) → Rising places → AllPairs HasLowerNumber places
pairs_rising [] rising i j d less low = absurd (omega (arith, low))
pairs_rising (f ∷ places) rising zero zero d less low = absurd (omega (arith, less))
pairs_rising (f ∷ places) rising zero (suc j) d less low = all_each (HasLowerNumber f) places rising.0 j d (omega (arith, low))
pairs_rising (f ∷ places) rising (suc i) zero d less low = absurd (omega (arith, less))
pairs_rising (f ∷ places) rising (suc i) (suc j) d less low =
    pairs_rising places rising.1 i j d (omega (arith, less)) (omega (arith, low))

-- Pages.

-- a file has pages, and is one of sixteen resources
pub record IsPlace (f : FilePlace) : Type 0 where
  pub some : 1 ≤ f.pages
  pub inside : f.resource < 16

owned_each : (n pages : ℕ) (owner : Owner) (rest : List FilePlace) → n < 16 → 1 ≤ pages → Each IsPlace rest →
    Each IsPlace (place_owned n pages owner ++ rest)
owned_each n pages (Space space) rest inside some each = each
owned_each n pages (File file) rest inside some each = (record { some = some; inside = inside }, each)

places_each : (n : ℕ) (held : List (Option Resource)) → n + length held ≤ 16 →
    ((k : ℕ) → IfSome (slice_index_or held k None) (λ h. 1 ≤ h.pages)) → Each IsPlace (places_in n held)
places_each n [] count some = tt
places_each n (None ∷ more) count some = places_each (n + 1) more (omega (arith, count)) (λ k. some (suc k))
places_each n (Some h ∷ more) count some =
    owned_each n h.pages h.owner (places_in (n + 1) more) (omega (arith, count)) (some 0)
    (places_each (n + 1) more (omega (arith, count)) (λ k. some (suc k)))

inserted_sum : (f : FilePlace) (places : List FilePlace) →
    sum_by pages_at (place_inserted f places) ≡ f.pages + sum_by pages_at places
inserted_sum f [] = sum_by-cons pages_at f []
inserted_sum f (g ∷ places) =
    elim (nat_lt f.number g.number) as (λ b. sum_by pages_at (cond b (f ∷ g ∷ places) (g ∷ place_inserted f places)) ≡ f.pages + sum_by pages_at (g ∷ places)) [
      | true ↦ sum_by-cons pages_at f (g ∷ places)
      | false ↦
          (let a = sum_by-cons pages_at g (place_inserted f places) in
          let b = sum_by-cons pages_at g places in
          let c = inserted_sum f places in
          omega (arith, a, b, c))
    ]

sorted_sum : (places : List FilePlace) → sum_by pages_at (places_sorted places) ≡ sum_by pages_at places
sorted_sum [] = refl
sorted_sum (f ∷ places) =
    let a = inserted_sum f (places_sorted places) in
    let b = sorted_sum places in
    let c = sum_by-cons pages_at f places in
    omega (arith, a, b, c)

owned_sum : (n pages : ℕ) (owner : Owner) (rest : List FilePlace) →
    sum_by pages_at (place_owned n pages owner ++ rest) ≤ pages + sum_by pages_at rest
owned_sum n pages (Space space) rest = omega arith
owned_sum n pages (File file) rest =
    let f : FilePlace = record { resource = n; number = file; pages = pages } in
    let a = sum_by-cons pages_at f rest in omega (arith, a)

places_sum : (n : ℕ) (held : List (Option Resource)) → sum_by pages_at (places_in n held) ≤ sum_by pages_of held
places_sum n [] = omega arith
places_sum n (None ∷ more) =
    let a = sum_by-cons pages_of None more in
    let b = places_sum (n + 1) more in omega (arith, a, b)
places_sum n (Some h ∷ more) =
    let a = sum_by-cons pages_of (Some h) more in
    let b = places_sum (n + 1) more in
    let c = owned_sum n h.pages h.owner (places_in (n + 1) more) in
    omega (arith, a, b, c)

-- What is told of the files of a domain.

pub record AreFiles (places : List FilePlace) : Type 0 where
  pub rise : AllPairs HasLowerNumber places
  pub each : All IsPlace places
  pub few : sum_by pages_at places ≤ 1024

some_of : (r : Resources) (o : Option Resource) → IfSome o (IsHeld r) → IfSome o (λ h. 1 ≤ h.pages)
some_of r None is = tt
some_of r (Some h) is = is.0

pub are_files : (r : Resources) → IsSound r → AreFiles (places_sorted (places_in 0 r.held))
are_files r sound = record {
  rise = pairs_rising _ (sorted_rising (places_in 0 r.held) (distinct_in 0 r.held sound.files));
  each = all_each IsPlace _ (sorted_each IsPlace (places_in 0 r.held)
      (places_each 0 r.held (let count = sound.numbers in omega (arith, count)) (λ k. some_of r (resource_at r k) (sound.held k))));
  few = (let a = sorted_sum (places_in 0 r.held) in
      let b = places_sum 0 r.held in
      let c = sound.few in
      omega (arith, a, b, c));
}

-- One number more.

told_none : (n : ℕ) (h : Option Resource) (rest : List FilePlace) →
    option_and_then (λ (held : Resource). file_owned held.owner held.pages) h ≡ None → place_in n h ++ rest ≡ rest
told_none n None rest is = refl
told_none n (Some h) rest is = by_owner h.owner is
  where
    by_owner : (owner : Owner) → file_owned owner h.pages ≡ None → place_owned n h.pages owner ++ rest ≡ rest
    by_owner (Space space) is = refl
    by_owner (File file) is = absurd (cc)

told_some : (n number pages : ℕ) (h : Option Resource) (rest : List FilePlace) →
    option_and_then (λ (held : Resource). file_owned held.owner held.pages) h ≡ Some (number, pages) →
    place_in n h ++ rest ≡ record { resource = n; number = number; pages = pages } ∷ rest
told_some n number pages None rest is = absurd (cc)
told_some n number pages (Some h) rest is = by_owner h.owner h.pages is
  where
    place : ℕ × ℕ → FilePlace
    place told = record { resource = n; number = told.0; pages = told.1 }

    by_owner : (owner : Owner) (size : ℕ) → file_owned owner size ≡ Some (number, pages) →
        place_owned n size owner ++ rest ≡ place (number, pages) ∷ rest
    by_owner (Space space) size is = absurd (cc)
    by_owner (File file) size is = ap (λ (told : ℕ × ℕ). place told ∷ rest) (same_Some (file, size) (number, pages) is)

-- the files from a number on
abbrev pub PlacesFrom : Resources → ℕ → List FilePlace
PlacesFrom r n = places_sorted (places_in n (drop n r.held))

from_here : (r : Resources) (n : ℕ) → n < length r.held →
    PlacesFrom r n ≡ places_sorted (place_in n (resource_at r n) ++ places_in (n + 1) (drop (n + 1) r.held))
from_here r n low = ap (λ (l : List (Option Resource)). places_sorted (places_in n l)) (drop_more r.held n None low)

pub places_past : (r : Resources) (n : ℕ) → length r.held ≤ n → PlacesFrom r n ≡ []
places_past r n past = ap (λ (l : List (Option Resource)). places_sorted (places_in n l)) (drop_all n r.held past)

pub places_none : (r : Resources) (n : ℕ) (items : List FilePlace) → n < length r.held → file_at r n ≡ None →
    items ≡ PlacesFrom r (n + 1) → items ≡ PlacesFrom r n
places_none r n items low none is =
    is ∙ sym (from_here r n low ∙ ap places_sorted (told_none n (resource_at r n) (places_in (n + 1) (drop (n + 1) r.held)) none))

pub places_some : (r : Resources) (n number pages : ℕ) (items : List FilePlace) → n < length r.held →
    file_at r n ≡ Some (number, pages) → items ≡ PlacesFrom r (n + 1) →
    insert items (place_before number items) (record { resource = n; number = number; pages = pages })
    ≡ PlacesFrom r n
places_some r n number pages items low some is =
    let f : FilePlace = record { resource = n; number = number; pages = pages } in
    inserted_at f items
    ∙ (ap (place_inserted f) is
    ∙ sym (from_here r n low ∙ ap places_sorted (told_some n number pages (resource_at r n) (places_in (n + 1) (drop (n + 1) r.held)) some)))
