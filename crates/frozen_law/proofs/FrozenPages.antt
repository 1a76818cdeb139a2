-- The recorded pages of a frozen state are of its programs, and rise.
use Rattle.std.proofs.Common.{◌≡◌, ◌∙◌, ℕ, zero, suc, ◌<◌, nat_lt, Bool, true, false, List, [], ◌∷◌, ◌++◌, map, Option, Some, None, refl, sym, subst, arith}
use Rattle.std.specs.Prelude.{◌==◌, ◌&&◌, ◌||◌, AllPairs}
use Rattle.std.specs.List.{flat_map, AllByRecursion}
use Rattle.std.proofs.Common.{eq-eqb}
use Rattle.std.proofs.lemmas.Bool.{lt-ltb}
use Rattle.std.proofs.lemmas.List.Kept.{AllPairs-cons}
use Rattle.cloak_base.specs.declared.names.PageId.{PageId}
use Rattle.cloak_model.specs.Ledger.{Ledger}
use Rattle.cloak_model.specs.Opening.{numbers_below}
use Rattle.frozen_state.specs.declared.frozen.FrozenPage.{FrozenPage}
use Rattle.frozen_state.specs.FrozenState.{page_named, pages_of_resource, pages_of_resources, pages_of_domains, page_with, recorded_of}
use Rattle.frozen_state.specs.Ranges.{IsPage, precedes, Rises}
use Rattle.range_law.proofs.Bounds.{by_place}
use Rattle.cloak_base.proofs.Lists.{each_weaker, each_append}

-- Each before each later one.

abbrev AreBefore : {A : Type 0} → (A → A → Type 0) → List A → Type 0
AreBefore R [] = Unit {0}
AreBefore R (x ∷ xs) = AllByRecursion (R x) xs × AreBefore R xs

pairs : {A : Type 0} (R : A → A → Type 0) (xs : List A) → AreBefore R xs → AllPairs R xs
pairs R [] all = λ i j d low inside. absurd (omega (arith, inside))
pairs R (x ∷ xs) all = AllPairs-cons R x xs (by_place (R x) xs all.0) (pairs R xs all.1)

before_weaker : {A : Type 0} (R T : A → A → Type 0) (xs : List A) → ((a b : A) → R a b → T a b) → AreBefore R xs →
    AreBefore T xs
before_weaker R T [] gives all = tt
before_weaker R T (x ∷ xs) gives all =
    (each_weaker (R x) (T x) xs (gives x) all.0, before_weaker R T xs gives all.1)

before_append : {A : Type 0} (R : A → A → Type 0) (xs ys : List A) → AreBefore R xs → AreBefore R ys →
    AllByRecursion (λ x. AllByRecursion (R x) ys) xs → AreBefore R (xs ++ ys)
before_append R [] ys first second apart = second
before_append R (x ∷ xs) ys first second apart =
    (each_append (R x) xs ys first.0 apart.0, before_append R xs ys first.1 second apart.1)

before_map : {A B : Type 0} (R : B → B → Type 0) (g : A → B) (xs : List A) → AreBefore (λ a b. R (g a) (g b)) xs →
    AreBefore R (map g xs)
before_map {A = A} R g [] all = tt
before_map {A = A} R g (x ∷ xs) all = (mapped x xs all.0, before_map R g xs all.1)
  where
    mapped : (a : A) (ys : List A) → AllByRecursion (λ b. R (g a) (g b)) ys → AllByRecursion (R (g a)) (map g ys)
    mapped a [] each = tt
    mapped a (y ∷ ys) each = (each.0, mapped a ys each.1)

-- Numbers.

all_below : (Q : ℕ → Type 0) (n : ℕ) → ((k : ℕ) → k < n → Q k) → AllByRecursion Q (numbers_below n)
all_below Q zero holds = tt
all_below Q (suc n) holds =
    each_append Q (numbers_below n) (n ∷ []) (all_below Q n (λ k low. holds k (omega (arith, low))))
    (holds n (omega arith), tt)

numbers_rise : (n : ℕ) → AreBefore (λ a b. a < b) (numbers_below n)
numbers_rise zero = tt
numbers_rise (suc n) =
    before_append (λ a b. a < b) (numbers_below n) (n ∷ []) (numbers_rise n) (tt, tt)
    (all_below (λ a. AllByRecursion (λ b. a < b) (n ∷ [])) n (λ k low. (low, tt)))

-- Pages, one list after another.

all_flat : {A B : Type 0} (P : B → Type 0) (f : A → List B) (xs : List A) →
    AllByRecursion (λ a. AllByRecursion P (f a)) xs → AllByRecursion P (flat_map f xs)
all_flat P f [] all = tt
all_flat P f (x ∷ xs) all = each_append P (f x) (flat_map f xs) all.0 (all_flat P f xs all.1)

before_flat : {A B : Type 0} (R : B → B → Type 0) (f : A → List B) (xs : List A) →
    AllByRecursion (λ a. AreBefore R (f a)) xs →
    AreBefore (λ a b. AllByRecursion (λ x. AllByRecursion (R x) (f b)) (f a)) xs → AreBefore R (flat_map f xs)
before_flat {A = A} {B = B} R f [] each apart = tt
before_flat {A = A} {B = B} R f (x ∷ xs) each apart =
    before_append R (f x) (flat_map f xs) each.0 (before_flat R f xs each.1 apart.1) (crossed (f x) xs apart.0)
  where
    none : (ys : List B) → AllByRecursion (λ y. Unit {0}) ys
    none [] = tt
    none (y ∷ ys) = (tt, none ys)

    joined : (ys : List B) (b : A) (more : List A) → AllByRecursion (λ y. AllByRecursion (R y) (f b)) ys →
        AllByRecursion (λ y. AllByRecursion (R y) (flat_map f more)) ys →
        AllByRecursion (λ y. AllByRecursion (R y) (f b ++ flat_map f more)) ys
    joined [] b more first second = tt
    joined (y ∷ ys) b more first second =
        (each_append (R y) (f b) (flat_map f more) first.0 second.0, joined ys b more first.1 second.1)

    crossed : (ys : List B) (more : List A) →
        AllByRecursion (λ b. AllByRecursion (λ y. AllByRecursion (R y) (f b)) ys) more →
        AllByRecursion (λ y. AllByRecursion (R y) (flat_map f more)) ys
    crossed ys [] all = none ys
    crossed ys (b ∷ more) all = joined ys b more all.0 (crossed ys more all.1)

crossing : {A : Type 0} (P Q : A → Type 0) (R : A → A → Type 0) (xs ys : List A) →
    ((a b : A) → P a → Q b → R a b) → AllByRecursion P xs → AllByRecursion Q ys →
    AllByRecursion (λ x. AllByRecursion (R x) ys) xs
crossing P Q R [] ys gives first second = tt
crossing P Q R (x ∷ xs) ys gives first second =
    (each_weaker Q (R x) ys (λ b there. gives x b first.0 there) second, crossing P Q R xs ys gives first.1 second)

-- The order of pages.

abbrev Before : PageId → PageId → Type 0
Before p q = precedes p q ≡ true

or_left : (a b : Bool) → a ≡ true → a || b ≡ true
or_left true b is = refl
or_left false b is = absurd cc

or_right : (a b : Bool) → b ≡ true → a || b ≡ true
or_right true b is = refl
or_right false b is = is

pub and_both : (a b : Bool) → a ≡ true → b ≡ true → a && b ≡ true
and_both true b first second = second
and_both false b first second = absurd cc

by_domain : (p q : PageId) → p.domain < q.domain → Before p q
by_domain p q low = or_left _ _ (lt-ltb p.domain q.domain low)

by_resource : (p q : PageId) → p.domain ≡ q.domain → p.resource < q.resource → Before p q
by_resource p q same low =
    or_right (nat_lt p.domain q.domain) _
    (and_both (p.domain == q.domain) _ (eq-eqb p.domain q.domain same)
    (or_left _ _ (lt-ltb p.resource q.resource low)))

by_page : (p q : PageId) → p.domain ≡ q.domain → p.resource ≡ q.resource → p.page < q.page → Before p q
by_page p q domain resource low =
    or_right (nat_lt p.domain q.domain) _
    (and_both (p.domain == q.domain) _ (eq-eqb p.domain q.domain domain)
    (or_right (nat_lt p.resource q.resource) _
    (and_both (p.resource == q.resource) _ (eq-eqb p.resource q.resource resource) (lt-ltb p.page q.page low))))

-- Pages of a resource, of resources, of programs.

all_mapped : {A B : Type 0} (P : B → Type 0) (g : A → B) (xs : List A) → AllByRecursion (λ a. P (g a)) xs →
    AllByRecursion P (map g xs)
all_mapped P g [] all = tt
all_mapped P g (x ∷ xs) all = (all.0, all_mapped P g xs all.1)

resource_all : (P : PageId → Type 0) (d r n : ℕ) → ((k : ℕ) → k < n → P (page_named d r k)) →
    AllByRecursion P (pages_of_resource d r n)
unfolding pages_of_resource
resource_all P d r n holds =
    all_mapped P (page_named d r) (numbers_below n) (all_below (λ k. P (page_named d r k)) n holds)

resource_rises : (d r n : ℕ) → AreBefore Before (pages_of_resource d r n)
unfolding pages_of_resource
resource_rises d r n =
    before_map Before (page_named d r) (numbers_below n)
    (before_weaker (λ a b. a < b) (λ a b. Before (page_named d r a) (page_named d r b)) (numbers_below n)
    (λ a b low. by_page (page_named d r a) (page_named d r b) refl refl low) (numbers_rise n))

resources_all : (P : PageId → Type 0) (d n : ℕ) →
    ((r : ℕ) → r < n → AllByRecursion P (pages_of_resource d r 1024)) → AllByRecursion P (pages_of_resources d n)
unfolding pages_of_resources
resources_all P d n holds =
    all_flat P (λ r. pages_of_resource d r 1024) (numbers_below n)
    (all_below (λ r. AllByRecursion P (pages_of_resource d r 1024)) n holds)

abbrev InResource : ℕ → ℕ → PageId → Type 0
InResource d r q = (q.domain ≡ d) × (q.resource ≡ r)

in_resource : (d r n : ℕ) → AllByRecursion (InResource d r) (pages_of_resource d r n)
in_resource d r n = resource_all (InResource d r) d r n (λ k low. (refl, refl))

resources_rise : (d n : ℕ) → AreBefore Before (pages_of_resources d n)
unfolding pages_of_resources
resources_rise d n =
    let f : ℕ → List PageId = λ r. pages_of_resource d r 1024 in
    before_flat Before f (numbers_below n)
    (all_below (λ r. AreBefore Before (f r)) n (λ r low. resource_rises d r 1024))
    (before_weaker (λ a b. a < b) (λ a b. AllByRecursion (λ x. AllByRecursion (Before x) (f b)) (f a)) (numbers_below n)
    (λ a b low. crossing (InResource d a) (InResource d b) Before (f a) (f b)
    (λ p q first second. by_resource p q (first.0 ∙ sym second.0)
    (subst (λ (k : ℕ). k < q.resource) (sym first.1) (subst (λ (k : ℕ). a < k) (sym second.1) low)))
    (in_resource d a 1024) (in_resource d b 1024)) (numbers_rise n))

abbrev InDomain : ℕ → PageId → Type 0
InDomain d q = q.domain ≡ d

in_domain : (d n : ℕ) → AllByRecursion (InDomain d) (pages_of_resources d n)
in_domain d n =
    resources_all (InDomain d) d n (λ r low. resource_all (InDomain d) d r 1024 (λ k inside. refl))

pages_rise : (n : ℕ) → AreBefore Before (pages_of_domains n)
unfolding pages_of_domains
pages_rise n =
    let f : ℕ → List PageId = λ d. pages_of_resources d 16 in
    before_flat Before f (numbers_below n)
    (all_below (λ d. AreBefore Before (f d)) n (λ d low. resources_rise d 16))
    (before_weaker (λ a b. a < b) (λ a b. AllByRecursion (λ x. AllByRecursion (Before x) (f b)) (f a)) (numbers_below n)
    (λ a b low. crossing (InDomain a) (InDomain b) Before (f a) (f b)
    (λ p q first second. by_domain p q
    (subst (λ (k : ℕ). k < q.domain) (sym first) (subst (λ (k : ℕ). a < k) (sym second) low)))
    (in_domain a 16) (in_domain b 16)) (numbers_rise n))

pages_are : (n : ℕ) → AllByRecursion (IsPage n) (pages_of_domains n)
unfolding pages_of_domains
pages_are n =
    all_flat (IsPage n) (λ d. pages_of_resources d 16) (numbers_below n)
    (all_below (λ d. AllByRecursion (IsPage n) (pages_of_resources d 16)) n
    (λ d low. resources_all (IsPage n) d 16
    (λ r few. resource_all (IsPage n) d r 1024
    (λ k inside. record { domain = low; resource = few; page = inside }))))

-- Those that are recorded.

with_all : (P : PageId → Type 0) (q : PageId) (c iv : Option (List ℕ)) (rest : List FrozenPage) → P q →
    AllByRecursion (λ (p : FrozenPage). P p.page) rest →
    AllByRecursion (λ (p : FrozenPage). P p.page) (page_with q c iv ++ rest)
with_all P q (Some c) (Some iv) rest here all = (here, all)
with_all P q (Some c) None rest here all = all
with_all P q None iv rest here all = all

recorded_all : (P : PageId → Type 0) (l : Ledger) (pages : List PageId) → AllByRecursion P pages →
    AllByRecursion (λ (p : FrozenPage). P p.page) (recorded_of l pages)
recorded_all P l [] all = tt
recorded_all P l (q ∷ pages) all =
    with_all P q (l.recorded q) (l.iv q) (recorded_of l pages) all.0 (recorded_all P l pages all.1)

with_rises : (q : PageId) (c iv : Option (List ℕ)) (rest : List FrozenPage) →
    AllByRecursion (λ (p : FrozenPage). Before q p.page) rest → AreBefore Rises rest →
    AreBefore Rises (page_with q c iv ++ rest)
with_rises q (Some c) (Some iv) rest above rises = (above, rises)
with_rises q (Some c) None rest above rises = rises
with_rises q None iv rest above rises = rises

recorded_rise : (l : Ledger) (pages : List PageId) → AreBefore Before pages → AreBefore Rises (recorded_of l pages)
recorded_rise l [] rise = tt
recorded_rise l (q ∷ pages) rise =
    with_rises q (l.recorded q) (l.iv q) (recorded_of l pages) (recorded_all (Before q) l pages rise.0)
    (recorded_rise l pages rise.1)

pub recorded_are_pages : (l : Ledger) (n : ℕ) →
    AllByRecursion (λ (p : FrozenPage). IsPage n p.page) (recorded_of l (pages_of_domains n))
recorded_are_pages l n = recorded_all (IsPage n) l (pages_of_domains n) (pages_are n)

pub recorded_pages_rise : (l : Ledger) (n : ℕ) → AllPairs Rises (recorded_of l (pages_of_domains n))
recorded_pages_rise l n = pairs Rises _ (recorded_rise l (pages_of_domains n) (pages_rise n))
