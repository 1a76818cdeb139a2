-- Lists of regions that lie one above another.
use Rattle.std.proofs.Common.{◌≡◌, ℕ, suc, ◌+◌, ◌-◌, ◌<◌, ◌≤◌, Bool, true, false, not, cond, List, [], ◌∷◌, length, get_or, map, ◌⊎◌, drop, None, Some, unwrap_or, refl, ap, sym, ◌∙◌, subst, inl, inr, arith, one-add}
use Rattle.std.specs.Prelude.{All, AllPairs, find, position, nat_lt, insert}
use Rattle.std.specs.List.{list_any, position_or_len}
use Rattle.std.proofs.lemmas.Bool.{cases_lt, ltb-true, ltb-false, lt-ltb, le-ltb, or_parts, and_cases, and_left, lt-leb}
use Rattle.std.proofs.lemmas.List.{get_or-drop, get_or_default, get_or-map, length-map, length-drop}
use Rattle.std.proofs.lemmas.List.Elements.{All-nil, All-cons, All-head, All-tail, All-weaker, All-map}
use Rattle.std.proofs.lemmas.List.Kept.{AllPairs-cons}
use Rattle.std.proofs.lemmas.List.Sums.{prefix_len-le-length}
use Rattle.cloak_model.specs.declared.resource.Region.{Region}
use Rattle.cloak_model.specs.Fork.{copied_region}
use Rattle.cloak_model.specs.Resources.{is_inside, region_end, overlaps, with_region}
use Rattle.resource_map.specs.Kept.{IsSoundRegion, EndsBelow}

-- the first of a list stands in order with all that follow, and these with one another
pub AllPairs-head : {X : Type 0} (R : X → X → Type 0) (x : X) (xs : List X) → AllPairs R (x ∷ xs) → All (R x) xs
AllPairs-head R x xs h k d l = h 0 (suc k) d (omega arith) (omega arith)

pub AllPairs-tail : {X : Type 0} (R : X → X → Type 0) (x : X) (xs : List X) → AllPairs R (x ∷ xs) → AllPairs R xs
AllPairs-tail R x xs h i j d l m = h (suc i) (suc j) d (omega arith) (omega arith)

pub position_or_len-le-length : {X : Type 0} (p : X → Bool) (xs : List X) → position_or_len p xs ≤ length xs
position_or_len-le-length p xs = prefix_len-le-length (λ x. not (p x)) xs

-- a first place that may be the end
pub unwrap_or-position : {X : Type 0} (p : X → Bool) (xs : List X) (n : ℕ) → n ≡ length xs → unwrap_or (position p xs) n ≡ position_or_len p xs
unwrap_or-position p xs n e =
    let le : position_or_len p xs ≤ length xs = prefix_len-le-length (λ x. not (p x)) xs in
    elim (cases_lt (position_or_len p xs) (length xs)) [
      | inl lt ↦ ap (λ (t : Bool). unwrap_or (cond t (Some (position_or_len p xs)) None) n) (lt-ltb _ _ lt)
      | inr ge ↦ ap (λ (t : Bool). unwrap_or (cond t (Some (position_or_len p xs)) None) n) (le-ltb _ _ ge) ∙ omega arith
    ]

-- When no region has an address.

find_none : (va : ℕ) (xs : List Region) → All (λ (h : Region). va < h.start) xs → find (is_inside va) xs ≡ None
find_none va [] above = refl
find_none va (h ∷ xs) above =
    let low : va < h.start = All-head (λ (h : Region). va < h.start) h xs above in
    let out : is_inside va h ≡ false = and_left _ _ (lt-leb h.start va low) in
    ap (λ (t : Bool). cond t (Some h) (find (is_inside va) xs)) out ∙ find_none va xs (All-tail (λ (h : Region). va < h.start) h xs above)

-- none from a region on that starts above the address
pub find_stops : (va : ℕ) (xs : List Region) (i : ℕ) (d : Region) → i < length xs → AllPairs EndsBelow xs → va < (get_or xs i d).start → find (is_inside va) (drop i xs) ≡ None
find_stops va xs i d l apart low = find_none va (drop i xs) above where
  above : All (λ (h : Region). va < h.start) (drop i xs)
  above k e m =
      let long : length (drop i xs) ≡ length xs - i = length-drop i xs in
      let here : get_or xs i e ≡ get_or xs i d = get_or_default xs i e d l in
      let start : (get_or xs i e).start ≡ (get_or xs i d).start = ap (λ (h : Region). h.start) here in
      rw get_or-drop
      (elim (cases_lt 0 k) [
        | inl lt ↦
            let below : region_end (get_or xs i e) ≤ (get_or xs (i + k) e).start = apart i (i + k) e (omega arith) (omega arith) in
            omega arith
        | inr ge ↦
            let same : i + k ≡ i = omega arith in
            subst (λ (n : ℕ). va < (get_or xs n e).start) (sym same) (omega arith)
      ])

-- One more region.

abbrev starts_above : Region → Region → Bool
starts_above g h = nat_lt g.start h.start

-- a region goes in before the first that starts above it
pub with_region-is_insert : (g : Region) (xs : List Region) → insert xs (position_or_len (starts_above g) xs) g ≡ with_region g xs
with_region-is_insert g [] = refl
with_region-is_insert g (h ∷ xs) =
    let later = with_region-is_insert g xs in
    elim (starts_above g h) as (λ (t : Bool). insert (h ∷ xs) (cond (not t) (1 + position_or_len (starts_above g) xs) 0) g ≡ cond t (g ∷ (h ∷ xs)) (h ∷ with_region g xs)) [
      | true ↦ refl
      | false ↦ rw one-add (ap (λ (rest : List Region). h ∷ rest) later)
    ]

pub All-with_region : (P : Region → Type 0) (g : Region) (xs : List Region) → P g → All P xs → All P (with_region g xs)
All-with_region P g [] one all = All-cons P g [] one all
All-with_region P g (h ∷ xs) one all =
    let first : P h = All-head P h xs all in
    let later = All-with_region P g xs one (All-tail P h xs all) in
    elim (starts_above g h) as (λ (t : Bool). All P (cond t (g ∷ (h ∷ xs)) (h ∷ with_region g xs))) [
      | true ↦ All-cons P g (h ∷ xs) one all
      | false ↦ All-cons P h (with_region g xs) first later
    ]

pub IsSoundRegion-with_region : (g : Region) (xs : List Region) → IsSoundRegion g → All IsSoundRegion xs → All IsSoundRegion (with_region g xs)
IsSoundRegion-with_region g xs one all = All-with_region IsSoundRegion g xs one all

-- which of two regions lies below
apart_cases : (g h : Region) → overlaps g h ≡ false → (region_end g ≤ h.start) ⊎ (region_end h ≤ g.start)
apart_cases g h e =
    elim (and_cases _ _ e) [
      | inl above ↦ inr (ltb-false g.start (region_end h) above)
      | inr below ↦ inl (ltb-false h.start (region_end g) below)
    ]

-- what ends below a region ends below all that lie above that
EndsBelow-all : (g h : Region) (xs : List Region) → region_end g ≤ h.start → All (EndsBelow h) xs → All (EndsBelow g) xs
EndsBelow-all g h xs below all = All-weaker (EndsBelow h) (EndsBelow g) (λ x above. omega arith) xs all

-- a region with these, before the first of them or after it
put : Bool → Region → Region → List Region → List Region
put t g h xs = cond t (g ∷ (h ∷ xs)) (h ∷ with_region g xs)

put_apart : (t : Bool) (g h : Region) (xs : List Region) → starts_above g h ≡ t → IsSoundRegion g → IsSoundRegion h → (region_end g ≤ h.start) ⊎ (region_end h ≤ g.start) → AllPairs EndsBelow (h ∷ xs) → AllPairs EndsBelow (with_region g xs) → AllPairs EndsBelow (put t g h xs)
unfolding put
put_apart true g h xs e one first cases apart later =
    let low : g.start < h.start = ltb-true g.start h.start e in
    let below : region_end g ≤ h.start = elim cases [ inl b ↦ b | inr b ↦ absurd (omega (arith, first.some)) ] in
    let above : All (EndsBelow h) xs = AllPairs-head EndsBelow h xs apart in
    AllPairs-cons EndsBelow g (h ∷ xs) (All-cons (EndsBelow g) h xs below (EndsBelow-all g h xs below above)) apart
put_apart false g h xs e one first cases apart later =
    let high : h.start ≤ g.start = ltb-false g.start h.start e in
    let below : region_end h ≤ g.start = elim cases [ inl b ↦ absurd (omega (arith, one.some)) | inr b ↦ b ] in
    let above : All (EndsBelow h) xs = AllPairs-head EndsBelow h xs apart in
    AllPairs-cons EndsBelow h (with_region g xs) (All-with_region (EndsBelow h) g xs below above) later

-- a region that shares no address with the others stands in order with them
pub EndsBelow-with_region : (g : Region) (xs : List Region) → IsSoundRegion g → All IsSoundRegion xs → list_any (overlaps g) xs ≡ false → AllPairs EndsBelow xs → AllPairs EndsBelow (with_region g xs)
unfolding put
EndsBelow-with_region g [] one all none apart = AllPairs-cons EndsBelow g [] (All-nil (EndsBelow g)) apart
EndsBelow-with_region g (h ∷ xs) one all none apart =
    let first : IsSoundRegion h = All-head IsSoundRegion h xs all in
    let none' = or_parts (overlaps g h) (list_any (overlaps g) xs) none in
    let later = EndsBelow-with_region g xs one (All-tail IsSoundRegion h xs all) none'.1 (AllPairs-tail EndsBelow h xs apart) in
    put_apart (starts_above g h) g h xs refl one first (apart_cases g h none'.0) apart later

-- The regions of a copied space.

AllPairs-map : (R : Region → Region → Type 0) (f : Region → Region) (xs : List Region) → AllPairs (λ x y. R (f x) (f y)) xs → AllPairs R (map f xs)
AllPairs-map R f xs all i j d l m =
    let high : j < length xs = omega (arith, length-map xs f) in
    let first = get_or-map f xs i d d (omega arith) in
    let second = get_or-map f xs j d d high in
    rw (first, second) (all i j d l high)

pub IsSoundRegion-copied : (list : List (ℕ × ℕ)) (xs : List Region) → All IsSoundRegion xs → All IsSoundRegion (map (copied_region list) xs)
IsSoundRegion-copied list xs all =
    All-map IsSoundRegion (copied_region list) xs
    (All-weaker IsSoundRegion (λ g. IsSoundRegion (copied_region list g)) (λ g h. record { aligned = h.aligned; some = h.some; top = h.top }) xs all)

pub EndsBelow-copied : (list : List (ℕ × ℕ)) (xs : List Region) → AllPairs EndsBelow xs → AllPairs EndsBelow (map (copied_region list) xs)
EndsBelow-copied list xs all = AllPairs-map EndsBelow (copied_region list) xs all
