-- Frames in slots: what a store in one changes, and what a slot that is taken changes.
use Rattle.std.proofs.Common.{◌≡◌, ◌≢◌, ℕ, zero, suc, ◌+◌, ◌<◌, ◌≤◌, List, [], ◌∷◌, ◌++◌, length, slice_get, get_or, Some, refl, sym, ap, ◌∙◌, arith, replicate}
use Rattle.std.proofs.Common.{option_map}
use Rattle.std.specs.List.{All}
use Rattle.std.proofs.Math.ListN.{set}
use Rattle.std.proofs.Math.Seq.{map-set_same, get_or-append_seam}
use Rattle.std.proofs.lemmas.List.{length-append, length-replicate, length-set, get_or-set_same, get_or-set_other, get_or_append_left}
use Rattle.std.proofs.lemmas.List.Elements.{All-get_or, All-set}
use Rattle.std.proofs.lemmas.Option.{slice_get-map, slice_get_read, slice_get_within, slice_get-get_or, get_or_from_slice_get}
use Rattle.cloak_base.specs.Pages.{zero_page}
use Rattle.frame_store.specs.Frames.{AreApart, AreSlots, in_slots, unstored}

-- of the first element, and of those after it
first_of : {X : Type 0} (P : X → Type 0) (x : X) (xs : List X) → All P (x ∷ xs) → P x
first_of P x xs h = h 0 x (omega arith)

rest_of : {X : Type 0} (P : X → Type 0) (x : X) (xs : List X) → All P (x ∷ xs) → All P xs
rest_of P x xs h = λ k d inside. h (suc k) d (omega arith)

All_cons : {X : Type 0} (P : X → Type 0) (x : X) (xs : List X) → P x → All P xs → All P (x ∷ xs)
All_cons P x xs first rest zero d inside = first
All_cons P x xs first rest (suc k) d inside = rest k d (omega arith)

-- a store in another slot changes none of these frames
others_stay : (kept : List (List ℕ)) (slots : List ℕ) (s : ℕ) (w : List ℕ) → All (λ t. t ≢ s) slots →
    in_slots (set kept s w) slots ≡ in_slots kept slots
others_stay kept [] s w h = refl
others_stay kept (t ∷ slots) s w h =
    ap (λ x. x ∷ in_slots (set kept s w) slots) (get_or-set_other kept s t w zero_page (first_of (λ u. u ≢ s) t slots h))
    ∙ ap (λ l. get_or kept t zero_page ∷ l) (others_stay kept slots s w (rest_of (λ u. u ≢ s) t slots h))

-- a store in the slot of a frame
stored_at : (kept : List (List ℕ)) (slots : List ℕ) (f : ℕ) (w : List ℕ) → f < length slots → get_or slots f 0 ≢ 0 →
    get_or slots f 0 < length kept → AreApart slots →
    in_slots (set kept (get_or slots f 0) w) slots ≡ set (in_slots kept slots) f w
unfolding AreApart
stored_at kept [] f w h own there apart = absurd (omega arith)
stored_at kept (zero ∷ slots) zero w h own there apart = absurd (own refl)
stored_at kept (suc t ∷ slots) zero w h own there apart =
    ap (λ x. x ∷ in_slots (set kept (suc t) w) slots) (get_or-set_same kept (suc t) w zero_page there)
    ∙ ap (λ l. w ∷ l) (others_stay kept slots (suc t) w apart.0)
stored_at kept (zero ∷ slots) (suc f) w h own there apart =
    let s = get_or slots f 0 in
    ap (λ x. x ∷ in_slots (set kept s w) slots) (get_or-set_other kept s 0 w zero_page (λ e. own (sym e)))
    ∙ ap (λ l. get_or kept 0 zero_page ∷ l) (stored_at kept slots f w (omega arith) own there apart)
stored_at kept (suc t ∷ slots) (suc f) w h own there apart =
    let s = get_or slots f 0 in
    let inside : f < length slots = omega arith in
    let other : s ≢ suc t = All-get_or (λ u. u ≢ suc t) slots f 0 inside apart.0 in
    ap (λ x. x ∷ in_slots (set kept s w) slots) (get_or-set_other kept s (suc t) w zero_page (λ e. other (sym e)))
    ∙ ap (λ l. get_or kept (suc t) zero_page ∷ l) (stored_at kept slots f w inside own there apart.1)

unstored_set : (slots : List ℕ) (f v : ℕ) → f < length slots → get_or slots f 0 ≡ 0 →
    unstored (set slots f (suc v)) + 1 ≡ unstored slots
unfolding unstored
unstored_set [] f v h none = absurd (omega arith)
unstored_set (zero ∷ slots) zero v h none =
    let now : unstored (set (zero ∷ slots) zero (suc v)) ≡ unstored slots = refl in
    let then : unstored (zero ∷ slots) ≡ suc (unstored slots) = refl in
    omega (arith, now, then)
unstored_set (suc t ∷ slots) zero v h none = absurd (omega (arith, none))
unstored_set (zero ∷ slots) (suc f) v h none =
    let now : unstored (set (zero ∷ slots) (suc f) (suc v)) ≡ suc (unstored (set slots f (suc v))) = refl in
    let then : unstored (zero ∷ slots) ≡ suc (unstored slots) = refl in
    omega (arith, now, then, unstored_set slots f v (omega arith) none)
unstored_set (suc t ∷ slots) (suc f) v h none = unstored_set slots f v (omega arith) none

below_differs : (slots : List ℕ) (v : ℕ) → All (λ t. t < v) slots → All (λ t. t ≢ v) slots
below_differs slots v h = λ k d inside e. omega (arith, e, h k d inside)

below_weaker : (slots : List ℕ) (v : ℕ) → All (λ t. t < v) slots → All (λ t. t < v + 1) slots
below_weaker slots v h = λ k d inside. omega (arith, h k d inside)

apart_set : (slots : List ℕ) (f v : ℕ) → AreApart slots → All (λ t. t < suc v) slots → AreApart (set slots f (suc v))
unfolding AreApart
apart_set [] f v apart low = tt
apart_set (zero ∷ slots) zero v apart low = (below_differs slots (suc v) (rest_of (λ t. t < suc v) 0 slots low), apart)
apart_set (suc t ∷ slots) zero v apart low =
    (below_differs slots (suc v) (rest_of (λ u. u < suc v) (suc t) slots low), apart.1)
apart_set (zero ∷ slots) (suc f) v apart low = apart_set slots f v apart (rest_of (λ t. t < suc v) 0 slots low)
apart_set (suc t ∷ slots) (suc f) v apart low =
    let below = first_of (λ u. u < suc v) (suc t) slots low in (
      All-set (λ u. u ≢ suc t) slots f (suc v) (λ e. omega (arith, e, below)) apart.0,
      apart_set slots f v apart.1 (rest_of (λ u. u < suc v) (suc t) slots low),
    )

more_stay : (kept : List (List ℕ)) (slots : List ℕ) → All (λ s. s < length kept) slots →
    in_slots (kept ++ zero_page ∷ []) slots ≡ in_slots kept slots
more_stay kept [] h = refl
more_stay kept (t ∷ slots) h =
    ap (λ x. x ∷ in_slots (kept ++ zero_page ∷ []) slots) (get_or_append_left kept (zero_page ∷ []) zero_page t (first_of (λ s. s < length kept) t slots h))
    ∙ ap (λ l. get_or kept t zero_page ∷ l) (more_stay kept slots (rest_of (λ s. s < length kept) t slots h))

-- a frame in which nothing was stored takes the next slot
pub taken : (kept : List (List ℕ)) (slots : List ℕ) (room f : ℕ) → AreSlots kept slots room → f < length slots →
    get_or slots f 0 ≡ 0 → AreSlots (kept ++ zero_page ∷ []) (set slots f (length kept)) room
taken [] slots room f h inside none = absurd (omega (arith, none, All-get_or (λ s. s < 0) slots f 0 inside h.there))
taken (first ∷ kept) slots room f h inside none =
    let all = first ∷ kept in
    let n = length all in
    let more : length (all ++ zero_page ∷ []) ≡ n + 1 = length-append all (zero_page ∷ []) in
    let low : All (λ s. s < n + 1) (set slots f n) =
    All-set (λ s. s < n + 1) slots f n (omega arith) (below_weaker slots n h.there) in record {
      zeros = h.zeros;
      there = rw more low;
      apart = apart_set slots f (length kept) h.apart h.there;
      many = omega (arith, more, length-set slots f n, h.many, unstored_set slots f (length kept) inside none);
      few = omega (arith, length-set slots f n, h.few);
      enough = omega (arith, length-set slots f n, h.enough);
    }

-- no frame changes by that
pub taken_same : (kept : List (List ℕ)) (slots : List ℕ) (room f : ℕ) → AreSlots kept slots room → f < length slots →
    get_or slots f 0 ≡ 0 → in_slots (kept ++ zero_page ∷ []) (set slots f (length kept)) ≡ in_slots kept slots
taken_same kept slots room f h inside none =
    let all = kept ++ zero_page ∷ [] in
    let some : get_or slots f 0 < length kept = All-get_or (λ s. s < length kept) slots f 0 inside h.there in
    let first : get_or all 0 zero_page ≡ zero_page =
    get_or_append_left kept (zero_page ∷ []) zero_page 0 (omega (arith, none, some)) ∙ h.zeros in
    let last : get_or all (length kept) zero_page ≡ zero_page = get_or-append_seam kept zero_page [] zero_page in
    map-set_same (λ s. get_or all s zero_page) slots f (length kept) 0
    (last ∙ sym (ap (λ s. get_or all s zero_page) none ∙ first))
    ∙ more_stay kept slots h.there

-- the same, of lists that are equal to those
pub taken_so : (kept more : List (List ℕ)) (slots : List ℕ) (room wide f n : ℕ) → AreSlots kept slots room →
    slice_get slots f ≡ Some 0 → more ≡ kept ++ zero_page ∷ [] → n ≡ length kept → wide ≡ room →
    AreSlots more (set slots f n) wide × (in_slots more (set slots f n) ≡ in_slots kept slots)
taken_so kept more slots room wide f n h is pushed last same =
    let none = get_or_from_slice_get slots f 0 0 is in
    let inside = slice_get_within slots f 0 is in
    rw pushed (rw last (rw same (taken kept slots room f h inside none, taken_same kept slots room f h inside none)))

-- the slots are the same after a store
pub still : (kept : List (List ℕ)) (slots : List ℕ) (room s : ℕ) (w : List ℕ) → AreSlots kept slots room → s ≢ 0 →
    AreSlots (set kept s w) slots room
still kept slots room s w h own =
    let len : length (set kept s w) ≡ length kept = length-set kept s w in record {
      zeros = get_or-set_other kept s 0 w zero_page (λ e. own (sym e)) ∙ h.zeros;
      there = rw len h.there;
      apart = h.apart;
      many = omega (arith, len, h.many);
      few = h.few;
      enough = h.enough;
    }

-- where the slot of a frame is
pub slot_there : (kept : List (List ℕ)) (slots : List ℕ) (room f s : ℕ) → AreSlots kept slots room →
    slice_get slots f ≡ Some s → s < length kept
slot_there kept slots room f s h is =
    let inside : f < length slots = slice_get_within slots f s is in
    let there : get_or slots f 0 < length kept = All-get_or (λ t. t < length kept) slots f 0 inside h.there in
    omega (arith, there, get_or_from_slice_get slots f s 0 is)

-- there is room for a slot more
pub room_left : (kept : List (List ℕ)) (slots : List ℕ) (room f : ℕ) → AreSlots kept slots room →
    slice_get slots f ≡ Some 0 → (length kept < room) × (length kept ≤ 4096)
room_left kept slots room f h is =
    let inside : f < length slots = slice_get_within slots f 0 is in
    let fewer = unstored_set slots f 0 inside (get_or_from_slice_get slots f 0 0 is) in
    (omega (arith, fewer, h.many, h.enough), omega (arith, fewer, h.many, h.few))

-- the slot that a frame took
pub slot_taken : (slots : List ℕ) (f n : ℕ) → f < length slots → slice_get (set slots f n) f ≡ Some n
slot_taken slots f n h =
    slice_get-get_or (set slots f n) f n (omega (arith, length-set slots f n, h))
    ∙ ap (λ x. Some x) (get_or-set_same slots f n n h)

-- a store in a frame
pub stored : (kept : List (List ℕ)) (slots : List ℕ) (all : List (List ℕ)) (room f s : ℕ) (w : List ℕ) →
    AreSlots kept slots room → in_slots kept slots ≡ all → slice_get slots f ≡ Some s → s ≢ 0 →
    in_slots (set kept s w) slots ≡ set all f w
stored kept slots all room f s w h same is own =
    let inside : f < length slots = slice_get_within slots f s is in
    let at : get_or slots f 0 ≡ s = get_or_from_slice_get slots f s 0 is in
    let there : get_or slots f 0 < length kept = All-get_or (λ t. t < length kept) slots f 0 inside h.there in
    ap (λ t. in_slots (set kept t w) slots) (sym at)
    ∙ stored_at kept slots f w inside (λ e. own (sym at ∙ e)) there h.apart
    ∙ ap (λ l. set l f w) same

-- what stands in a frame
pub shown_at : (kept : List (List ℕ)) (slots : List ℕ) (all : List (List ℕ)) (room f s : ℕ) (page : List ℕ) →
    AreSlots kept slots room → in_slots kept slots ≡ all → slice_get slots f ≡ Some s → page ≡ get_or kept s page →
    slice_get all f ≡ Some page
shown_at kept slots all room f s page h same is there =
    let found : get_or kept s zero_page ≡ page =
    get_or_from_slice_get kept s page zero_page
    (slice_get_read kept (length kept) s page refl (slot_there kept slots room f s h is) there) in
    ap (λ l. slice_get l f) (sym same) ∙ slice_get-map (λ t. get_or kept t zero_page) slots f
    ∙ ap (λ o. option_map (λ t. get_or kept t zero_page) o) is
    ∙ ap (λ x. Some x) found

none_stored : (n : ℕ) → AreApart (replicate n 0)
unfolding AreApart
none_stored zero = tt
none_stored (suc n) = none_stored n

all_unstored : (n : ℕ) → unstored (replicate n 0) ≡ n
unfolding unstored
all_unstored zero = refl
all_unstored (suc n) = ap (λ k. suc k) (all_unstored n)

none_above : (n : ℕ) → All (λ s. s < 1) (replicate n 0)
none_above zero = λ k d inside. absurd (omega arith)
none_above (suc n) = All_cons (λ s. s < 1) 0 (replicate n 0) (omega arith) (none_above n)

-- nothing is stored yet
all_zeros : (n : ℕ) → in_slots (zero_page ∷ []) (replicate n 0) ≡ replicate n zero_page
all_zeros zero = refl
all_zeros (suc n) = ap (λ l. zero_page ∷ l) (all_zeros n)

first_slots : (n room : ℕ) → n ≤ 4096 → n + 1 ≤ room → AreSlots (zero_page ∷ []) (replicate n 0) room
first_slots n room few enough =
    let len : length {A = ℕ} (replicate n 0) ≡ n = length-replicate n 0 in record {
      zeros = refl;
      there = none_above n;
      apart = none_stored n;
      many = omega (arith, len, all_unstored n);
      few = omega (arith, len);
      enough = omega (arith, len);
    }

-- the same, of lists that are equal to those
pub begun : (kept : List (List ℕ)) (slots : List ℕ) (n room : ℕ) → n ≤ 4096 → n + 1 ≤ room → kept ≡ zero_page ∷ [] →
    slots ≡ replicate n 0 → AreSlots kept slots room × (in_slots kept slots ≡ replicate n zero_page)
begun kept slots n room few enough first none = rw first (rw none (first_slots n room few enough, all_zeros n))
