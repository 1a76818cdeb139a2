-- Pages of which only the first are kept.
use Rattle.std.proofs.Common.{◌≡◌, ℕ, ◌+◌, ◌-◌, ◌<◌, ◌≤◌, List, [], ◌∷◌, ◌++◌, length, get_or, sym, ap, ◌∙◌, arith, replicate, refl}
use Rattle.std.proofs.Common.{append_assoc, max}
use Rattle.std.proofs.Math.ListN.{set, length-set}
use Rattle.std.proofs.lemmas.List.{replicate-append-replicate, length-replicate, length-append, set-append_left, get_or_append_left, get_or-append_right, get_or-replicate, set-get_or}
use Rattle.std.proofs.lemmas.Option.{slice_get_read, get_or_from_slice_get}
use Rattle.cloak_base.specs.Pages.{zero_page}
use Rattle.plain_pages.specs.Places.{pages_to}

pub length_all : (kept : List (List ℕ)) (count : ℕ) → length kept ≤ count → length (pages_to kept count) ≡ count
length_all kept count h =
    omega (arith, length-append kept (replicate (count - length kept) zero_page), length-replicate (count - length kept) zero_page)

length_reached : (kept : List (List ℕ)) (f : ℕ) → length (pages_to kept (f + 1)) ≡ max (f + 1) (length kept)
length_reached kept f =
    omega (arith, length-append kept (replicate (f + 1 - length kept) zero_page), length-replicate (f + 1 - length kept) zero_page)

-- more pages are kept, and all are as they were
pub all_reached : (kept : List (List ℕ)) (f count : ℕ) → f < count → length kept ≤ count →
    pages_to (pages_to kept (f + 1)) count ≡ pages_to kept count
all_reached kept f count h few =
    let a = f + 1 - length kept in
    let b = count - length (pages_to kept (f + 1)) in
    let sum : a + b ≡ count - length kept = omega (arith, length_reached kept f) in
    append_assoc kept (replicate a zero_page) (replicate b zero_page)
    ∙ ap (λ l. kept ++ l) (replicate-append-replicate a b zero_page ∙ ap (λ n. replicate n zero_page) sum)

-- a page more is kept
pub one_more : (kept pages more : List (List ℕ)) → pages ≡ pages_to kept (length pages) → length kept ≤ length pages →
    more ≡ pages ++ zero_page ∷ [] → more ≡ pages_to kept (length more)
one_more kept pages more is low e =
    let n = length pages - length kept in
    let len : length more ≡ length pages + 1 = omega (arith, ap length e, length-append pages (zero_page ∷ [])) in
    let sum : n + 1 ≡ length more - length kept = omega arith in
    e ∙ ap (λ l. l ++ zero_page ∷ []) is ∙ append_assoc kept (replicate n zero_page) (zero_page ∷ [])
    ∙ ap (λ l. kept ++ l) (replicate-append-replicate n 1 zero_page ∙ ap (λ k. replicate k zero_page) sum)

-- a page that is kept is stored
pub with_kept : (kept : List (List ℕ)) (count f : ℕ) (w : List ℕ) → f < length kept →
    pages_to (set kept f w) count ≡ set (pages_to kept count) f w
with_kept kept count f w h =
    ap (λ n. set kept f w ++ replicate (count - n) zero_page) (length-set kept f w)
    ∙ sym (set-append_left kept (replicate (count - length kept) zero_page) f w h)

-- a page is stored
pub stored : (kept reached all : List (List ℕ)) (count f : ℕ) (w : List ℕ) → all ≡ pages_to kept count →
    reached ≡ pages_to kept (f + 1) → f < count → length kept ≤ count → pages_to (set reached f w) count ≡ set all f w
stored kept reached all count f w is e there few =
    let inside : f < length reached = omega (arith, ap length e, length_reached kept f) in
    let same : pages_to reached count ≡ all =
    ap (λ l. pages_to l count) e ∙ all_reached kept f count there few ∙ sym is in
    with_kept reached count f w inside ∙ ap (λ l. set l f w) same

-- what stands in a page that is kept
pub read_kept : (kept all : List (List ℕ)) (count f : ℕ) (page : List ℕ) → all ≡ pages_to kept count → f < length kept →
    page ≡ get_or kept f page → get_or all f [] ≡ page
read_kept kept all count f page is inside there =
    ap (λ l. get_or l f []) is ∙ get_or_append_left kept (replicate (count - length kept) zero_page) [] f inside
    ∙ get_or_from_slice_get kept f page [] (slice_get_read kept (length kept) f page refl inside there)

-- what stands in a page that is reached
pub read_reached : (kept reached all : List (List ℕ)) (count f : ℕ) (page : List ℕ) → all ≡ pages_to kept count →
    reached ≡ pages_to kept (f + 1) → f < count → length kept ≤ count → page ≡ get_or reached f page → get_or all f [] ≡ page
read_reached kept reached all count f page is e there few page_is =
    let inside : f < length reached = omega (arith, ap length e, length_reached kept f) in
    let same : all ≡ pages_to reached count =
    is ∙ sym (ap (λ l. pages_to l count) e ∙ all_reached kept f count there few) in
    read_kept reached all count f page same inside page_is

-- what stands in a page that is kept before another is reached
pub reached_read : (kept reached all : List (List ℕ)) (count f k : ℕ) (page : List ℕ) → all ≡ pages_to kept count →
    reached ≡ pages_to kept (f + 1) → f < count → length kept ≤ count → k < length kept → page ≡ get_or reached k page → get_or all k [] ≡ page
reached_read kept reached all count f k page is e there few inside page_is =
    let within : k < length reached = omega (arith, ap length e, length_reached kept f, inside) in
    let same : all ≡ pages_to reached count =
    is ∙ sym (ap (λ l. pages_to l count) e ∙ all_reached kept f count there few) in
    read_kept reached all count k page same within page_is

-- what stands in a page that is not kept
pub read_zeros : (kept all : List (List ℕ)) (count f : ℕ) → all ≡ pages_to kept count → f < count → length kept ≤ f →
    get_or all f [] ≡ zero_page
read_zeros kept all count f is there low =
    ap (λ l. get_or l f []) is
    ∙ get_or-append_right kept (replicate (count - length kept) zero_page) (length kept) f [] refl low
    ∙ get_or-replicate (count - length kept) (f - length kept) zero_page [] (omega arith)

-- a page that is not kept is wiped by leaving it
pub wiped : (kept all : List (List ℕ)) (count f : ℕ) → all ≡ pages_to kept count → f < count → length kept ≤ f →
    all ≡ set all f zero_page
wiped kept all count f is there low =
    sym (set-get_or all f []) ∙ ap (λ page. set all f page) (read_zeros kept all count f is there low)

-- there are as many pages as a program can have
pub all_there : (kept all : List (List ℕ)) (count : ℕ) → all ≡ pages_to kept count → length kept ≤ count → length all ≡ count
all_there kept all count is few = ap length is ∙ length_all kept count few
