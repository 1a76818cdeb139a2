-- The pages of a file, of which the first ones were read.
use Rattle.std.proofs.Common.{◌≡◌, ◌∙◌, ℕ, zero, suc, ◌<◌, List, [], ◌∷◌, ◌++◌, length, sum_by, ◌+◌, replicate, Option, None, refl, sym, ap, arith}
use Rattle.std.specs.Prelude.{slice_set}
use Rattle.std.proofs.lemmas.List.{length-replicate, length_push, get_or_push, set_at}
use Rattle.cloak_base.specs.declared.names.Meta.{Meta}
use Rattle.std.proofs.lemmas.List.Sums.{sum_by_push}
use Rattle.cloak_model.specs.Fields.{after_parts, number}
use Rattle.cloak_model.specs.StoredFiles.{StoredFile, page_count}
use Rattle.protect_meta.specs.FileTable.{file_at, with_meta}
use Rattle.cloak_model.specs.StoreFault.{after_page}
use Rattle.sealed_store.specs.Reading.{page_in, pages_in, file_in}

-- n pages: the first i of them as they stand, of all others nothing is known
abbrev pub row : List ℕ → ℕ → ℕ → ℕ → List (Option Meta)
row body n zero at = replicate n None
row body zero (suc i) at = []
row body (suc n) (suc i) at = page_in body at ∷ row body n i (after_page body at)

pub row_more : (body : List ℕ) (n i at : ℕ) → i < n →
    slice_set (row body n i at) i (page_in body (after_parts (after_page body) i at)) ≡ row body n (suc i) at
unfolding after_parts
row_more body zero i at low = absurd (omega arith)
row_more body (suc n) zero at low = refl
row_more body (suc n) (suc i) at low = ap (λ (l : List (Option Meta)). page_in body at ∷ l)
    (row_more body n i (after_page body at) (omega arith))

pub row_end : (body : List ℕ) (n at : ℕ) → row body n n at ≡ pages_in body n at
unfolding pages_in
row_end body zero at = refl
row_end body (suc n) at = ap (λ (l : List (Option Meta)). page_in body at ∷ l) (row_end body n (after_page body at))

pub row_length : (body : List ℕ) (n i at : ℕ) → length (row body n i at) ≡ n
row_length body n zero at = length-replicate n None
row_length body zero (suc i) at = refl
row_length body (suc n) (suc i) at = ap suc (row_length body n i (after_page body at))

-- the offset after one more part
pub after_more : (after : ℕ → ℕ) (i at : ℕ) → after_parts after (suc i) at ≡ after (after_parts after i at)
unfolding after_parts
after_more after zero at = refl
after_more after (suc i) at = after_more after i (after at)

-- Tables with a file at their end.

pub last_there : (t old : List StoredFile) (f : StoredFile) (n : ℕ) → t ≡ old ++ f ∷ [] → n ≡ length old → n < length t
last_there t old f n is place = omega (arith, ap length is, length_push old f)

pub last_is : (t old : List StoredFile) (f : StoredFile) (n : ℕ) → t ≡ old ++ f ∷ [] → n ≡ length old → file_at t n ≡ f
last_is t old f n is place = rw is (get_or_push old f (record { domain = 0; number = 0; pages = [] }) n (sym place))

pub last_set : (t old : List StoredFile) (f : StoredFile) (n i : ℕ) (m : Option Meta) → t ≡ old ++ f ∷ [] →
    n ≡ length old → with_meta n i m t ≡ old ++ record f { pages = slice_set f.pages i m } ∷ []
last_set t old f n i m is place =
    let there = last_is t old f n is place in
    ap (λ (g : StoredFile). slice_set t n (record g { pages = slice_set g.pages i m })) there
    ∙ rw is (set_at old f [] (record f { pages = slice_set f.pages i m }) n (sym place))

pub pages_in-length : (body : List ℕ) (n at : ℕ) → length (pages_in body n at) ≡ n
unfolding pages_in
pages_in-length body zero at = refl
pages_in-length body (suc n) at = ap suc (pages_in-length body n (after_page body at))

pub pages_more : (body : List ℕ) (t : List StoredFile) (at : ℕ) →
    sum_by page_count (t ++ file_in body at ∷ []) ≡ sum_by page_count t + number body (at + 8)
pages_more body t at = sum_by_push page_count t (file_in body at)
    ∙ ap (λ (k : ℕ). sum_by page_count t + k) (pages_in-length body (number body (at + 8)) (at + 12))
