-- Reservations of contexts, when no context has one and when those of a word end.
use Rattle.std.proofs.Common.{◌≡◌, ◌+◌, ◌≤◌, ◌<◌, ◌∙◌, ℕ, zero, suc, Bool, false, List, [], ◌∷◌, Option, Some, None, refl, ap, sym, length, map, replicate, slice_index_or, slice_set, add-one, arith}
use Rattle.std.specs.Prelude.{is_some}
use Rattle.std.specs.List.{list_any}
use Rattle.cloak_model.specs.declared.context.PageWord.{PageWord}
use Rattle.cloak_model.specs.Contexts.{Context, context_at, with_context, started_contexts, is_reserved, unless_reserved}
use Rattle.thread_context.specs.Reserved.{has_mark, has_marks}
use Rattle.std.proofs.lemmas.Bool.{or_parts}

-- Tests that no element passes.

none_with : {A : Type 0} (test : A → Bool) (xs : List A) (i : ℕ) (x : A) → test x ≡ false → list_any test xs ≡ false → list_any test (slice_set xs i x) ≡ false
none_with test [] i x fails none = none
none_with test (y ∷ ys) zero x fails none = rw fails (or_parts (test y) _ none).1
none_with test (y ∷ ys) (suc i) x fails none = rw ((or_parts (test y) _ none).0) (none_with test ys i x fails ((or_parts (test y) _ none).1))

none_at : {A : Type 0} (test : A → Bool) (xs : List A) (i : ℕ) (d : A) → test d ≡ false → list_any test xs ≡ false → test (slice_index_or xs i d) ≡ false
none_at test [] i d fails none = fails
none_at test (y ∷ ys) zero d fails none = (or_parts (test y) _ none).0
none_at test (y ∷ ys) (suc i) d fails none = none_at test ys i d fails ((or_parts (test y) _ none).1)

-- Contexts of which none has a reservation.

pub none_marked : (n : ℕ) → has_marks (replicate n None) ≡ false
none_marked zero = refl
none_marked (suc n) = none_marked n

pub none_marked-with : (contexts : List (Option Context)) (slot : ℕ) (c : Option Context) → has_mark c ≡ false → has_marks contexts ≡ false → has_marks (slice_set contexts slot c) ≡ false
none_marked-with contexts slot c unmarked none = none_with has_mark contexts slot c unmarked none

-- so has none of them
pub none_marked-at : (contexts : List (Option Context)) (slot : ℕ) → has_marks contexts ≡ false → has_mark (context_at contexts slot) ≡ false
none_marked-at contexts slot none = none_at has_mark contexts slot None refl none

-- one was lent that came without one, and so it left
pub none_marked-lent : (contexts : List (Option Context)) (slot : ℕ) (c changed : Context) → context_at contexts slot ≡ Some c → (is_some c.mark ≡ false → is_some changed.mark ≡ false) → has_marks contexts ≡ false → has_marks (with_context slot changed contexts) ≡ false
none_marked-lent contexts slot c changed there kept none =
    none_with has_mark contexts slot (Some changed) (kept (ap has_mark (sym there) ∙ none_marked-at contexts slot none)) none

-- a program as it begins
pub none_marked-started : (pc sp : ℕ) → has_marks (started_contexts pc sp) ≡ false
unfolding started_contexts
none_marked-started pc sp = refl

-- A word is written that none has reserved.

not_reserved : (word : PageWord) (mark : Option PageWord) → is_some mark ≡ false → is_reserved word mark ≡ false
not_reserved word None none = refl
not_reserved word (Some mark) none = cc

same_context : (word : PageWord) (c : Option Context) → has_mark c ≡ false → unless_reserved word c ≡ c
same_context word None none = refl
same_context word (Some c) none = rw (not_reserved word c.mark none) refl

pub same_contexts : (word : PageWord) (contexts : List (Option Context)) → has_marks contexts ≡ false → map (unless_reserved word) contexts ≡ contexts
same_contexts word [] none = refl
same_contexts word (c ∷ rest) none =
    ap (λ (x : Option Context). x ∷ map (unless_reserved word) rest) (same_context word c ((or_parts (has_mark c) _ none).0))
    ∙ ap (λ (xs : List (Option Context)). c ∷ xs) (same_contexts word rest ((or_parts (has_mark c) _ none).1))

-- A list whose elements are mapped one after another.

-- the first n are mapped
abbrev pub mapped_below : {A : Type 0} → (A → A) → ℕ → List A → List A
mapped_below f zero xs = xs
mapped_below f (suc n) [] = []
mapped_below f (suc n) (x ∷ xs) = f x ∷ mapped_below f n xs

more_mapped : {A : Type 0} (f : A → A) (n : ℕ) (xs : List A) (d : A) → n < length xs → slice_set (mapped_below f n xs) n (f (slice_index_or (mapped_below f n xs) n d)) ≡ mapped_below f (suc n) xs
more_mapped f zero [] d inside = refl
more_mapped f zero (x ∷ xs) d inside = refl
more_mapped f (suc n) [] d inside = refl
more_mapped f (suc n) (x ∷ xs) d inside = ap (λ ys. f x ∷ ys) (more_mapped f n xs d (omega arith))

mapped_below-next : {A : Type 0} (f : A → A) (n : ℕ) (xs : List A) (d : A) → n < length xs → slice_set (mapped_below f n xs) n (f (slice_index_or (mapped_below f n xs) n d)) ≡ mapped_below f (n + 1) xs
mapped_below-next f n xs d inside = rw add-one (more_mapped f n xs d inside)

-- one more element was read, mapped and put back
pub mapped_below-put : {A : Type 0} (f : A → A) (n : ℕ) (xs now : List A) (d new : A) → n < length xs → now ≡ mapped_below f n xs → new ≡ f (slice_index_or now n d) → slice_set now n new ≡ mapped_below f (n + 1) xs
mapped_below-put f n xs now d new inside is made =
    ap (slice_set now n) made ∙ ap (λ ys. slice_set ys n (f (slice_index_or ys n d))) is ∙ mapped_below-next f n xs d inside

pub mapped_below-all : {A : Type 0} (f : A → A) (n : ℕ) (xs : List A) → length xs ≤ n → mapped_below f n xs ≡ map f xs
mapped_below-all f zero [] past = refl
mapped_below-all f zero (x ∷ xs) past = absurd (omega arith)
mapped_below-all f (suc n) [] past = refl
mapped_below-all f (suc n) (x ∷ xs) past = ap (λ ys. f x ∷ ys) (mapped_below-all f n xs (omega arith))

pub ruleset reserving = (none_marked, none_marked-with, none_marked-lent, none_marked-started, same_contexts)
