-- Entries of which no two are of one regime, page and kind, as entries come and go.
use Rattle.std.proofs.Common.{◌≡◌, ◌≤◌, ◌+◌, Bool, true, false, ◌||◌, cond, List, [], ◌∷◌, ◌++◌, filter, count_by, if◌then◌else◌, refl, sym, subst, arith, ◌∙◌}
use Rattle.std.specs.List.{list_any}
use Rattle.std.specs.List.Sorted.{IsPermutation}
use Rattle.std.proofs.lemmas.Bool.{true≢false}
use Rattle.std.proofs.lemmas.List.Sorted.{sum_by-IsPermutation}
use Rattle.std.proofs.lemmas.List.Sums.{sum_by-append}
use Rattle.shadow_fold.specs.declared.entry.Entry.{Entry}
use Rattle.shadow_fold.specs.Entries.{is_for}
use Rattle.shadow_fold.proofs.Keys.{is_for-key}
use Rattle.multi_shadow.specs.Placed.{AreApart}
use Rattle.multi_shadow.proofs.Slots.{count_first}

abbrev Test : Type 0
Test = Entry → Bool

-- without those in front
pub behind_apart : (xs ys : List Entry) → AreApart (xs ++ ys) → AreApart ys
behind_apart xs ys apart regime page kind =
    let few = apart regime page kind in
    let all = sum_by-append (λ (e : Entry). cond (is_for regime page kind e) 1 0) xs ys in
    omega (arith, few, all)

fewer_counted : (p q : Test) (es : List Entry) → count_by p (filter q es) ≤ count_by p es
fewer_counted p q [] = omega arith
fewer_counted p q (e ∷ es) = by_test (q e) (fewer_counted p q es)
  where
    by_test : (b : Bool) → count_by p (filter q es) ≤ count_by p es
        → count_by p (if b then e ∷ filter q es else filter q es) ≤ count_by p (e ∷ es)
    by_test true rest =
        let less = count_first p e (filter q es) in let all = count_first p e es in omega (arith, rest, less, all)
    by_test false rest = let all = count_first p e es in omega (arith, rest, all)

-- entries end
pub fewer_apart : (q : Test) (es : List Entry) → AreApart es → AreApart (filter q es)
fewer_apart q es apart regime page kind =
    let few = apart regime page kind in let less = fewer_counted (is_for regime page kind) q es in omega (arith, few, less)

none_counted : (p : Test) (es : List Entry) → list_any p es ≡ false → count_by p es ≡ 0
none_counted p [] none = refl
none_counted p (e ∷ es) none = count_first p e es ∙ by_test (p e) none (none_counted p es)
  where
    by_test : (b : Bool) → (b || list_any p es) ≡ false → (list_any p es ≡ false → count_by p es ≡ 0)
        → cond b 1 0 + count_by p es ≡ 0
    by_test true none rest = absurd (true≢false none)
    by_test false none rest = let zero = rest none in omega (arith, zero)

-- an entry comes that was not known
pub more_apart : (e : Entry) (es : List Entry) → list_any (is_for e.regime e.page e.kind) es ≡ false → AreApart es
    → AreApart (e ∷ es)
more_apart e es none apart regime page kind =
    subst (λ n. n ≤ 1) (sym (count_first (is_for regime page kind) e es)) (by_test (is_for regime page kind e) refl)
  where
    by_test : (b : Bool) → is_for regime page kind e ≡ b → cond b 1 0 + count_by (is_for regime page kind) es ≤ 1
    by_test true is =
        let key = is_for-key regime page kind e is in
        let other = none_counted (is_for regime page kind) es
        (sym (λ i. list_any (is_for (key.0 i) (key.1 i) (key.2 i)) es) ∙ none) in
        omega (arith, other)
    by_test false is = let few = apart regime page kind in omega (arith, few)

-- the order is no matter
pub same_apart : (xs ys : List Entry) → IsPermutation xs ys → AreApart xs → AreApart ys
same_apart xs ys same apart regime page kind =
    let few = apart regime page kind in
    let all = sum_by-IsPermutation (λ (e : Entry). cond (is_for regime page kind e) 1 0) xs ys same in
    omega (arith, few, all)
