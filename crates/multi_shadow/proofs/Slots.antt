-- What lies in slots of which some are empty: the live entries, in their places and in an arena.
use Rattle.std.proofs.Common.{◌≡◌, ◌≤◌, ℕ, zero, suc, Bool, true, false, not, List, [], ◌∷◌, length, slice_get, slice_set, filter, find, count_by, cond, Option, Some, None, if◌then◌else◌, refl, sym, ap, subst, arith, ◌+◌, ◌∙◌}
use Rattle.std.specs.List.Sorted.{IsPermutation}
use Rattle.std.proofs.lemmas.List.Sorted.{IsPermutation-refl, IsPermutation-trans, IsPermutation-cons, IsPermutation-middle, IsPermutation-sym}
use Rattle.std.proofs.lemmas.Option.{none-some, same_Some}
use Rattle.std.proofs.lemmas.List.Sums.{sum_by-cons}
use Rattle.chain_arena.proofs.Counts.{lying}
use Rattle.multi_shadow.specs.Recent.{left_in}

module _ {A : Type 0} where
  swap_first : (x e : A) (xs : List A) → IsPermutation (e ∷ x ∷ xs) (x ∷ e ∷ xs)
  swap_first x e xs = IsPermutation-sym _ _ (IsPermutation-middle (x ∷ []) e xs)

  -- a place has the new entry, and what it had is in front
  pub exchange : (os : List (Option A)) (s : ℕ) (o : Option A) (e : A) → slice_get os s ≡ Some o
      → IsPermutation (e ∷ lying os) (lying (o ∷ slice_set os s (Some e)))
  exchange [] s o e was = absurd (none-some o was)
  exchange (None ∷ os) zero None e was = IsPermutation-refl (e ∷ lying os)
  exchange (None ∷ os) zero (Some y) e was = absurd (none-some y (same_Some _ _ was))
  exchange (Some x ∷ os) zero None e was = absurd (none-some x (sym (same_Some _ _ was)))
  exchange (Some x ∷ os) zero (Some y) e was =
      subst (λ z. IsPermutation (e ∷ x ∷ lying os) (z ∷ e ∷ lying os)) (same_Some _ _ (same_Some _ _ was))
      (swap_first x e (lying os))
  exchange (None ∷ os) (suc s) None e was = exchange os s None e was
  exchange (None ∷ os) (suc s) (Some y) e was = exchange os s (Some y) e was
  exchange (Some x ∷ os) (suc s) None e was =
      IsPermutation-trans _ _ _ (swap_first x e (lying os)) (IsPermutation-cons x _ _ (exchange os s None e was))
  exchange (Some x ∷ os) (suc s) (Some y) e was =
      IsPermutation-trans _ _ _ (swap_first x e (lying os)) (IsPermutation-trans _ _ _
      (IsPermutation-cons x _ _ (exchange os s (Some y) e was)) (swap_first y x (lying (slice_set os s (Some e)))))

  -- a slot that is emptied if its entry passes, before others
  pub left_first : (ends : A → Bool) (o : Option A) (now os : List (Option A))
      → lying now ≡ filter (λ x. not (ends x)) (lying os)
      → lying (left_in ends o ∷ now) ≡ filter (λ x. not (ends x)) (lying (o ∷ os))
  left_first ends None now os e = e
  left_first ends (Some x) now os e = by_test (ends x)
    where
      by_test : (b : Bool) → lying ((if b then None else Some x) ∷ now)
          ≡ (if not b then x ∷ filter (λ x. not (ends x)) (lying os) else filter (λ x. not (ends x)) (lying os))
      by_test true = e
      by_test false = ap (λ l. x ∷ l) e

  -- if each entry that passes the test left its slot, and the others stayed, the passing ones are ended
  pub ended : (ends : A → Bool) (os now : List (Option A)) → length now ≡ length os → ((s : ℕ) (o : Option A) → slice_get os s ≡ Some o → slice_get now s ≡ Some (left_in ends o)) → lying now ≡ filter (λ x. not (ends x)) (lying os)
  ended ends [] [] long each = refl
  ended ends [] (n ∷ now) long each = absurd (omega (arith, long))
  ended ends (o ∷ os) [] long each = absurd (omega (arith, long))
  ended ends (None ∷ os) (n ∷ now) long each =
      ap (λ q. lying (q ∷ now)) (same_Some _ _ (each zero None refl)) ∙ ended ends os now (omega (arith, long)) (λ s. each (suc s))
  ended ends (Some x ∷ os) (n ∷ now) long each =
      ap (λ q. lying (q ∷ now)) (same_Some _ _ (each zero (Some x) refl))
      ∙ left_first ends (Some x) now os (ended ends os now (omega (arith, long)) (λ s. each (suc s)))

  -- if no slot has an entry that passes, none is found
  pub none_found : (p : A → Bool) (os : List (Option A)) → ((s : ℕ) (x : A) → slice_get os s ≡ Some (Some x) → p x ≡ false) → find p (lying os) ≡ None
  none_found p [] none = refl
  none_found p (None ∷ os) none = none_found p os (λ s. none (suc s))
  none_found p (Some x ∷ os) none = ap (λ b. if b then Some x else find p (lying os)) (none zero x refl) ∙ none_found p os (λ s. none (suc s))

  pub count_first : (p : A → Bool) (x : A) (xs : List A) → count_by p (x ∷ xs) ≡ cond (p x) 1 0 + count_by p xs
  count_first p x xs = sum_by-cons (λ x. cond (p x) 1 0) x xs

  -- an entry that passes is counted
  counted : (p : A → Bool) (os : List (Option A)) (s : ℕ) (e : A) → slice_get os s ≡ Some (Some e) → p e ≡ true
      → 1 ≤ count_by p (lying os)
  counted p [] s e there passes = absurd (none-some (Some e) there)
  counted p (None ∷ os) zero e there passes = absurd (none-some e (same_Some _ _ there))
  counted p (None ∷ os) (suc s) e there passes = counted p os s e there passes
  counted p (Some x ∷ os) zero e there passes =
      let all = count_first p x (lying os) in
      let one : cond (p x) 1 0 ≡ 1 =
      ap {B = ℕ} (λ b. cond b 1 0) (ap p (same_Some _ _ (same_Some _ _ there)) ∙ passes) in
      omega (arith, all, one)
  counted p (Some x ∷ os) (suc s) e there passes =
      let all = count_first p x (lying os) in let more = counted p os s e there passes in omega (arith, all, more)

  -- if at most one entry passes, one that passes is found
  pub found : (p : A → Bool) (os : List (Option A)) (s : ℕ) (e : A) → slice_get os s ≡ Some (Some e) → p e ≡ true
      → count_by p (lying os) ≤ 1 → find p (lying os) ≡ Some e
  found p [] s e there passes few = absurd (none-some (Some e) there)
  found p (None ∷ os) zero e there passes few = absurd (none-some e (same_Some _ _ there))
  found p (None ∷ os) (suc s) e there passes few = found p os s e there passes few
  found p (Some x ∷ os) zero e there passes few =
      let same : x ≡ e = same_Some _ _ (same_Some _ _ there) in
      ap (λ b. cond b (Some x) (find p (lying os))) (ap p same ∙ passes) ∙ ap Some same
  found p (Some x ∷ os) (suc s) e there passes few =
      by_test (p x) (subst (λ n. n ≤ 1) (count_first p x (lying os)) few) (found p os s e there passes)
    where
      by_test : (b : Bool) → cond b 1 0 + count_by p (lying os) ≤ 1
          → (count_by p (lying os) ≤ 1 → find p (lying os) ≡ Some e)
          → cond b (Some x) (find p (lying os)) ≡ Some e
      by_test true few rest = let more = counted p os s e there passes in absurd (omega (arith, few, more))
      by_test false few rest = rest (omega (arith, few))

  -- a list that is as long has something at the same place
  at_same : (os now : List (Option A)) → length now ≡ length os → (s : ℕ) (o : Option A) → slice_get os s ≡ Some o → (q : Option A) × (slice_get now s ≡ Some q)
  at_same [] now long s o is = absurd (none-some o is)
  at_same (p ∷ os) [] long s o is = absurd (omega (arith, long))
  at_same (p ∷ os) (n ∷ now) long zero o is = (n, refl)
  at_same (p ∷ os) (n ∷ now) long (suc s) o is = at_same os now (omega (arith, long)) s o is

  module _ (ends : A → Bool) (os now : List (Option A)) (long : length now ≡ length os)
      (fewer : (s : ℕ) (x : A) → slice_get now s ≡ Some (Some x) → (slice_get os s ≡ Some (Some x)) × (ends x ≡ false))
      (stay : (s : ℕ) (x : A) → slice_get os s ≡ Some (Some x) → ends x ≡ false → slice_get now s ≡ Some (Some x)) where
    seen : (s : ℕ) (o q : Option A) → slice_get os s ≡ Some o → slice_get now s ≡ Some q → q ≡ left_in ends o
    seen s None None was is = refl
    seen s None (Some y) was is = absurd (none-some y (same_Some _ _ (sym was ∙ (fewer s y is).0)))
    seen s (Some x) None was is = by_test (ends x) refl
      where
        by_test : (b : Bool) → ends x ≡ b → None ≡ (if b then None else Some x)
        by_test true e = refl
        by_test false e = absurd (none-some x (same_Some _ _ (sym is ∙ stay s x was e)))
    seen s (Some x) (Some y) was is =
        let same : x ≡ y = same_Some _ _ (same_Some _ _ (sym was ∙ (fewer s y is).0)) in
        ap Some (sym same) ∙ ap (λ b. if b then None else Some x) (sym (ap ends same ∙ (fewer s y is).1))

    -- what a loop over a chain says of each slot that holds an entry, said of every slot
    pub each_from : (s : ℕ) (o : Option A) → slice_get os s ≡ Some o → slice_get now s ≡ Some (left_in ends o)
    each_from s o was = let h = at_same os now long s o was in h.1 ∙ ap Some (seen s o h.0 was h.1)

    pub ended_from : lying now ≡ filter (λ x. not (ends x)) (lying os)
    ended_from = ended ends os now long each_from
