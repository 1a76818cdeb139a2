-- The places at which a test passes.
use Rattle.std.proofs.Common.{◌≡◌, ℕ, zero, suc, ◌+◌, ◌<◌, Bool, true, false, cond, List, [], ◌∷◌, ◌++◌, length, get_or, take, map, if◌then◌else◌, refl, ap, sym, ◌∙◌, subst, arith, add-zero}
use Rattle.std.specs.Prelude.{All, AllPairs, filter, nat_eq, sum_by}
use Rattle.std.specs.List.{list_any}
use Rattle.std.proofs.lemmas.Bool.{eq-eqb, or_left, or_right}
use Rattle.std.proofs.lemmas.List.{take_more, length-take-le}
use Rattle.std.proofs.lemmas.List.Elements.{All-nil, All-cons}
use Rattle.std.proofs.lemmas.List.Kept.{AllPairs-cons}
use Rattle.std.proofs.lemmas.List.Sums.{sum_by-cons}
use Rattle.cloak_model.specs.Fork.{places}

-- the places from one element on
step : Bool → ℕ → List ℕ → List ℕ
step t n later = if t then n ∷ later else later

step-append : (t : Bool) (n : ℕ) (xs ys : List ℕ) → step t n (xs ++ ys) ≡ step t n xs ++ ys
unfolding step
step-append true n xs ys = refl
step-append false n xs ys = refl

All-step : (t : Bool) (P : ℕ → Type 0) (n : ℕ) (later : List ℕ) → (t ≡ true → P n) → All P later → All P (step t n later)
unfolding step
All-step true P n later first all = All-cons P n later (first refl) all
All-step false P n later first all = all

rises-step : (t : Bool) (n : ℕ) (later : List ℕ) → All (λ m. n < m) later → AllPairs (λ a b. a < b) later → AllPairs (λ a b. a < b) (step t n later)
unfolding step
rises-step true n later above rise = AllPairs-cons (λ a b. a < b) n later above rise
rises-step false n later above rise = rise

sum-step : {A : Type 0} (t : Bool) (f : A → ℕ) (g : ℕ → ℕ) (n : ℕ) (x : A) (later : List ℕ) (xs : List A) → g n ≡ f x → sum_by g later ≡ sum_by f xs → sum_by g (step t n later) ≡ sum_by f (cond t (x ∷ xs) xs)
unfolding step
sum-step true f g n x later xs first rest =
    let a = sum_by-cons g n later in
    let b = sum_by-cons f x xs in
    omega arith
sum-step false f g n x later xs first rest = rest

any-step : (t : Bool) (n k : ℕ) (later : List ℕ) → list_any (λ m. nat_eq m k) later ≡ true → list_any (λ m. nat_eq m k) (step t n later) ≡ true
unfolding step
any-step true n k later pass = or_right (nat_eq n k) (list_any (λ m. nat_eq m k) later) pass
any-step false n k later pass = pass

module _ {A : Type 0} (test : A → Bool) where
  -- one more element
  pub places-push : (n : ℕ) (xs : List A) (x : A) → places test n (xs ++ x ∷ []) ≡ places test n xs ++ (if test x then (n + length xs) ∷ [] else [])
  unfolding step
  places-push n [] x = ap (λ (k : ℕ). if test x then k ∷ [] else []) (sym (add-zero n))
  places-push n (y ∷ xs) x =
      let later = places-push (n + 1) xs x in
      let at : (n + 1) + length xs ≡ n + length (y ∷ xs) = omega arith in
      ap (step (test y) n) (later ∙ ap (λ (k : ℕ). places test (n + 1) xs ++ (if test x then k ∷ [] else [])) at)
      ∙ step-append (test y) n (places test (n + 1) xs) (if test x then (n + length (y ∷ xs)) ∷ [] else [])

  pub places-more : (xs : List A) (i : ℕ) (d : A) → i < length xs → places test 0 (take (i + 1) xs) ≡ places test 0 (take i xs) ++ (if test (get_or xs i d) then i ∷ [] else [])
  places-more xs i d lt =
      let long : length (take i xs) ≡ i = length-take-le i xs (omega arith) in
      ap (places test 0) (take_more xs i d lt) ∙ (places-push 0 (take i xs) (get_or xs i d) ∙ ap (λ (k : ℕ). places test 0 (take i xs) ++ (if test (get_or xs i d) then k ∷ [] else [])) (omega arith))

-- of tests that were made before
pub places-map : {A : Type 0} (test : A → Bool) (n : ℕ) (xs : List A) → places (λ (mark : Bool). mark) n (map test xs) ≡ places test n xs
unfolding step
places-map test n [] = refl
places-map test n (x ∷ xs) = ap (step (test x) n) (places-map test (n + 1) xs)

module _ {A : Type 0} (test : A → Bool) where
  -- what holds of each place at which the test passes
  pub All-places : (P : ℕ → Type 0) (d : A) (n : ℕ) (xs : List A) → ((i : ℕ) → i < length xs → test (get_or xs i d) ≡ true → P (n + i)) → All P (places test n xs)
  unfolding step
  All-places P d n [] each = All-nil P
  All-places P d n (x ∷ xs) each =
      let later : All P (places test (n + 1) xs) = All-places P d (n + 1) xs (λ i lt pass. let there : P (n + suc i) = each (suc i) (omega arith) pass in subst P (omega arith) there) in
      let first : test x ≡ true → P n = λ pass. subst P (add-zero n) (each 0 (omega arith) pass) in
      All-step (test x) P n (places test (n + 1) xs) first later

  -- they rise
  pub places_rise : (n : ℕ) (xs : List A) → AllPairs (λ a b. a < b) (places test n xs)
  unfolding step
  places_rise n [] = λ i j d l m. absurd (omega arith)
  places_rise n (x ∷ xs) =
      let above : All (λ m. n < m) (places test (n + 1) xs) = All-places (λ m. n < m) x (n + 1) xs (λ i lt pass. omega arith) in
      rises-step (test x) n (places test (n + 1) xs) above (places_rise (n + 1) xs)

  -- a sum over them
  pub sum_by-places : (f : A → ℕ) (g : ℕ → ℕ) (d : A) (n : ℕ) (xs : List A) → ((i : ℕ) → i < length xs → g (n + i) ≡ f (get_or xs i d)) → sum_by g (places test n xs) ≡ sum_by f (filter test xs)
  unfolding step
  sum_by-places f g d n [] each = refl
  sum_by-places f g d n (x ∷ xs) each =
      let later : sum_by g (places test (n + 1) xs) ≡ sum_by f (filter test xs) = sum_by-places f g d (n + 1) xs (λ i lt. let there : g (n + suc i) ≡ f (get_or xs i d) = each (suc i) (omega arith) in ap g (omega arith) ∙ there) in
      let first : g n ≡ f x = ap g (sym (add-zero n)) ∙ each 0 (omega arith) in
      sum-step (test x) f g n x (places test (n + 1) xs) (filter test xs) first later

  -- each place at which it passes is among them
  pub any-places : (d : A) (n i : ℕ) (xs : List A) → i < length xs → test (get_or xs i d) ≡ true → list_any (λ m. nat_eq m (n + i)) (places test n xs) ≡ true
  unfolding step
  any-places d n i [] lt pass = absurd (omega arith)
  any-places d n zero (x ∷ xs) lt pass =
      subst (λ (t : Bool). list_any (λ m. nat_eq m (n + 0)) (step t n (places test (n + 1) xs)) ≡ true) (sym pass)
      (or_left (nat_eq n (n + 0)) (list_any (λ m. nat_eq m (n + 0)) (places test (n + 1) xs)) (eq-eqb n (n + 0) (omega arith)))
  any-places d n (suc i) (x ∷ xs) lt pass =
      let later : list_any (λ m. nat_eq m ((n + 1) + i)) (places test (n + 1) xs) ≡ true = any-places d (n + 1) i xs (omega arith) pass in
      let same : (n + 1) + i ≡ n + suc i = omega arith in
      any-step (test x) n (n + suc i) (places test (n + 1) xs) (subst (λ (k : ℕ). list_any (λ m. nat_eq m k) (places test (n + 1) xs) ≡ true) same later)
