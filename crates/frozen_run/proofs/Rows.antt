-- Values that stand one after the other, of which the first ones were read.
use Rattle.std.proofs.Common.{◌≡◌, ◌∙◌, ℕ, zero, suc, ◌+◌, ◌-◌, ◌<◌, ◌≤◌, List, [], ◌∷◌, ◌++◌, length, take, set, refl, sym, ap, arith}
use Rattle.std.proofs.lemmas.List.{append_assoc, append-nil, take_all, take_more_set}
use Rattle.frozen_run.specs.Reading.{values, domain_in, domains_in}
use Rattle.frozen_state.specs.FrozenFault.{after_domain}

pub next_value : {A : Type 0} (value : ℕ → A) (after : ℕ → ℕ) (n i at : ℕ) → i < n →
    values value after (n - i) at ≡ value at ∷ values value after (n - (i + 1)) (after at)
unfolding values
next_value value after n i at low =
    let left : n - i ≡ suc (n - (i + 1)) = omega arith in ap (λ (k : ℕ). values value after k at) left

pub no_values : {A : Type 0} (value : ℕ → A) (after : ℕ → ℕ) (n i at : ℕ) → n - i ≡ 0 →
    values value after (n - i) at ≡ []
unfolding values
no_values value after n i at none = ap (λ (k : ℕ). values value after k at) none

pub length-values : {A : Type 0} (value : ℕ → A) (after : ℕ → ℕ) (n at : ℕ) → length (values value after n at) ≡ n
unfolding values
length-values value after zero at = refl
length-values value after (suc n) at = ap suc (length-values value after n (after at))

pub next_domain : (body : List ℕ) (n i at : ℕ) → i < n →
    domains_in body i (n - i) at ≡ domain_in body i at ∷ domains_in body (i + 1) (n - (i + 1)) (after_domain body at)
unfolding domains_in
next_domain body n i at low =
    let left : n - i ≡ suc (n - (i + 1)) = omega arith in ap (λ (k : ℕ). domains_in body i k at) left

pub no_domains : (body : List ℕ) (d n i at : ℕ) → n - i ≡ 0 → domains_in body d (n - i) at ≡ []
unfolding domains_in
no_domains body d n i at none = ap (λ (k : ℕ). domains_in body d k at) none

pub length-domains_in : (body : List ℕ) (d n at : ℕ) → length (domains_in body d n at) ≡ n
unfolding domains_in
length-domains_in body d zero at = refl
length-domains_in body d (suc n) at = ap suc (length-domains_in body (d + 1) n (after_domain body at))

-- A value is pushed, or put into its place.

pub pushed : {A : Type 0} (done now : List A) (v : A) (later rest all : List A) → now ≡ done ++ v ∷ [] →
    later ≡ v ∷ rest → done ++ later ≡ all → now ++ rest ≡ all
pushed done now v later rest all is next so_far =
    ap (λ l. l ++ rest) is ∙ append_assoc done (v ∷ []) rest ∙ ap (λ l. done ++ l) (sym next) ∙ so_far

pub put_in : {A : Type 0} (into : List A) (i : ℕ) (v : A) (later rest all : List A) → i < length into →
    later ≡ v ∷ rest → take i into ++ later ≡ all → take (i + 1) (set into i v) ++ rest ≡ all
put_in into i v later rest all low next so_far =
    ap (λ l. l ++ rest) (take_more_set into i v low) ∙ append_assoc (take i into) (v ∷ []) rest
    ∙ ap (λ l. take i into ++ l) (sym next) ∙ so_far

pub all_put : {A : Type 0} (into : List A) (i : ℕ) (later all : List A) → length into ≤ i → later ≡ [] →
    take i into ++ later ≡ all → into ≡ all
all_put into i later all end none so_far =
    sym (take_all i into end) ∙ sym (append-nil (take i into)) ∙ ap (λ l. take i into ++ l) (sym none) ∙ so_far

pub all_pushed : {A : Type 0} (done later all : List A) → later ≡ [] → done ++ later ≡ all → done ≡ all
all_pushed done later all none so_far = sym (append-nil done) ∙ ap (λ l. done ++ l) (sym none) ∙ so_far

-- A value of a row is pushed, or put into its place.

pub push_value : {A : Type 0} (value : ℕ → A) (after : ℕ → ℕ) (n i at next : ℕ) (done now : List A) (v : A) (all : List A) →
    i < n → now ≡ done ++ v ∷ [] → v ≡ value at → next ≡ after at → done ++ values value after (n - i) at ≡ all →
    now ++ values value after (n - (i + 1)) next ≡ all
push_value value after n i at next done now v all low grown is there kept =
    ap (λ (k : ℕ). now ++ values value after (n - (i + 1)) k) there
    ∙ pushed done now v (values value after (n - i) at) (values value after (n - (i + 1)) (after at)) all grown
    (next_value value after n i at low ∙ ap (λ x. x ∷ values value after (n - (i + 1)) (after at)) (sym is)) kept

pub put_value : {A : Type 0} (value : ℕ → A) (after : ℕ → ℕ) (n i at next : ℕ) (into : List A) (v : A) (all : List A) →
    i < n → i < length into → v ≡ value at → next ≡ after at → take i into ++ values value after (n - i) at ≡ all →
    take (i + 1) (set into i v) ++ values value after (n - (i + 1)) next ≡ all
put_value value after n i at next into v all low inside is there kept =
    ap (λ (k : ℕ). take (i + 1) (set into i v) ++ values value after (n - (i + 1)) k) there
    ∙ put_in into i v (values value after (n - i) at) (values value after (n - (i + 1)) (after at)) all inside
    (next_value value after n i at low ∙ ap (λ x. x ∷ values value after (n - (i + 1)) (after at)) (sym is)) kept

pub over_put : {A : Type 0} (value : ℕ → A) (after : ℕ → ℕ) (n i at : ℕ) (into all : List A) → n ≤ i → length into ≤ i →
    take i into ++ values value after (n - i) at ≡ all → into ≡ all
over_put value after n i at into all over long kept =
    all_put into i (values value after (n - i) at) all long (no_values value after n i at (omega arith)) kept

pub over_pushed : {A : Type 0} (value : ℕ → A) (after : ℕ → ℕ) (n i at : ℕ) (done all : List A) → n ≤ i →
    done ++ values value after (n - i) at ≡ all → done ≡ all
over_pushed value after n i at done all over kept =
    all_pushed done (values value after (n - i) at) all (no_values value after n i at (omega arith)) kept
