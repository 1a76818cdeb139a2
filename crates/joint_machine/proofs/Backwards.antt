-- Lists of which the last element stands first, over plain variables.
use Rattle.std.proofs.Common.{◌≡◌, ◌≤◌, ◌<◌, ◌+◌, ◌-◌, ◌*◌, ℕ, suc, List, [], ◌∷◌, ◌++◌, length, reverse, take, drop, ap, sym, ◌∙◌, subst, arith, All}
use Rattle.std.proofs.lemmas.List.{reverse-append, reverse-reverse, length-reverse, length-drop, take-append-drop, take_at, drop_at, drop-drop}
use Rattle.cloak_model.specs.Opening.{program_page}

-- One element.

pub back_next : {A : Type 0} (back others : List A) (x : A) → back ≡ others ++ x ∷ [] →
    reverse back ≡ x ∷ reverse others
back_next back others x e = ap reverse e ∙ reverse-append others (x ∷ [])

-- what is true of all is true of the next one, and of those after it
pub next_of_all : {A : Type 0} (P : A → Type 0) (back others : List A) (x : A) → back ≡ others ++ x ∷ [] →
    All P (reverse back) → P x
next_of_all {A} P back others x e all =
    let here : All P (x ∷ reverse others) = subst (All P) (back_next back others x e) all in here 0 x (omega arith)

pub others_of_all : {A : Type 0} (P : A → Type 0) (back others : List A) (x : A) → back ≡ others ++ x ∷ [] →
    All P (reverse back) → All P (reverse others)
others_of_all {A} P back others x e all =
    let here : All P (x ∷ reverse others) = subst (All P) (back_next back others x e) all in
    λ i d h. here (suc i) d (omega arith)

-- Some elements.

parted : {A : Type 0} (rest : List A) (n : ℕ) → reverse rest ≡ reverse (drop n rest) ++ reverse (take n rest)
parted rest n = ap reverse (sym (take-append-drop n rest)) ∙ reverse-append (take n rest) (drop n rest)

size_behind : {A : Type 0} (rest : List A) (n : ℕ) → length (reverse (drop n rest)) ≡ length (reverse rest) - n
size_behind rest n = omega (arith, length-reverse (drop n rest), length-drop n rest, length-reverse rest)

first_back : {A : Type 0} (rest : List A) (n : ℕ) →
    reverse (drop (length (reverse rest) - n) (reverse rest)) ≡ take n rest
first_back {A} rest n =
    ap (λ (x : List A). reverse (drop (length (reverse rest) - n) x)) (parted rest n)
    ∙ (ap reverse
    (drop_at (reverse (drop n rest)) (reverse (take n rest)) (length (reverse rest) - n) (size_behind rest n))
    ∙ reverse-reverse (take n rest))

behind_back : {A : Type 0} (rest : List A) (n : ℕ) →
    take (length (reverse rest) - n) (reverse rest) ≡ reverse (drop n rest)
behind_back {A} rest n =
    ap (λ (x : List A). take (length (reverse rest) - n) x) (parted rest n)
    ∙ take_at (reverse (drop n rest)) (reverse (take n rest)) (length (reverse rest) - n) (size_behind rest n)

-- Pages.

-- of these bytes those of the pages from this one on are left, the last one first
pub record ArePagesLeft (back bytes : List ℕ) (i : ℕ) : Type 0 where
  pub left : back ≡ reverse (drop (4096 * i) bytes)

-- there is a page yet
pub page_there : (back bytes : List ℕ) (i pages : ℕ) → ArePagesLeft back bytes i → length bytes ≡ 4096 * pages →
    i < pages → 4096 ≤ length back
page_there back bytes i pages are size low =
    let long : length back ≡ length bytes - 4096 * i =
    ap (λ (x : List ℕ). length x) are.left ∙ (length-reverse (drop (4096 * i) bytes) ∙ length-drop (4096 * i) bytes) in
    omega (arith, long, size, low)

pub page_next : (back bytes : List ℕ) (i : ℕ) → ArePagesLeft back bytes i →
    reverse (drop (length back - 4096) back) ≡ program_page bytes i
page_next back bytes i are =
    ap (λ (x : List ℕ). reverse (drop (length x - 4096) x)) are.left ∙ first_back (drop (4096 * i) bytes) 4096

pub pages_behind : (back others bytes : List ℕ) (i : ℕ) → ArePagesLeft back bytes i →
    others ≡ take (length back - 4096) back → ArePagesLeft others bytes (i + 1)
pages_behind back others bytes i are e = record {
  left =
      e ∙ (ap (λ (x : List ℕ). take (length x - 4096) x) are.left
      ∙ (behind_back (drop (4096 * i) bytes) 4096
      ∙ (ap reverse (drop-drop 4096 (4096 * i) bytes)
      ∙ ap (λ (n : ℕ). reverse (drop n bytes)) (let e : 4096 * i + 4096 ≡ 4096 * (i + 1) = omega arith in e))));
}
