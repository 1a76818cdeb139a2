-- Characters that are put after others, as far as there is room.
use Rattle.std.proofs.Common.{◌≡◌, ◌∙◌, ℕ, zero, suc, ◌+◌, ◌≤◌, ◌<◌, List, [], ◌∷◌, ◌++◌, length, take, refl, sym, ap, append_assoc, append-nil, arith}
use Rattle.std.specs.Prelude.{slice_set}
use Rattle.std.proofs.lemmas.Grind.{common_steps, take-set_at}
use Rattle.std.proofs.lemmas.List.{take-append-le}
use Rattle.svg_text.specs.Labels.{put_signs, signs_of}
use Rattle.svg_text.specs.declared.label.Label.{Label}

-- what has no room in a front has none in the whole
take_front : (n : ℕ) (xs ys : List ℕ) → take n (take n xs ++ ys) ≡ take n (xs ++ ys)
take_front zero xs ys = refl
take_front (suc n) [] ys = refl
take_front (suc n) (x ∷ xs) ys = ap (λ t. x ∷ t) (take_front n xs ys)

take_all : (n : ℕ) (xs : List ℕ) → length xs ≤ n → take n xs ≡ xs
take_all n xs fits = grind (arith, common_steps)

-- what is put in two parts
pub put_put : (a b c : List ℕ) → put_signs (put_signs a b) c ≡ put_signs a (b ++ c)
unfolding put_signs
put_put a b c = take_front 400 (a ++ b) c ∙ ap (take 400) (append_assoc a b c)

-- nothing is put
pub put_nothing : (a : List ℕ) → length a ≤ 400 → put_signs a [] ≡ a
unfolding put_signs
put_nothing a fits = ap (take 400) (append-nil a) ∙ take_all 400 a fits

-- one character is put where there is room
pub put_one : (signs : List ℕ) (n c : ℕ) → length signs ≡ 400 → n < 400 →
    take (n + 1) (slice_set signs n c) ≡ put_signs (take n signs) (c ∷ [])
unfolding put_signs
put_one signs n c whole room =
    take-set_at signs n (n + 1) c refl (grind arith)
    ∙ sym (take_all 400 (take n signs ++ c ∷ []) (grind (arith, common_steps)))

-- and none where there is none
pub put_none : (signs : List ℕ) (n c : ℕ) → length signs ≡ 400 → n ≤ 400 → 400 ≤ n →
    take n signs ≡ put_signs (take n signs) (c ∷ [])
unfolding put_signs
put_none signs n c whole few full =
    sym (take-append-le 400 (take n signs) (c ∷ []) (grind (arith, common_steps)) ∙ take_all 400 (take n signs) (grind (arith, common_steps)))

-- one character more of a list
pub put_more : (a s s' items : List ℕ) (i x : ℕ) → s ≡ put_signs a (take i items) → s' ≡ put_signs s (x ∷ []) →
    take (i + 1) items ≡ take i items ++ x ∷ [] → s' ≡ put_signs a (take (i + 1) items)
put_more a s s' items i x so_far next more =
    next ∙ ap (λ t. put_signs t (x ∷ [])) so_far ∙ put_put a (take i items) (x ∷ []) ∙ ap (put_signs a) (sym more)

few_taken : (signs : List ℕ) (n : ℕ) → n ≤ 400 → length (take n signs) ≤ 400
few_taken signs n few = grind (arith, common_steps)

-- a label has at most 400 characters
pub signs_few : (l : Label) → length (signs_of l) ≤ 400
signs_few l = few_taken l.signs l.count l.few
