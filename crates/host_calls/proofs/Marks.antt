-- Reservations when no hart has one.
use Rattle.std.proofs.Common.{◌≡◌, ◌∙◌, ℕ, zero, suc, Bool, false, List, [], ◌∷◌, Option, Some, None, ◌≤◌, length, take, replicate, map, set, refl, ap, subst, sym}
use Rattle.std.proofs.lemmas.List.{length-replicate, take-replicate}
use Rattle.std.specs.List.{list_any}
use Rattle.std.specs.Option.{is_some}
use Rattle.cloak_model.specs.Memory.{unless_written}
use Rattle.cloak_model.proofs.Marks.{still_none}

pub none_left : (marks : List (Option ℕ)) → list_any is_some marks ≡ false → marks ≡ replicate (length marks) None
none_left [] without = refl
none_left (None ∷ marks) without = ap (λ marks. None ∷ marks) (none_left marks without)
none_left (Some word ∷ marks) without = cc

set-replicate : {A : Type 0} (a : A) (n i : ℕ) → set (replicate n a) i a ≡ replicate n a
set-replicate a zero i = refl
set-replicate a (suc n) zero = refl
set-replicate a (suc n) (suc i) = ap (λ xs. a ∷ xs) (set-replicate a n i)

-- nothing ends

pub none_to_unmark : (words marks : List (Option ℕ)) (hart : ℕ) → words ≡ marks → words ≡ replicate (length words) None → marks ≡ set marks hart None
none_to_unmark words marks hart same is =
    subst (λ (marks : List (Option ℕ)). marks ≡ set marks hart None) same
    (is ∙ sym (set-replicate None (length words) hart) ∙ ap (λ (marks : List (Option ℕ)). set marks hart None) (sym is))

pub none_to_end : (is_written : ℕ → Bool) (words marks : List (Option ℕ)) → words ≡ marks → words ≡ replicate (length words) None →
    marks ≡ map (unless_written is_written) marks
none_to_end is_written words marks same is =
    subst (λ (marks : List (Option ℕ)). marks ≡ map (unless_written is_written) marks) same
    (is ∙ sym (still_none is_written (length words)) ∙ ap (map (unless_written is_written)) (sym is))

-- as it begins

pub none_at_first : (harts : ℕ) (marks all : List (Option ℕ)) → harts ≤ 4 → all ≡ replicate 4 None → marks ≡ take harts all → marks ≡ replicate harts None
none_at_first harts marks all few is taken = taken ∙ ap (take harts) is ∙ take-replicate harts 4 None few

pub none_in_all : (harts : ℕ) (marks : List (Option ℕ)) → marks ≡ replicate harts None → marks ≡ replicate (length marks) None
none_in_all harts marks is =
    is ∙ ap (λ (n : ℕ). replicate n None) (sym (ap length is ∙ length-replicate harts None))
