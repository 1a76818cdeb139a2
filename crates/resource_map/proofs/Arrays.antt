-- What `map` of an array returns.
use Rattle.std.proofs.Common.{◌≡◌, ℕ, zero, suc, ◌+◌, ◌<◌, ◌≤◌, List, length, get_or, map, sym, ap, subst, ◌∙◌, inl, inr, arith}
use Rattle.std.proofs.lemmas.Bool.{cases_eq}
use Rattle.std.proofs.lemmas.List.{same_lists, get_or-map, length-map}
use Rattle.std.specs.Array.{IsMapOf, MapsFrom}
use Rattle.std.specs.Fn.{Called}
use denote.Param.Members.{Mut}

module _ {F A B : Type 0} (g : Mut F (A × Unit {0}) B) (f : F) (h : A → B) (says : (a : A) (b : B) (q : F) → Called g f (a, tt) b q → (b ≡ h a) × (q ≡ f)) where
  -- each call returns h of its element, and leaves the closure as it was
  mapped_each : (xs : List A) (ys : List B) (n i : ℕ) → MapsFrom g f xs ys i n → (k : ℕ) (d : A) (e : B) → i ≤ k → k < i + n → get_or ys k e ≡ h (get_or xs k d)
  mapped_each xs ys zero i made k d e low high = absurd (omega arith)
  mapped_each xs ys (suc n) i made k d e low high =
      let said = says made.1 made.2 made.0 made.5 in
      elim (cases_eq k i) [
        | inl same ↦ subst (λ (j : ℕ). get_or ys j e ≡ h (get_or xs j d)) (sym same) (made.4.1 e ∙ (said.0 ∙ ap h (sym (made.3.1 d))))
        | inr other ↦ mapped_each xs ys n (i + 1) (subst (λ (q : F). MapsFrom g q xs ys (i + 1) n) said.1 made.6) k d e (omega arith) (omega arith)
      ]

  pub map-from_calls : (d : A) (xs : List A) (ys : List B) (n : ℕ) → length xs ≡ n → IsMapOf g f xs ys n → ys ≡ map h xs
  map-from_calls d xs ys n long made =
      same_lists ys (map h xs) (made.long ∙ (sym long ∙ sym (length-map xs h)))
      (λ k e lt. mapped_each xs ys n 0 made.each k d e (omega arith) (omega (arith, made.long)) ∙ sym (get_or-map h xs k d e (omega (arith, made.long))))
