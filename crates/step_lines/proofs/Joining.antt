-- Texts of what a step does that are put one after another.
use Rattle.std.proofs.Common.{◌≡◌, ℕ, List, [], ◌∷◌, ◌++◌, refl, sym, ap, ◌∙◌, append_assoc}
use Rattle.std.proofs.lemmas.List.{append-nil}
use Rattle.kernel_report.specs.Putting.{Putting, PutsMore}
use Rattle.kernel_report.proofs.PutFacts.{then, text_is, PutsMore-none}
use Rattle.step_lines.specs.Effects.{PutsEffects, gap_after, gap_text, joined}

joined_append : (gap : ℕ) (xs ys : List (List ℕ)) → joined gap (xs ++ ys) ≡ joined gap xs ++ joined (gap_after gap xs) ys
joined_append gap [] ys = refl
joined_append gap (e ∷ []) ys = sym (append_assoc (gap_text gap) (e ++ []) (joined 0 ys)
    ∙ ap (λ (l : List ℕ). gap_text gap ++ l) (append_assoc e [] (joined 0 ys)))
joined_append gap (e ∷ f ∷ xs) ys =
    ap (λ (l : List ℕ). gap_text gap ++ (e ++ l)) (joined_append 0 (f ∷ xs) ys)
    ∙ sym (append_assoc (gap_text gap) (e ++ joined 0 (f ∷ xs)) (joined 0 ys)
    ∙ ap (λ (l : List ℕ). gap_text gap ++ l) (append_assoc e (joined 0 (f ∷ xs)) (joined 0 ys)))

gap_append : (gap : ℕ) (xs ys : List (List ℕ)) → gap_after (gap_after gap xs) ys ≡ gap_after gap (xs ++ ys)
gap_append gap [] ys = refl
gap_append gap (e ∷ xs) [] = refl
gap_append gap (e ∷ xs) (f ∷ ys) = refl

-- some texts after others
pub and_then : {a b c : Putting} {g h k : ℕ} {xs ys : List (List ℕ)} → PutsEffects a b g h xs → PutsEffects b c h k ys →
    PutsEffects a c g k (xs ++ ys)
and_then {a} {b} {c} {g} {h} {k} {xs} {ys} first second = record {
  text = text_is (then first.text (text_is second.text (ap (λ (n : ℕ). joined n ys) first.gap_left)))
      (sym (joined_append g xs ys));
  gap_left = second.gap_left ∙ (ap (λ (n : ℕ). gap_after n ys) first.gap_left ∙ gap_append g xs ys);
}

-- no text
pub no_effect : {a : Putting} {g : ℕ} → PutsEffects a a g g []
no_effect {a} {g} = record { text = PutsMore-none a; gap_left = refl }

-- one text, with what stands before it
pub one_effect : {a b : Putting} {g : ℕ} {e : List ℕ} → PutsMore a b (gap_text g ++ e) → PutsEffects a b g 0 (e ∷ [])
one_effect {a} {b} {g} {e} puts = record {
  text = text_is puts (ap (λ (l : List ℕ). gap_text g ++ l) (sym (append-nil e)));
  gap_left = refl;
}

-- the same texts under another name
pub effects_are : {a b : Putting} {g h : ℕ} {xs ys : List (List ℕ)} → PutsEffects a b g h xs → xs ≡ ys →
    PutsEffects a b g h ys
effects_are {a} {b} {g} {h} {xs} {ys} puts same = record {
  text = text_is puts.text (ap (joined g) same);
  gap_left = puts.gap_left ∙ ap (gap_after g) same;
}
