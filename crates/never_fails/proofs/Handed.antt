-- To set or take away the entry of a name leaves the others.
use Rattle.std.proofs.Common.{◌≡◌, ◌≢◌, rules, ℕ, Bool, true, false, cond, List, refl, sym, ◌∙◌, ap, Option, String, Vec}
use Rattle.std.specs.Prelude.{option_map}
use Rattle.std.specs.BTreeMap.{BTreeMap, get_by_text}
use Rattle.std.specs.Map.{update}
use Rattle.std.specs.Str.{bytes_eq}
use Rattle.std.proofs.lemmas.Slice.Eq.{bytes_eq-Decides}
use Rattle.io_traits.specs.Told.{OtherFiles}
use Rattle.never_fails.specs.Handed.{handed_in}

unless_same : {X : Type 0} (b : Bool) (x y : X) → (b ≡ true → ⊥) → cond b x y ≡ y
unless_same true x y apart = absurd (apart refl)
unless_same false x y apart = refl

same_name : (name other : List ℕ) → bytes_eq name other ≡ true → other ≡ name
same_name name other is = search (rules, bytes_eq-Decides)

pub others_stay : {A : Type 0} (name : List ℕ) (m n : BTreeMap (String A) (Vec ℕ A)) (w : Option (Vec ℕ A)) →
    ((q : List ℕ) → get_by_text n q ≡ update bytes_eq (get_by_text m) name w q) →
    OtherFiles name (handed_in m) (handed_in n)
others_stay name m n w sets = λ other apart. ap (λ (o : Option (Vec ℕ _)). option_map (λ v. v.items) o)
    (sets other ∙ unless_same (bytes_eq name other) w (get_by_text m other) (λ is. apart (same_name name other is)))
