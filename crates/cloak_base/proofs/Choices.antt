-- What holds of both ends of a choice holds of what is chosen.
use Rattle.std.proofs.Common.{◌≡◌, Bool, true, false, ◌||◌, cond, refl}

pub either : {A : Type 0} (P : A → Type 0) (b : Bool) (x y : A) → P x → P y → P (cond b x y)
either P true x y here there = here
either P false x y here there = there

-- one of two, of which the second is weaker
pub or_more : (c d e : Bool) → (d ≡ true → e ≡ true) → (c || d) ≡ true → (c || e) ≡ true
or_more true d e more is = refl
or_more false d e more is = more is
