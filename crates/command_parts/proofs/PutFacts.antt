-- A byte that is put to an output.
use Rattle.std.proofs.Common.{◌≡◌, ◌<◌, ◌≤◌, ℕ, List, [], ◌∷◌, take, Option, Result, Ok, Err, IfOk, OnOk, OnErr, subst, arith}
use Rattle.cloak_base.specs.declared.causes.Failed.{Failed}
use Rattle.io_traits.specs.Told.{Grows, GrowsByFront}
use Rattle.io_traits.proofs.ToldFacts.{GrowsByFront-none}

-- one byte that was put: it was taken, or nothing was

pub put_one : (r : Result ℕ Failed) (old new : Option (List ℕ)) (b : ℕ) → IfOk r (λ n. n ≤ 1) →
    IfOk r (λ n. 0 < 1 → 0 < n) → IfOk r (λ n. Grows old new (take n (b ∷ []))) → OnOk r (Grows old new (b ∷ []))
put_one (Ok n) old new b within progress grows =
    subst (λ (k : ℕ). Grows old new (take k (b ∷ [])))
    (let some : 0 < n = progress (omega arith) in let e : n ≡ 1 = omega (arith, within, some) in e) grows
put_one (Err e) old new b within progress grows = tt

pub put_none : (r : Result ℕ Failed) (old new : Option (List ℕ)) (bytes : List ℕ) → OnErr r (new ≡ old) →
    OnErr r (GrowsByFront old new bytes)
put_none (Ok n) old new bytes same = tt
put_none (Err e) old new bytes same = GrowsByFront-none old new bytes same
