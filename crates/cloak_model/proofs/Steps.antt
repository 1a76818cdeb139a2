-- The machine after a step of a run.
use Rattle.std.proofs.Common.{◌≡◌, ℕ, zero, suc, List, [], ◌∷◌, take, Some, ap, slice_get}
use Rattle.std.proofs.lemmas.Option.{same_Some}
use Rattle.cloak_model.specs.Joint.{Turn}
use Rattle.cloak_model.specs.Parts.{Joint}
use Rattle.cloak_model.specs.Run.{joint_after}

pub after_step : (j : Joint) (turns : List Turn) (n : ℕ) (t : Turn) → slice_get turns n ≡ Some t →
    joint_after j (take (suc n) turns) ≡ t.joint
unfolding joint_after
after_step j [] zero t is = absurd cc
after_step j [] (suc n) t is = absurd cc
after_step j (x ∷ turns) zero t is = ap (λ (y : Turn). y.joint) (same_Some x t is)
after_step j (x ∷ turns) (suc n) t is = after_step x.joint turns n t is
