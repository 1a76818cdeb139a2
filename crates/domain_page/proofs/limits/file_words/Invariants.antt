use Rattle.std.proofs.Common.{ℕ, ◌<◌}
use Rattle.std.specs.Prelude.{IfSome}
use Rattle.cloak_model.specs.Resources.{resource_at}
use Rattle.frozen_state.specs.Words.{HasOwnerWord}
use Rattle.domain_page.proofs.limits.file_words.Given as goal

abbrev pub invariant-loop-n : goal.invariant-loop-n
invariant-loop-n l = (k : ℕ) → k < l.n → IfSome (resource_at l.r k) (λ held. HasOwnerWord held.owner)
