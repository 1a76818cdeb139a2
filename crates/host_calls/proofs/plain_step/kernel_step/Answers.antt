use Rattle.cloak_model.proofs.Following.{follows_same}
use Rattle.step_parts.proofs.Same.{same_step}
use Rattle.host_calls.proofs.plain_step.kernel_step.Goals as goal

pub returns : goal.returns
returns g c =
    let parts = c.step_in_parts.ensures in
    record {
      follows = follows_same g.M.Ram.stands_for _ _ _ _ _ (same_step _ _) parts.follows;
      keeps = parts.keeps;
      same_count = parts.same_count;
    }
