-- A step of a program asks at most twice where an access leads.
use Rattle.std.proofs.Common.{ℕ, ◌+◌, ◌≤◌, arith}
use Rattle.cloak_model.specs.Contexts.{Context}
use Rattle.cloak_model.specs.DomainState.{Control, Domain}
use Rattle.cloak_model.specs.DomainStep.{domain_step}
use Rattle.cloak_model.specs.Hypercalls.{Hypercall, hypercall}
use Rattle.cloak_model.specs.World.{World}
use Rattle.cloak_model.specs.Script.{played}
use Rattle.hypercall_kinds.specs.Kinds.{CallKind, Stops, Forks, EndsSpace, after}
use Rattle.hypercall_kinds.proofs.ByKinds.{by_kinds}
use Rattle.script_fold.proofs.Walks.{Walked, step_walks}
use Rattle.look_law.proofs.Questions.{Looks, none, then_still, asks_reach, asks_write, asks_get, asks_put, asks_clear, asks_copies, asks_forgets}

-- counts add up, and may be larger

looks_chained : (a b : ℕ) (u v w : World) → Looks a u v → Looks b v w → Looks (a + b) u w
looks_chained a b u v w p q = record { few = (let one = p.few in let two = q.few in omega (arith, one, two)) }

looks_wider : (a b : ℕ) (w v : World) → a ≤ b → Looks a w v → Looks b w v
looks_wider a b w v low p = record { few = (let few = p.few in omega (arith, few, low)) }

-- Hypercalls, and the whole step.

-- what a hypercall asks is no look
looks_kind : (h : Hypercall) (slot : ℕ) (c : Context) (d : Control) (w : World) (k : CallKind h slot c d w) →
    Looks 0 w (after h slot c d w k).world
looks_kind h slot c d w (Stops other) = asks_clear d.number _ w
looks_kind h slot c d w (Forks free new is room slots spaces ok) =
    then_still w _ _ (asks_clear d.number _ w) (asks_copies d.number _ _)
looks_kind h slot c d w (EndsSpace is none ok) =
    then_still w _ _ (asks_clear d.number _ w) (asks_forgets d.number _ _)
looks_kind h slot c d w _ = none w

looks_hypercall : (h : Hypercall) (slot : ℕ) (c : Context) (d : Control) (w : World) →
    Looks 0 w (played (hypercall h slot c d) w).world
looks_hypercall h slot c d w = by_kinds (λ t. Looks 0 w t.world) h slot c d w (looks_kind h slot c d w)

looks_walked : Walked (λ q va. Unit {0}) 1 Looks
looks_walked = record {
  same = λ w. none w;
  chained = looks_chained;
  wider = looks_wider;
  few = omega arith;
  reach = λ q va own kind w. asks_reach q va kind w;
  get = asks_get;
  put = asks_put;
  store = λ q va own kind at width value w is ok. then_still w _ _ (asks_reach q va kind w) (asks_write q at width value _);
}

pub looks_domain : (slot : ℕ) (d : Domain) (w : World) → Looks 2 w (domain_step slot d w).world
looks_domain slot d w =
    step_walks (λ q va. Unit {0}) 1 Looks looks_walked d (λ h slot' c v. looks_hypercall h slot' c d.control v) slot w
    (λ c is va q lies. tt)
