use Rattle.std.proofs.Common.{◌≡◌, ◌<◌, ◌≤◌, ℕ, sym, subst, arith}
use Rattle.cloak_model.specs.Asking.{FollowsFrom}
use Rattle.cloak_model.specs.Fork.{forget_each}
use Rattle.cloak_model.specs.Opening.{numbers_below}
use Rattle.cloak_model.specs.Script.{played}
use Rattle.cloaked_side.specs.Seeing.{Sees}
use Rattle.cloaked_side.proofs.Cleared.{none_owed_still}
use Rattle.cloaked_side.proofs.Ended.{forgets_next, forgets_none, held_next, none_of_all}
use Rattle.cloaked_side.proofs.Sided.{within_of}
use Rattle.cloaked_side.proofs.side.Side.drop_resources.Goals as goal

pub drop_resource-requires-clause-domain : goal.drop_resource-requires-clause-domain
drop_resource-requires-clause-domain g c =
    let kept = within_of g.E.Emit.gave c.args.self.now c.loop-n.self c.loop-n.invariant.keeps in
    subst (λ (k : ℕ). c.args.domain < k) (sym kept.stays.size.domains) c.requires.domain

pub drop_resource-requires-clause-cleared : goal.drop_resource-requires-clause-cleared
drop_resource-requires-clause-cleared g c =
    none_owed_still c.args.self.now.memory.now.pager c.loop-n.self.memory.now.pager c.args.domain c.loop-n.n
    (within_of g.E.Emit.gave c.args.self.now c.loop-n.self c.loop-n.invariant.keeps).no_more
    (c.requires.cleared c.loop-n.n (omega arith))

pub loop-n-init : goal.loop-n-init
loop-n-init g c = record {
  told = λ first w seen. forgets_none g.E.Emit.gave first c.args.self.now c.args.domain w seen;
  keeps = λ first stays. stays;
  none = λ r low. absurd (omega (arith, low));
}

pub loop-n-preserved : goal.loop-n-preserved
loop-n-preserved g c =
    let gave = g.E.Emit.gave in
    let new = c.drop_resource.new.self in
    record {
      told = λ first w seen. forgets_next gave first new c.args.domain c.loop-n.n w
          (c.drop_resource.ensures.told first (played (forget_each c.args.domain (numbers_below c.loop-n.n)) w).world
          (c.loop-n.invariant.told first w seen).stands);
      keeps = λ first stays. c.drop_resource.ensures.keeps first (c.loop-n.invariant.keeps first stays);
      none = held_next c.args.domain c.loop-n.n c.loop-n.self.memory.now.pager new.memory.now.pager
          (within_of gave c.loop-n.self new c.drop_resource.ensures.keeps).no_more c.loop-n.invariant.none
          c.drop_resource.ensures.away;
    }

pub returns-clause-told : goal.returns-clause-told
returns-clause-told g c first w seen =
    let all : c.loop-n.n ≡ 16 = omega arith in
    subst (λ (k : ℕ). FollowsFrom (Sees g.E.Emit.gave first) c.loop-n.self (tt {0})
    (played (forget_each c.args.domain (numbers_below k)) w)) all (c.loop-n.invariant.told first w seen)

pub returns-clause-none : goal.returns-clause-none
returns-clause-none g c =
    let past : 16 ≤ c.loop-n.n = c.loop-n-test.false in
    none_of_all c.loop-n.self.memory.now.pager c.args.domain c.whole.ensures
    (λ r low. c.loop-n.invariant.none r (omega (arith, low, past)))
