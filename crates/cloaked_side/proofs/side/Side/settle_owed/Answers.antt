use Rattle.std.proofs.Common.{◌≡◌, ◌≤◌, ◌∙◌, ℕ, length, sym, subst, arith}
use Rattle.cloak_model.specs.Ending.{all_marked, settled_for}
use Rattle.cloak_model.specs.World.{World}
use Rattle.cloaked_side.specs.Holding.{frames_of}
use Rattle.cloaked_side.specs.Seeing.{Sees}
use Rattle.cloaked_side.proofs.Cleared.{cleared_next, none_owed}
use Rattle.cloaked_side.proofs.Ended.{settled_next, settled_none}
use Rattle.cloaked_side.proofs.Sided.{within_of}
use Rattle.cloaked_side.proofs.side.Side.settle_owed.Goals as goal
use Rattle.cloak_model.proofs.Marks.{is_marked_all}

pub loop-i-init : goal.loop-i-init
loop-i-init g c = record {
  sees = λ first w seen. subst (λ (v : World). Sees g.E.Emit.gave first c.args.self.now v) (settled_none c.args.domain w) seen;
  keeps = λ first stays. stays;
  same_count = sym c.count-count.ensures.value;
  cleared = λ k low. absurd (omega (arith, low));
}

pub loop-i-preserved : goal.loop-i-preserved
loop-i-preserved g c =
    let gave = g.E.Emit.gave in
    let domain = c.args.domain in
    let i = c.loop-i.i in
    let mid = c.clear_frame.new.self in
    record {
      sees = λ first w seen. subst (λ (v : World). Sees gave first mid v) (settled_next domain i w)
          (c.clear_frame.ensures.sees first (settled_for domain 0 i w) (c.loop-i.invariant.sees first w seen));
      keeps = λ first stays. c.clear_frame.ensures.keeps first (c.loop-i.invariant.keeps first stays);
      same_count = c.clear_frame.ensures.same_count ∙ c.loop-i.invariant.same_count;
      cleared =
          cleared_next domain all_marked i c.loop-i.self.memory.now.pager mid.memory.now.pager
          (within_of gave c.loop-i.self mid c.clear_frame.ensures.keeps).no_more
          c.loop-i.invariant.cleared c.clear_frame.ensures.cleared;
    }

pub returns-clause-sees : goal.returns-clause-sees
returns-clause-sees g c first w seen =
    let all : c.loop-i.i ≡ frames_of c.args.self.now.memory.now = omega arith in
    subst (λ (n : ℕ). Sees g.E.Emit.gave first c.loop-i.self (settled_for c.args.domain 0 n w)) all
    (c.loop-i.invariant.sees first w seen)

pub returns-clause-cleared : goal.returns-clause-cleared
returns-clause-cleared g c r low =
    let p = c.loop-i.self.memory.now.pager in
    let past : c.count-count.result ≤ c.loop-i.i = c.loop-i-test.false in
    let same : length p.frames ≡ c.count-count.result = c.loop-i.invariant.same_count in
    none_owed p c.args.domain all_marked c.whole.ensures
    (λ k lt. c.loop-i.invariant.cleared k (omega (arith, lt, past, same))) r (is_marked_all r low)
