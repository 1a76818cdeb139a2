use Rattle.std.proofs.Common.{◌≡◌, ◌≤◌, ◌+◌, ◌-◌, ◌∙◌, suc, length, sym, subst, arith}
use Rattle.cloak_pager.specs.State.{IsNoneOwed}
use Rattle.cloaked_side.proofs.Cleared.{asked_clear, clears_missed, clears_next, clears_end, cleared_next, none_owed}
use Rattle.cloaked_side.proofs.Sided.{within_of}
use Rattle.cloaked_side.proofs.program_side.ProgramSide.clear_frames.Goals as goal

pub returns-then-self-clause-told : goal.returns-then-self-clause-told
returns-then-self-clause-told g c first w sees =
    let gave = g.E.Emit.gave in
    let domain = c.args.domain in
    let marked = c.args.resources.now in
    let count = c.count-count.result in
    let i = c.loop-i.i in
    let more : count - i ≡ suc (count - (i + 1)) = omega (arith, c.loop-i-test.true) in
    asked_clear gave first c.args.self.now.side c.answer.new.self.side domain marked count c.answer.result w sees
    c.count-count.ensures.value
    (clears_missed gave c.args.self.now.side c.loop-i.self.side c.clear_frame.new.self c.answer.new.self.side domain marked i
    (count - i) (count - (i + 1)) count c.answer.result first w c.loop-i.invariant.told more
    (λ v seen. c.clear_frame.ensures.sees first v seen) c.if-self.true
    (λ v seen. c.answer.ensures.told first v seen) sees)

pub loop-i-preserved : goal.loop-i-preserved
loop-i-preserved g c =
    let gave = g.E.Emit.gave in
    let domain = c.args.domain in
    let marked = c.args.resources.now in
    let count = c.count-count.result in
    let i = c.loop-i.i in
    let mid = c.clear_frame.new.self in
    let more : count - i ≡ suc (count - (i + 1)) = omega (arith, c.loop-i-test.true) in
    record {
      told = clears_next gave c.args.self.now.side c.loop-i.self.side mid domain marked i (count - i)
          (count - (i + 1)) count c.loop-i.invariant.told more
          (λ first v seen. c.clear_frame.ensures.sees first v seen) c.if-self.false;
      keeps = λ first stays. c.clear_frame.ensures.keeps first (c.loop-i.invariant.keeps first stays);
      same_count = c.clear_frame.ensures.same_count ∙ c.loop-i.invariant.same_count;
      cleared =
          cleared_next domain marked i c.loop-i.self.side.memory.now.pager mid.memory.now.pager
          (within_of gave c.loop-i.self.side mid c.clear_frame.ensures.keeps).no_more
          c.loop-i.invariant.cleared c.clear_frame.ensures.cleared;
    }

pub returns-clause-told : goal.returns-clause-told
returns-clause-told g c first w sees =
    let gave = g.E.Emit.gave in
    let domain = c.args.domain in
    let marked = c.args.resources.now in
    let count = c.count-count.result in
    let i = c.loop-i.i in
    let none : count - i ≡ 0 = omega (arith, c.loop-i-test.false) in
    asked_clear gave first c.args.self.now.side c.answer-2.new.self.side domain marked count c.answer-2.result w sees
    c.count-count.ensures.value
    (clears_end gave c.args.self.now.side c.loop-i.self.side c.answer-2.new.self.side domain marked i
    (count - i) count c.answer-2.result first w c.loop-i.invariant.told none
    (λ v seen. c.answer-2.ensures.told first v seen) sees)

pub returns-clause-cleared : goal.returns-clause-cleared
returns-clause-cleared g c ok r mark =
    let p = c.loop-i.self.side.memory.now.pager in
    let past : c.count-count.result ≤ c.loop-i.i = c.loop-i-test.false in
    let same : length p.frames ≡ c.count-count.result = c.loop-i.invariant.same_count in
    subst (λ m. IsNoneOwed m.now.pager c.args.domain r) (sym c.answer-2.ensures.leaves.same)
    (none_owed p c.args.domain c.args.resources.now c.whole.ensures
    (λ k lt. c.loop-i.invariant.cleared k (omega (arith, lt, past, same))) r mark)
