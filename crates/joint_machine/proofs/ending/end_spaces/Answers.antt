use Rattle.std.proofs.Common.{◌≡◌, ◌∙◌, ℕ, [], arith, ap, refl, subst}
use Rattle.cloaked_side.specs.Holding.{domains_in, frames_of}
use Rattle.cloaked_side.specs.declared.memory.Memory.{Memory}
use Rattle.cloaked_side.specs.Tracking.{GoesBy}
use Rattle.cloaked_side.proofs.Sided.{same_size}
use Rattle.joint_machine.specs.Turning.{spaces_below}
use Rattle.cloaked_side.proofs.Translating.{ended_holds}
use Rattle.joint_machine.proofs.Tracked.{goes_next, goes_none}
use Rattle.joint_machine.proofs.ending.end_spaces.Goals as goal

pub loop-number-init : goal.loop-number-init
loop-number-init c = record {
  size = same_size;
  same_pager = refl;
  counting = refl;
  holds = λ m holds. holds;
  goes = λ space. goes_none c.args.memory.now c.args.domain space;
}

pub loop-number-preserved : goal.loop-number-preserved
loop-number-preserved c =
    let so_far = c.loop-number.invariant in
    let pager = ap (λ (m : Memory). m.pager) c.end_space.ensures in
    record {
      size = record {
        frames = ap (λ (m : Memory). frames_of m) c.end_space.ensures
            ∙ so_far.size.frames;
        domains = ap (λ (m : Memory). domains_in m) c.end_space.ensures
            ∙ so_far.size.domains;
      };
      same_pager = pager ∙ so_far.same_pager;
      counting = ap (λ (m : Memory). m.counting) c.end_space.ensures ∙ so_far.counting;
      holds = λ m holds. ended_holds _ _ _ c.end_space.ensures m (so_far.holds m holds);
      goes = λ space.
          goes_next c.args.memory.now c.loop-number.memory c.end_space.new.self c.args.domain c.loop-number.number
          space
          c.end_space.ensures (so_far.goes space);
    }

pub returns-clause-goes : goal.returns-clause-goes
returns-clause-goes c space =
    let all : c.loop-number.number ≡ 8 = omega (arith, c.loop-number-test.false, c.loop-number.auto.number-end) in
    subst (λ (n : ℕ). GoesBy c.args.memory.now c.loop-number.memory
    (record { space = space; events = []; items = []; changed = spaces_below c.args.domain n })) all
    (c.loop-number.invariant.goes space)
