use Rattle.std.proofs.Common.{◌≡◌, ℕ, Some, slice_get, subst, sym}
use Rattle.cloak_model.specs.Joint.{Turn, domain_met, end_domain}
use Rattle.cloaked_side.specs.Tracking.{GoesBy}
use Rattle.cloaked_side.specs.declared.memory.Memory.{Memory}
use Rattle.joint_machine.specs.Turning.{EndsAfter, nothing_in}
use Rattle.joint_machine.proofs.AfterEnd.{asked_ends, asked_refuses, ends_refused, left_lent, resumed_ends, resumed_refuses}
use Rattle.joint_machine.proofs.Tracked.{goes_still}
use Rattle.shadow_fold.specs.Events.{with_end}
use Rattle.shadow_fold.specs.Reads.{AskedByStep}
use Rattle.joint_machine.proofs.joint.Joint.end_resumed.Goals as goal

pub returns-then-is_left-clause-ends : goal.returns-then-is_left-clause-ends
returns-then-is_left-clause-ends g c t s =
    let v = c.args.v in
    let d = domain_met v in
    let domains = c.args.self.now.domains.items in
    let left = left_lent _ domains _ d _ _ c.deref.ensures.value c.domain_met-d.ensures c.is_left.ensures
    c.if-is_left.true in
    let ends = resumed_ends domains t.joint.domains d v t s.domains left in
    subst (λ (u : Turn). EndsAfter g.E.Emit.gave c.args.e.now c.end_domain.new.e c.end_domain.new.self t u)
    (sym ends.1.1)
    (subst (λ (k : ℕ). slice_get t.joint.domains k ≡ Some ends.0 →
    EndsAfter g.E.Emit.gave c.args.e.now c.end_domain.new.e c.end_domain.new.self t (end_domain k ends.0 v t))
    c.domain_met-d.ensures (c.end_domain.ensures.ends t ends.0 s) ends.1.0)

pub returns-then-is_left-clause-goes : goal.returns-then-is_left-clause-goes
returns-then-is_left-clause-goes g c j space s =
    let d = domain_met c.args.v in
    let domains = c.args.self.now.domains.items in
    let left = left_lent _ domains _ d _ _ c.deref.ensures.value c.domain_met-d.ensures c.is_left.ensures
    c.if-is_left.true in
    let asks = asked_ends domains j.domains d j.memory (nothing_in space) s.domains left in
    subst (λ (a : AskedByStep). GoesBy c.args.self.now.memory c.end_domain.new.self.memory a) (sym asks.1.1)
    (subst (λ (k : ℕ). slice_get j.domains k ≡ Some asks.0 →
    GoesBy c.args.self.now.memory c.end_domain.new.self.memory (with_end k asks.0 j.memory (nothing_in space)))
    c.domain_met-d.ensures (c.end_domain.ensures.goes j asks.0 space s) asks.1.0)

pub returns-else-is_left-clause-ends : goal.returns-else-is_left-clause-ends
returns-else-is_left-clause-ends g c t s =
    let v = c.args.v in
    let d = domain_met v in
    let domains = c.args.self.now.domains.items in
    let left = left_lent _ domains _ d _ _ c.deref.ensures.value c.domain_met-d.ensures c.is_left.ensures
    c.if-is_left.false in
    subst (λ (u : Turn). EndsAfter g.E.Emit.gave c.args.e.now c.args.e.now c.refuse.new.self t u)
    (sym (resumed_refuses domains t.joint.domains d v t s.domains left))
    (ends_refused g.E.Emit.gave c.args.e.now c.refuse.new.self t (c.refuse.ensures.refuses t s))

pub returns-else-is_left-clause-goes : goal.returns-else-is_left-clause-goes
returns-else-is_left-clause-goes g c j space s =
    let d = domain_met c.args.v in
    let domains = c.args.self.now.domains.items in
    let left = left_lent _ domains _ d _ _ c.deref.ensures.value c.domain_met-d.ensures c.is_left.ensures
    c.if-is_left.false in
    subst (λ (a : AskedByStep). GoesBy c.args.self.now.memory c.refuse.new.self.memory a)
    (sym (asked_refuses domains j.domains d j.memory (nothing_in space) s.domains left))
    (subst (λ (m : Memory). GoesBy c.args.self.now.memory m (nothing_in space)) (sym c.refuse.ensures.memory)
    (goes_still c.args.self.now.memory space))
