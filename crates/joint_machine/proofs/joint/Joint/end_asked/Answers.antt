use Rattle.std.proofs.Common.{◌∙◌, ◌≤◌, ◌<◌, ◌/◌, Option, subst, sym}
use Rattle.cloak_model.specs.DomainState as program
use Rattle.cloak_model.specs.Joint.{ends_asked}
use Rattle.cloaked_side.specs.Tracking.{GoesBy}
use Rattle.joint_machine.specs.Turning.{EndsAfter, nothing_in}
use Rattle.joint_machine.proofs.AfterEnd.{ends_same, program_at}
use Rattle.joint_machine.proofs.Places.{none_past}
use Rattle.joint_machine.proofs.Tracked.{goes_still}
use Rattle.shadow_fold.specs.Events.{ended_asked}
use Rattle.joint_machine.proofs.joint.Joint.end_asked.Goals as goal

pub returns-then-d-len-clause-ends : goal.returns-then-d-len-clause-ends
unfolding ends_asked
returns-then-d-len-clause-ends g c t s =
    let d = c.args.ctx / 8 in
    let at = program_at c.args.self.now.domains.items t.joint.domains d s.domains
    (subst (λ n. d < n) (c.len.ensures ∙ c.args.self.now.domains.ok.0) c.if-d-len.true) in
    subst (λ (o : Option program.Domain). EndsAfter g.E.Emit.gave c.args.e.now c.end_domain.new.e
    c.end_domain.new.self t (ends_asked o d c.args.v t))
    (sym at.1) (c.end_domain.ensures.ends t at.0 s at.1)

pub returns-then-d-len-clause-goes : goal.returns-then-d-len-clause-goes
returns-then-d-len-clause-goes g c j space s =
    let d = c.args.ctx / 8 in
    let at = program_at c.args.self.now.domains.items j.domains d s.domains
    (subst (λ n. d < n) (c.len.ensures ∙ c.args.self.now.domains.ok.0) c.if-d-len.true) in
    subst (λ (o : Option program.Domain). GoesBy c.args.self.now.memory c.end_domain.new.self.memory
    (ended_asked o d j.memory (nothing_in space)))
    (sym at.1) (c.end_domain.ensures.goes j at.0 space s at.1)

pub returns-else-d-len-clause-ends : goal.returns-else-d-len-clause-ends
unfolding ends_asked
returns-else-d-len-clause-ends g c t s =
    let d = c.args.ctx / 8 in
    let none = none_past c.args.self.now.domains.items t.joint.domains d s.domains
    (subst (λ n. n ≤ d) (c.len.ensures ∙ c.args.self.now.domains.ok.0) c.if-d-len.false) in
    subst (λ (o : Option program.Domain). EndsAfter g.E.Emit.gave c.args.e.now c.args.e.now c.args.self.now t
    (ends_asked o d c.args.v t))
    (sym none) (ends_same g.E.Emit.gave c.args.e.now c.args.self.now t s)

pub returns-else-d-len-clause-goes : goal.returns-else-d-len-clause-goes
returns-else-d-len-clause-goes g c j space s =
    let d = c.args.ctx / 8 in
    let none = none_past c.args.self.now.domains.items j.domains d s.domains
    (subst (λ n. n ≤ d) (c.len.ensures ∙ c.args.self.now.domains.ok.0) c.if-d-len.false) in
    subst (λ (o : Option program.Domain). GoesBy c.args.self.now.memory c.args.self.now.memory
    (ended_asked o d j.memory (nothing_in space)))
    (sym none) (goes_still c.args.self.now.memory space)
