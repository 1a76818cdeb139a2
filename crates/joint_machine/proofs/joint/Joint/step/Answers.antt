use Rattle.std.proofs.Common.{◌≡◌, ◌∙◌, ap, false, subst, sym}
use Rattle.cloak_model.specs.Hart.{Hart}
use Rattle.cloak_model.specs.Joint.{Turn, hart_in}
use Rattle.joint_machine.specs.Turning.{EndsTurn}
use Rattle.joint_machine.proofs.Clashed.{turn_unclashed}
use Rattle.joint_machine.proofs.Turns.{hart_is, turn_inside, turn_outside}
use Rattle.space_law.specs.Mapping.{mapped_in}
use Rattle.joint_machine.proofs.Mapped.{makes_inside, makes_plainly}
use Rattle.joint_machine.proofs.Tracked.{goes_inside, goes_outside}
use Rattle.joint_machine.proofs.joint.Joint.step.Goals as goal

pub returns-in-None-clause-turns : goal.returns-in-None-clause-turns
returns-in-None-clause-turns g c j s unclashed =
    let is = hart_is c.args.self.now.harts.items j.harts c.args.number c.index.result.now s.harts c.requires c.index.ensures in
    subst (λ (t : Turn). EndsTurn g.E.Emit.gave c.args.e.now c.outside.new.e c.outside.new.self c.outside.result t)
    (sym (turn_outside j c.args.number c.index.result.now is (ap (λ (h : Hart). h.inside) (sym c.behind-self.view_is) ∙ c.in-None.is))) (c.outside.ensures.turns j s (turn_unclashed j c.args.number unclashed))

pub returns-in-Some-clause-turns : goal.returns-in-Some-clause-turns
returns-in-Some-clause-turns g c j s unclashed =
    let is = hart_is c.args.self.now.harts.items j.harts c.args.number c.index.result.now s.harts c.requires c.index.ensures in
    let turn = turn_inside j c.args.number c.in-Some.ctx c.index.result.now is (ap (λ (h : Hart). h.inside) (sym c.behind-self.view_is) ∙ c.in-Some.is) in
    subst (λ (t : Turn). EndsTurn g.E.Emit.gave c.args.e.now c.inside.new.e c.inside.new.self c.inside.result t)
    (sym turn) (c.inside.ensures.turns j s (subst (λ (t : Turn). t.joint.memory.ledger.clashed ≡ false) turn unclashed))

pub returns-in-None-clause-goes : goal.returns-in-None-clause-goes
returns-in-None-clause-goes g c j s unclashed =
    let is = hart_is c.args.self.now.harts.items j.harts c.args.number c.index.result.now s.harts c.requires c.index.ensures in
    goes_outside c.args.self.now.memory c.outside.new.self.memory j c.args.number c.index.result.now (hart_in j c.args.number) is (ap (λ (h : Hart). h.inside) (sym c.behind-self.view_is) ∙ c.in-None.is)
    (c.outside.ensures.goes j s (turn_unclashed j c.args.number unclashed))

pub returns-in-Some-clause-goes : goal.returns-in-Some-clause-goes
returns-in-Some-clause-goes g c j s unclashed =
    let is = hart_is c.args.self.now.harts.items j.harts c.args.number c.index.result.now s.harts c.requires c.index.ensures in
    let in_it = ap (λ (h : Hart). h.inside) (sym c.behind-self.view_is) ∙ c.in-Some.is in
    let turn = turn_inside j c.args.number c.in-Some.ctx c.index.result.now is in_it in
    goes_inside c.args.self.now.memory c.inside.new.self.memory j c.args.number c.in-Some.ctx c.index.result.now (hart_in j c.args.number) is in_it
    (c.inside.ensures.goes j s (subst (λ (t : Turn). t.joint.memory.ledger.clashed ≡ false) turn unclashed))

pub returns-in-None-clause-makes : goal.returns-in-None-clause-makes
returns-in-None-clause-makes g c j s =
    let is = hart_is c.args.self.now.harts.items j.harts c.args.number c.index.result.now s.harts c.requires c.index.ensures in
    makes_plainly (mapped_in j) j c.args.number (hart_in j c.args.number)
    (ap (λ (h : Hart). h.inside) (sym is) ∙ ap (λ (h : Hart). h.inside) (sym c.behind-self.view_is) ∙ c.in-None.is)

pub returns-in-Some-clause-makes : goal.returns-in-Some-clause-makes
returns-in-Some-clause-makes g c j s =
    let is = hart_is c.args.self.now.harts.items j.harts c.args.number c.index.result.now s.harts c.requires c.index.ensures in
    makes_inside (mapped_in j) j c.args.number (hart_in j c.args.number) c.in-Some.ctx
    (ap (λ (h : Hart). h.inside) (sym is) ∙ ap (λ (h : Hart). h.inside) (sym c.behind-self.view_is) ∙ c.in-Some.is)
    (c.inside.ensures.makes j s)
