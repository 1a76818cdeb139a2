use Rattle.std.proofs.Common.{◌∙◌, rules, refl, ap, sym, Some}
use Rattle.cloak_model.specs.DomainStep.{domain_step}
use Rattle.cloak_model.specs.World.{Cloaked}
use Rattle.cloaked_side.proofs.Sided.{stays_self}
use Rattle.cloaked_side.proofs.Serving.{inside_fits, inside_space}
use Rattle.cloaked_side.specs.Seeing.{space_in}
use Rattle.cloaked_side.proofs.Telling.{counting_back, size_back, some_back, sees_first, goes_back, goes_world}
use Rattle.joint_machine.specs.Turning.{begun}
use Rattle.joint_machine.proofs.Sides.{others_back, pages_begun, steps_told, unused_back}
use Rattle.joint_machine.proofs.stepping.step_domain.Goals as goal

pub returns-clause-size : goal.returns-clause-size
returns-clause-size g c =
    let kept = c.step.ensures.side.keeps (record { side = _; reached = record { 0 = 0 } }) (stays_self g.E.Emit.gave _) in
    let lent = sym kept.same_memory in
    size_back c.args.memory.now _ c.step.new.m.side.memory.now (search rules) kept.size

pub returns-clause-emits_some : goal.returns-clause-emits_some
returns-clause-emits_some g c =
    let kept = c.step.ensures.side.keeps (record { side = _; reached = record { 0 = 0 } }) (stays_self g.E.Emit.gave _) in
    let lent = sym kept.same_emitter in
    some_back g.E.Emit.gave c.args.e.now _ c.step.new.m.side.emitter.now (search rules) kept.emits_some

pub returns-clause-others : goal.returns-clause-others
returns-clause-others g c =
    let kept = c.step.ensures.side.keeps (record { side = _; reached = record { 0 = 0 } }) (stays_self g.E.Emit.gave _) in
    let lent = sym kept.same_memory in
    others_back c.args.regime.domain c.args.memory.now.pager _ c.step.new.m.side.memory.now.pager (search rules) kept.others

pub returns-clause-unused : goal.returns-clause-unused
returns-clause-unused g c =
    let kept = c.step.ensures.side.keeps (record { side = _; reached = record { 0 = 0 } }) (stays_self g.E.Emit.gave _) in
    let lent = sym kept.same_memory in
    unused_back c.step.new.m.side _ c.args.regime.domain _ (search rules) kept.domain c.step.ensures.side.unused

pub returns-clause-steps : goal.returns-clause-steps
returns-clause-steps g c m d holds stands unclashed =
    let kept = c.step.ensures.side.keeps (record { side = _; reached = record { 0 = 0 } }) (stays_self g.E.Emit.gave _) in
    let memory_lent = sym kept.same_memory in
    let emitter_lent = sym kept.same_emitter in
    let cloak = begun m c.args.regime c.args.slot d in
    let sees = sees_first g.E.Emit.gave _ cloak holds refl refl refl refl (inside_fits c.args.regime c.args.space _ c.regime_inside.ensures) in
    steps_told g.E.Emit.gave _ c.step.new.m c.step.new.self _ _ _ _ _ (search rules) (search rules) c.keep.ensures refl
    (c.step.ensures.steps (record { side = _; reached = record { 0 = 0 } }) d stands (Cloaked cloak) (pages_begun m c.args.regime c.args.slot d _ stands.control) (sees, (c.args.space, inside_space c.args.regime c.args.space _ c.regime_inside.ensures)) unclashed)

pub returns-clause-counting : goal.returns-clause-counting
returns-clause-counting g c =
    let kept = c.step.ensures.side.keeps (record { side = _; reached = record { 0 = 0 } }) (stays_self g.E.Emit.gave _) in
    let lent = sym kept.same_memory in
    counting_back c.args.memory.now _ c.step.new.m.side.memory.now (returns-clause-size g c) (search rules) kept.counting

pub returns-clause-goes : goal.returns-clause-goes
returns-clause-goes g c m d holds stands unclashed =
    let kept = c.step.ensures.side.keeps (record { side = _; reached = record { 0 = 0 } }) (stays_self g.E.Emit.gave _) in
    let lent = sym kept.same_memory in
    let cloak = begun m c.args.regime c.args.slot d in
    let sees = sees_first g.E.Emit.gave _ cloak holds refl refl refl refl (inside_fits c.args.regime c.args.space _ c.regime_inside.ensures) in
    let steps = c.step.ensures.steps (record { side = _; reached = record { 0 = 0 } }) d stands (Cloaked cloak) (pages_begun m c.args.regime c.args.slot d _ stands.control) (sees, (c.args.space, inside_space c.args.regime c.args.space _ c.regime_inside.ensures)) unclashed in
    goes_back _ _ c.step.new.m.side.memory.now _ (returns-clause-size g c) (search rules)
    (goes_world g.E.Emit.gave _ c.step.new.m.side (Some c.args.space) (domain_step c.args.slot d (Cloaked cloak)).world
    (ap space_in kept.regime ∙ inside_space c.args.regime c.args.space _ c.regime_inside.ensures) steps.world_stands.0)
