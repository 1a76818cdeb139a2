use Rattle.std.proofs.Common.{rules, refl, sym, None}
use Rattle.settling_ahead.proofs.Laws.{unclashed_ahead}
use Rattle.cloaked_side.proofs.Serving.{seen_outside}
use Rattle.cloak_model.specs.World.{Cloaked}
use Rattle.cloak_model.specs.Joint.{cloak_outside}
use Rattle.cloak_model.specs.KernelStep.{kernel_step}
use Rattle.cloaked_side.proofs.Sided.{within_self}
use Rattle.cloaked_side.proofs.Telling.{counting_back, size_back, no_more_back, some_back, sees_first, tells_ahead, goes_back, goes_world}
use Rattle.cloaked_side.proofs.outside.outside_step.Goals as goal

pub returns-clause-size : goal.returns-clause-size
returns-clause-size g c =
    let kept = c.kernel_step-ending.ensures.keeps _ (within_self g.E.Emit.gave _) in
    let lent = sym kept.stays.same_memory in
    size_back c.args.memory.now _ c.kernel_step-ending.new.m.memory.now (search rules) kept.stays.size

pub returns-clause-counting : goal.returns-clause-counting
returns-clause-counting g c =
    let kept = c.kernel_step-ending.ensures.keeps _ (within_self g.E.Emit.gave _) in
    let lent = sym kept.stays.same_memory in
    counting_back c.args.memory.now _ c.kernel_step-ending.new.m.memory.now (returns-clause-size g c) (search rules) kept.stays.counting

pub returns-clause-no_more : goal.returns-clause-no_more
returns-clause-no_more g c =
    let kept = c.kernel_step-ending.ensures.keeps _ (within_self g.E.Emit.gave _) in
    let lent = sym kept.stays.same_memory in
    no_more_back c.args.memory.now.pager _ c.kernel_step-ending.new.m.memory.now.pager (search rules) kept.no_more

pub returns-clause-emits_some : goal.returns-clause-emits_some
returns-clause-emits_some g c =
    let kept = c.kernel_step-ending.ensures.keeps _ (within_self g.E.Emit.gave _) in
    let lent = sym kept.stays.same_emitter in
    some_back g.E.Emit.gave c.args.e.now _ c.kernel_step-ending.new.m.emitter.now (search rules) kept.stays.emits_some

pub returns-clause-tells : goal.returns-clause-tells
returns-clause-tells g c m holds unclashed =
    let kept = c.kernel_step-ending.ensures.keeps _ (within_self g.E.Emit.gave _) in
    let h = c.args.h.now in
    let disk = c.args.d.now in
    let cloak = cloak_outside m h in
    let sees = sees_first g.E.Emit.gave _ cloak holds refl refl refl refl tt in
    let memory_lent = sym kept.stays.same_memory in
    let emitter_lent = sym kept.stays.same_emitter in
    tells_ahead g.E.Emit.gave _ c.kernel_step-ending.new.m _ h disk cloak _ _ (search rules) (search rules) unclashed
    (λ u. seen_outside g.E.Emit.gave _ _ _ _ (c.kernel_step-ending.ensures.follows _ (Cloaked cloak) (sees, refl) u))

pub returns-clause-goes : goal.returns-clause-goes
returns-clause-goes g c m holds unclashed =
    let kept = c.kernel_step-ending.ensures.keeps _ (within_self g.E.Emit.gave _) in
    let h = c.args.h.now in
    let disk = c.args.d.now in
    let cloak = cloak_outside m h in
    let sees = sees_first g.E.Emit.gave _ cloak holds refl refl refl refl tt in
    let memory_lent = sym kept.stays.same_memory in
    let f = c.kernel_step-ending.ensures.follows _ (Cloaked cloak) (sees, refl) (unclashed_ahead h disk cloak unclashed) in
    goes_back _ _ c.kernel_step-ending.new.m.memory.now _ (returns-clause-size g c) (search rules)
    (goes_world g.E.Emit.gave _ c.kernel_step-ending.new.m None (kernel_step h disk (Cloaked cloak)).world f.stands.1 f.stands.0)
