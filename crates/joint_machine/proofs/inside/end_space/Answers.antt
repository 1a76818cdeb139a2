use Rattle.std.proofs.Common.{[], sym, subst}
use Rattle.cloak_model.specs.declared.inside.Went.{Went}
use Rattle.cloaked_side.specs.Tracking.{GoesBy}
use Rattle.cloaked_side.proofs.Translating.{ended_holds}
use Rattle.shadow_fold.specs.Events.{changed_by}
use Rattle.joint_machine.proofs.Tracked.{goes_ended, goes_still}
use Rattle.joint_machine.proofs.inside.end_space.Goals as goal

pub returns-in-Remapped-clause-holds : goal.returns-in-Remapped-clause-holds
returns-in-Remapped-clause-holds c = ended_holds _ _ _ c.end_space.ensures

pub returns-in-Remapped-clause-goes : goal.returns-in-Remapped-clause-goes
returns-in-Remapped-clause-goes c space =
    subst (λ (w : Went). GoesBy c.args.memory.now c.end_space.new.self (record { space = space; events = []; items = []; changed = changed_by c.args.domain w })) (sym c.in-Remapped.is)
    (goes_ended c.args.memory.now c.end_space.new.self _ c.end_space.ensures space)

pub returns-in-SpaceGone-clause-holds : goal.returns-in-SpaceGone-clause-holds
returns-in-SpaceGone-clause-holds c = ended_holds _ _ _ c.end_space-in-SpaceGone.ensures

pub returns-in-SpaceGone-clause-goes : goal.returns-in-SpaceGone-clause-goes
returns-in-SpaceGone-clause-goes c space =
    subst (λ (w : Went). GoesBy c.args.memory.now c.end_space-in-SpaceGone.new.self (record { space = space; events = []; items = []; changed = changed_by c.args.domain w })) (sym c.in-SpaceGone.is)
    (goes_ended c.args.memory.now c.end_space-in-SpaceGone.new.self _ c.end_space-in-SpaceGone.ensures space)

pub returns-in-Stay-clause-goes : goal.returns-in-Stay-clause-goes
returns-in-Stay-clause-goes c space =
    subst (λ (w : Went). GoesBy c.args.memory.now c.args.memory.now (record { space = space; events = []; items = []; changed = changed_by c.args.domain w })) (sym c.in-Stay.is)
    (goes_still c.args.memory.now space)

pub returns-in-Stopped-clause-goes : goal.returns-in-Stopped-clause-goes
returns-in-Stopped-clause-goes c space =
    subst (λ (w : Went). GoesBy c.args.memory.now c.args.memory.now (record { space = space; events = []; items = []; changed = changed_by c.args.domain w })) (sym c.in-Stopped.is)
    (goes_still c.args.memory.now space)

pub returns-in-Leave-clause-goes : goal.returns-in-Leave-clause-goes
returns-in-Leave-clause-goes c space =
    subst (λ (w : Went). GoesBy c.args.memory.now c.args.memory.now (record { space = space; events = []; items = []; changed = changed_by c.args.domain w })) (sym c.in-Leave.is)
    (goes_still c.args.memory.now space)
