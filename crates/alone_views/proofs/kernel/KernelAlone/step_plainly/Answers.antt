use Rattle.std.proofs.Common.{sym}
use Rattle.alone_views.specs.KernelStanding.{state_with}
use Rattle.alone_views.specs.KernelWorld.{seen_by}
use Rattle.alone_views.proofs.KernelHarts.{hart_there}
use Rattle.alone_views.proofs.KernelSteps.{ended_plainly, step_over_ram, stepped_plainly}
use Rattle.alone_views.proofs.kernel.KernelAlone.step_plainly.Goals as goal

pub returns-clause-state : goal.returns-clause-state
returns-clause-state c console =
    let old = c.args.self.now in
    let h = c.index_mut.result.now in
    let step = c.kernel_step-ending in
    sym (stepped_plainly (state_with old console) c.args.hart h step.new.h step.new.d step.result
    (seen_by step.new.m) c.has_halted-self.result
    (hart_there old.harts.items c.args.hart h c.requires c.index_mut.ensures.value)
    (step_over_ram old.ram step.new.m h step.new.h old.disk step.new.d step.result step.ensures.follows)
    c.has_halted-self.ensures)

pub returns-clause-ending : goal.returns-clause-ending
returns-clause-ending c console =
    let old = c.args.self.now in
    let h = c.index_mut.result.now in
    let step = c.kernel_step-ending in
    ended_plainly (state_with old console) c.args.hart h step.new.h step.new.d step.result (seen_by step.new.m)
    (hart_there old.harts.items c.args.hart h c.requires c.index_mut.ensures.value)
    (step_over_ram old.ram step.new.m h step.new.h old.disk step.new.d step.result step.ensures.follows)
