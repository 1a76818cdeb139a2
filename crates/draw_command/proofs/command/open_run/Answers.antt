use Rattle.std.proofs.Common.{sym, subst}
use Rattle.cloak_model.specs.KernelAlone.{opened_kernel}
use Rattle.alone_views.specs.KernelStanding.{StandsForKernel}
use Rattle.alone_views.specs.declared.kernel.KernelAlone.{KernelAlone}
use Rattle.draw_command.proofs.command.open_run.Goals as goal

pub returns : goal.returns
returns c =
    let k = c.args.bundle.now.kernel in
    subst (λ (m : KernelAlone). StandsForKernel m k.schedule (opened_kernel k)) (sym c.in_ok-run.ensures)
    c.in_ok-kernel.ensures
