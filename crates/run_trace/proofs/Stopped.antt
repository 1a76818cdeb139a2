-- Tracing goes on after an item, or stops there.
use Rattle.std.proofs.Common.{Option, Result, Ok, Err}
use Rattle.cloak_base.specs.declared.causes.Failed.{Failed}
use Rattle.alone_views.specs.declared.unfit.Unfit.{Unfit}
use Rattle.kernel_report.specs.Putting.{Putting}
use Rattle.read_back.specs.Viewing.{unfit_ends}
use Rattle.read_back.specs.declared.ending.Ending.{Ending}
use Rattle.run_trace.specs.Stopping.{IsKnownSo, go_on}

pub known_so : (known : Putting → Option Ending → Type 0) (new : Result Unit Failed → Putting)
    (shown : Result Unit Failed) (taken : Result Unit Unfit) → known (new shown) (unfit_ends taken) →
    IsKnownSo known new (go_on shown taken)
known_so known new (Ok u) (Ok v) is = is
known_so known new (Ok u) (Err unfit) is = is
known_so known new (Err failed) taken is = (taken, is)
