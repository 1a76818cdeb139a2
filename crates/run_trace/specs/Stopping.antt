-- Whether tracing goes on after an item.
use Rattle.std.specs.Prelude.{Option, None, Result, Ok, Err}
use Rattle.cloak_base.specs.declared.causes.Failed.{Failed}
use Rattle.alone_views.specs.declared.unfit.Unfit.{Unfit}
use Rattle.kernel_report.specs.Putting.{Putting}
use Rattle.read_back.specs.Viewing.{unfit_ends}
use Rattle.read_back.specs.declared.ending.Ending.{Ending}
use Rattle.run_trace.specs.declared.stop.TraceStop.{TraceStop}
use Rattle.run_trace.specs.declared.stop.TraceStop.TheVariants as stop

-- The item was shown and taken so. Where the output failed, it does not matter whether the item fitted.
abbrev pub go_on : Result Unit Failed → Result Unit Unfit → Result (Unit {0}) TraceStop
go_on (Err failed) taken = Err (stop.Failed failed)
go_on (Ok u) (Ok v) = Ok tt
go_on (Ok u) (Err unfit) = Err (stop.Unfit unfit)

-- What is then known of the output and of the ending: there is none yet, or the last item was unfit, or the output failed
-- at the last item, whether or not this was unfit.
abbrev pub IsKnownSo : (Putting → Option Ending → Type 0) → (Result Unit Failed → Putting) →
    Result (Unit {0}) TraceStop → Type 0
IsKnownSo known new (Ok u) = known (new (Ok tt)) None
IsKnownSo known new (Err (stop.Unfit unfit)) = known (new (Ok tt)) (unfit_ends (Err unfit))
IsKnownSo known new (Err (stop.Failed failed)) =
    (taken : Result (Unit {0}) Unfit) × known (new (Err failed)) (unfit_ends taken)
