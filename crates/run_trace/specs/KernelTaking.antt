-- What becomes of a kernel, and of the output that shows what items add, with the items of a record.
use Rattle.std.specs.Prelude.{◌≡◌, List, Option, Result, Ok}
use Rattle.io_traits.specs.declared.sink.Sink as sinks
use Rattle.cloak_model.specs.declared.image.KernelImage.{KernelImage}
use Rattle.cloak_model.specs.Items.{Item}
use Rattle.cloak_model.specs.KernelAlone.{opened_kernel}
use Rattle.alone_views.specs.KernelStanding.{StandsForKernel}
use Rattle.alone_views.specs.declared.kernel.KernelAlone.{KernelAlone}
use Rattle.kernel_report.specs.Putting.{Putting, PutsMore, putting}
use Rattle.read_back.specs.Viewing.{KernelItems}
use Rattle.read_back.specs.declared.ending.Ending.{Ending}
use Rattle.run_trace.specs.KernelTrace.{kernel_trace}
use Rattle.run_trace.specs.Stopping.{IsKnownSo}
use Rattle.run_trace.specs.declared.choice.TraceChoice.{TraceChoice}
use Rattle.run_trace.specs.declared.kernel_items.KernelTrace.{KernelTrace}
use Rattle.run_trace.specs.declared.stop.TraceStop.{TraceStop}

-- these items were given to the kernel alone, and what they add was put
pub record TracesItems (c : TraceChoice) (k : KernelImage) (machine : KernelAlone) (items : List Item) (old new : Putting)
    (ended : Option Ending) : Type 0 where
  pub given : KernelItems k machine items ended
  pub text : PutsMore old new (kernel_trace c k items)

pub record TookInTrace {O : Type 0} (sink : sinks.Ghosts O) (first now : KernelTrace O) (items : List Item)
    (given : Result (Unit {0}) TraceStop) : Type 0 where
  pub traces : (k : KernelImage) → StandsForKernel first.kernel.now k.schedule (opened_kernel k) →
      IsKnownSo (TracesItems first.choice.now k now.kernel.now items (putting sink first.out.now (Ok tt)))
      (putting sink now.out.now) given
  pub same_kernel : now.kernel.ghost_name ≡ first.kernel.ghost_name
  pub same_choice : now.choice ≡ first.choice
  pub same_out : now.out.ghost_name ≡ first.out.ghost_name
