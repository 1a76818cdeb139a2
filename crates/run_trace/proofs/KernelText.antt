-- A front of what the items add is a front of the whole text.
use Rattle.std.proofs.Common.{ℕ, List, Option, Some, None}
use Rattle.cloak_model.specs.declared.image.KernelImage.{KernelImage}
use Rattle.cloak_model.specs.Items.{Item}
use Rattle.cloak_model.specs.KernelAlone.{kernel_alone}
use Rattle.io_traits.specs.Told.{GrowsByFront}
use Rattle.io_traits.proofs.ToldFacts.{GrowsByFront-first}
use Rattle.read_back.specs.declared.ending.Ending.{Ending}
use Rattle.run_trace.specs.KernelTrace.{kernel_trace}
use Rattle.run_trace.specs.Tracing.{kernel_text, last_line}
use Rattle.run_trace.specs.declared.choice.TraceChoice.{TraceChoice}

pub front_of_text : (c : TraceChoice) (k : KernelImage) (items : List Item) (ended : Option Ending)
    (a b : Option (List ℕ)) → GrowsByFront a b (kernel_trace c k items) → GrowsByFront a b (kernel_text c k items ended)
front_of_text c k items None a b front = front
front_of_text c k items (Some ended) a b front =
    GrowsByFront-first a b (kernel_trace c k items) (last_line (kernel_alone k items) ended) front
