-- What becomes of a run with the items of a record.
use Rattle.std.specs.Prelude.{List, Result}
use Rattle.cloak_model.specs.declared.image.KernelImage.{KernelImage}
use Rattle.cloak_model.specs.Items.{Item}
use Rattle.cloak_model.specs.KernelAlone.{opened_kernel}
use Rattle.alone_views.specs.KernelStanding.{StandsForKernel}
use Rattle.alone_views.specs.declared.unfit.Unfit.{Unfit}
use Rattle.read_back.specs.Viewing.{KernelItems, unfit_ends}
use Rattle.draw_command.specs.declared.run.Run.{Run}

-- they were given to its kernel
abbrev pub TookInRun : Run → Run → List Item → Result (Unit {0}) Unfit → Type 0
TookInRun first now items given =
    (k : KernelImage) → StandsForKernel first.kernel k.schedule (opened_kernel k) →
    KernelItems k now.kernel items (unfit_ends given)
