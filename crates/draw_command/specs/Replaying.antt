-- A run that is made again: what is read of its record, with the kernel alone.
use Rattle.std.specs.Prelude.{ℕ, ◌≡◌, List, Option, Some, Result}
use Rattle.cloak_model.specs.declared.image.KernelImage.{KernelImage}
use Rattle.cloak_model.specs.Items.{Item}
use Rattle.cloak_model.specs.KernelAlone as model
use Rattle.alone_views.specs.KernelStanding.{StandsForKernel, answer_for}
use Rattle.alone_views.specs.declared.kernel.KernelAlone.{KernelAlone}
use Rattle.alone_views.specs.declared.unfit.Unfit.{Unfit}
use Rattle.read_back.specs.Answering.{viewed_unfit}
use Rattle.read_back.specs.Reading.{IsReadTo}
use Rattle.read_back.specs.declared.ending.Ending.{Ending}

-- An item was taken: the kernel stands for the next state, and the answer is its.
pub record TakesOne (machine : KernelAlone) (given : Result Unit Unfit) (turns : List ℕ) (next : model.KernelAlone) :
    Type 0 where
  pub stands : StandsForKernel machine turns next
  pub answer : given ≡ answer_for next.unfit

-- The kernel alone was given the items of a record, and reading ended so.
pub record ReadsRun (k : KernelImage) (told : Option (List ℕ)) (reading reads : ℕ) (ended : Ending) : Type 0 where
  pub items : List Item
  pub read : IsReadTo (viewed_unfit k) told reading reads items (Some ended)
