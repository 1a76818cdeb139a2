-- What an item adds, and how far a record was traced.
use Rattle.std.specs.Prelude.{ℕ, ◌≡◌, List, Option, Some, None, IfSome, Result, Ok, Err, ◌++◌}
use Rattle.cloak_base.specs.declared.causes.Failed.{Failed}
use Rattle.cloak_model.specs.declared.image.KernelImage.{KernelImage}
use Rattle.cloak_model.specs.Items.{Item}
use Rattle.cloak_model.specs.KernelAlone as model
use Rattle.cloak_model.specs.KernelAlone.{kernel_alone, take_kernel_item}
use Rattle.alone_views.specs.KernelEnding.{ending_in, plain_ending}
use Rattle.alone_views.specs.KernelStanding.{StandsForKernel, answer_for}
use Rattle.alone_views.specs.declared.kernel.KernelAlone.{KernelAlone}
use Rattle.alone_views.specs.declared.unfit.Unfit.{Unfit}
use Rattle.kernel_report.specs.Putting.{Putting, PutsMore}
use Rattle.read_back.specs.Answering.{viewed_unfit}
use Rattle.read_back.specs.Reading.{IsReadTo}
use Rattle.read_back.specs.Text.{fault_line}
use Rattle.read_back.specs.declared.ending.Ending.{Ending}
use Rattle.read_back.specs.declared.ending.Ending.TheVariants as ending
use Rattle.run_trace.specs.KernelTrace.{added_by, end_line, kernel_trace}
use Rattle.run_trace.specs.declared.choice.TraceChoice.{TraceChoice}
use Rattle.run_trace.specs.declared.kernel_side.OpenStep.{OpenStep}

-- the step that was open ended so
abbrev pub EndedAs : Option OpenStep → KernelAlone → model.KernelAlone → Type 0
EndedAs open_step machine s = IfSome open_step (λ o. ending_in machine ≡ plain_ending o.hart s)

-- An item was taken: the machine stands for the next state, and what the item adds was put.
pub record AddsItem (old new : Putting) (machine : KernelAlone) (given : Result Unit Unfit) (c : TraceChoice)
    (turns : List ℕ) (s : model.KernelAlone) (i : Item) : Type 0 where
  pub stands : StandsForKernel machine turns (take_kernel_item turns s i)
  pub answer : given ≡ answer_for (take_kernel_item turns s i).unfit
  pub text : PutsMore old new (added_by c s (take_kernel_item turns s i) i)

-- The kernel alone was given the items of a record, and what they add was put.
pub record TracesTo (c : TraceChoice) (k : KernelImage) (machine : KernelAlone) (told : Option (List ℕ))
    (reading reads : ℕ) (old new : Putting) (ended : Option Ending) : Type 0 where
  pub items : List Item
  pub read : IsReadTo (viewed_unfit k) told reading reads items ended
  pub stands : StandsForKernel machine k.schedule (kernel_alone k items)
  pub text : PutsMore old new (kernel_trace c k items)

-- all was put and reading ended so; or the output failed, whether or not reading had ended
abbrev pub Traces : TraceChoice → KernelImage → KernelAlone → Option (List ℕ) → ℕ → ℕ → Putting →
    (Result Unit Failed → Putting) → Result Ending Failed → Type 0
Traces c k machine told reading reads old new (Ok ended) =
    TracesTo c k machine told reading reads old (new (Ok tt)) (Some ended)
Traces c k machine told reading reads old new (Err failed) =
    (ended : Option Ending) × TracesTo c k machine told reading reads old (new (Err failed)) ended

-- the last line: the last step, or why the record was not read to its end
abbrev pub last_line : model.KernelAlone → Ending → List ℕ
last_line s ending.Whole = end_line s
last_line s (ending.Unfit step) = fault_line (ending.Unfit step)
last_line s (ending.Fault fault) = fault_line (ending.Fault fault)
last_line s ending.Unread = fault_line ending.Unread

-- The whole text of the kernel's side.
abbrev pub kernel_text : TraceChoice → KernelImage → List Item → Option Ending → List ℕ
kernel_text c k items None = kernel_trace c k items
kernel_text c k items (Some ended) = kernel_trace c k items ++ last_line (kernel_alone k items) ended
