-- The trace of the kernel's side: what each item adds, by the states of the kernel alone before and after it.
use Rattle.std.specs.Prelude.{ℕ, true, false, ◌&&◌, Bool, List, [], ◌∷◌, ◌++◌, codes, decimal, Option, Some, None, is_none, if◌then◌else◌}
use Rattle.cloak_model.specs.declared.image.KernelImage.{KernelImage}
use Rattle.cloak_model.specs.Items.{Item}
use Rattle.cloak_model.specs.Items as item
use Rattle.cloak_model.specs.KernelAlone as model
use Rattle.cloak_model.specs.KernelAlone.{kernel_hart, opened_kernel, take_kernel_item}
use Rattle.alone_views.specs.KernelEnding.{is_end, plain_ending}
use Rattle.step_lines.specs.Ahead.{ahead_of}
use Rattle.step_lines.specs.Lines.{hart_step_line, item_line}
use Rattle.step_lines.specs.Sights.{sight_of}
use Rattle.run_trace.specs.Choice.{has_step}
use Rattle.run_trace.specs.declared.choice.TraceChoice.{TraceChoice}
use Rattle.run_trace.specs.declared.kernel_side.OpenStep.{OpenStep}

-- The step of a hart outside that is open, if it is chosen: what the hart is about to do.
abbrev pub open_at : TraceChoice → model.KernelStage → model.KernelAlone → Option OpenStep
open_at c (model.Outside number) s =
    if has_step c s.steps (Some number)
    then Some (record { step = s.steps; hart = number; ahead = ahead_of s.kernel.ram (kernel_hart s.kernel number) })
    else None
open_at c model.Between s = None
open_at c (model.Inside number ctx) s = None
open_at c model.Left s = None

abbrev pub open_step : TraceChoice → model.KernelAlone → Option OpenStep
open_step c s = open_at c s.stage s

-- The line of a step that was open, over the states before and after the marker that ends it. (A step of a hart inside
-- has no line of its own.)
abbrev pub made_line : Option OpenStep → model.KernelAlone → model.KernelAlone → List ℕ
made_line None s next = []
made_line (Some o) s next =
    hart_step_line o.step o.hart o.ahead (sight_of (kernel_hart next.kernel o.hart)) next.kernel.ram
    (plain_ending o.hart s)

abbrev pub ended_step : TraceChoice → model.KernelAlone → model.KernelAlone → List ℕ
ended_step c s next = made_line (open_step c s) s next

-- the hart in whose step the items stand
abbrev pub hart_there : model.KernelStage → Option ℕ
hart_there (model.Outside number) = Some number
hart_there (model.Inside number ctx) = Some number
hart_there model.Between = None
hart_there model.Left = None

-- an item that the kernel could see
abbrev pub is_outward : Item → Bool
is_outward (item.Cipher frame bytes) = true
is_outward (item.Put address width value) = true
is_outward (item.Leave shown) = true
is_outward other = false

-- it is shown if it fits and is chosen
abbrev pub outward_line : TraceChoice → Bool → model.KernelAlone → Item → List ℕ
outward_line c fits s i =
    if fits && has_step c s.steps (hart_there s.stage) then item_line s.steps (hart_there s.stage) i else []

-- What an item adds: a marker the step that it ends, and an item that the kernel could see itself.
unfoldable pub added_by : TraceChoice → model.KernelAlone → model.KernelAlone → Item → List ℕ
added_by c s next i =
    if is_end i then ended_step c s next else
    if is_outward i then outward_line c (is_none next.unfit) s i else []

-- the items in their order
unfoldable pub traced : TraceChoice → List ℕ → model.KernelAlone → List Item → List ℕ
traced c schedule s [] = []
traced c schedule s (i ∷ items) =
    added_by c s (take_kernel_item schedule s i) i ++ traced c schedule (take_kernel_item schedule s i) items

abbrev pub kernel_trace : TraceChoice → KernelImage → List Item → List ℕ
kernel_trace c k items = traced c k.schedule (opened_kernel k) items

-- The last line, once a record was read to its end.

abbrev pub halt_text : Bool → List ℕ
halt_text true = codes " halted\n"
halt_text false = codes " was the last\n"

abbrev pub end_line : model.KernelAlone → List ℕ
end_line s = codes "end: step " ++ (decimal s.steps ++ halt_text s.halted)
