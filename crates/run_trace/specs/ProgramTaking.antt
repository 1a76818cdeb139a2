-- What becomes of a program, and of the output that shows what items add, with the items of a record.
use Rattle.std.specs.Prelude.{ℕ, ◌≡◌, List, Option, Result, Ok}
use Rattle.io_traits.specs.declared.sink.Sink as sinks
use Rattle.cloak_model.specs.declared.image.KernelImage.{KernelImage}
use Rattle.cloak_model.specs.Parts.{DomainPart}
use Rattle.cloak_model.specs.Items.{Item}
use Rattle.cloak_model.specs.DomainAlone.{opened_with_part}
use Rattle.alone_views.specs.DomainStanding.{StandsForDomain}
use Rattle.alone_views.specs.declared.domain.DomainAlone.{DomainAlone}
use Rattle.kernel_report.specs.Putting.{Putting, PutsMore, putting}
use Rattle.read_back.specs.Viewing.{ProgramItems}
use Rattle.read_back.specs.declared.ending.Ending.{Ending}
use Rattle.run_trace.specs.ProgramTrace.{program_trace}
use Rattle.run_trace.specs.Stopping.{IsKnownSo}
use Rattle.run_trace.specs.declared.choice.TraceChoice.{TraceChoice}
use Rattle.run_trace.specs.declared.program_items.ProgramTrace.{ProgramTrace}
use Rattle.run_trace.specs.declared.stop.TraceStop.{TraceStop}

-- these items were given to the program alone, and what they add was put
pub record OwnItems (c : TraceChoice) (d : ℕ) (k : KernelImage) (p : DomainPart) (machine : DomainAlone) (items : List Item)
    (old new : Putting) (ended : Option Ending) : Type 0 where
  pub given : ProgramItems d k p machine items ended
  pub text : PutsMore old new (program_trace c d k p items)

pub record TookInOwn {O : Type 0} (sink : sinks.Ghosts O) (first now : ProgramTrace O) (items : List Item)
    (given : Result (Unit {0}) TraceStop) : Type 0 where
  pub traces : (k : KernelImage) (p : DomainPart) →
      StandsForDomain first.number.value k.schedule first.program.now (opened_with_part p) →
      IsKnownSo
      (OwnItems first.choice.now first.number.value k p now.program.now items (putting sink first.out.now (Ok tt)))
      (putting sink now.out.now) given
  pub same_program : now.program.ghost_name ≡ first.program.ghost_name
  pub same_number : now.number ≡ first.number
  pub same_choice : now.choice ≡ first.choice
  pub same_out : now.out.ghost_name ≡ first.out.ghost_name
