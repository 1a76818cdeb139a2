-- What an item adds to the trace of a program's side, and how far a record was traced.
use Rattle.std.specs.Prelude.{ℕ, ◌≡◌, List, ◌++◌, Option, Some, None, Result, Ok, Err}
use Rattle.cloak_base.specs.declared.causes.Failed.{Failed}
use Rattle.cloak_model.specs.declared.image.KernelImage.{KernelImage}
use Rattle.cloak_model.specs.Parts.{DomainPart}
use Rattle.cloak_model.specs.Items.{Item}
use Rattle.cloak_model.specs.DomainAlone as model
use Rattle.cloak_model.specs.DomainAlone.{domain_alone_from, take_domain_item}
use Rattle.alone_views.specs.DomainStanding.{StandsForDomain, answer_by}
use Rattle.alone_views.specs.declared.domain.DomainAlone.{DomainAlone}
use Rattle.alone_views.specs.declared.unfit.Unfit.{Unfit}
use Rattle.kernel_report.specs.Putting.{Putting, PutsMore}
use Rattle.read_back.specs.Answering.{program_unfit}
use Rattle.read_back.specs.Reading.{IsReadTo}
use Rattle.read_back.specs.Text.{fault_line}
use Rattle.read_back.specs.declared.ending.Ending.{Ending}
use Rattle.read_back.specs.declared.ending.Ending.TheVariants as ending
use Rattle.run_trace.specs.ProgramTrace.{program_added, program_end, program_trace}
use Rattle.run_trace.specs.declared.choice.TraceChoice.{TraceChoice}

-- An item was taken: the machine stands for the next state, and what the item adds was put.
pub record AddsOwn (old new : Putting) (machine : DomainAlone) (given : Result Unit Unfit) (c : TraceChoice) (d : ℕ)
    (turns : List ℕ) (s : model.DomainAlone) (i : Item) : Type 0 where
  pub stands : StandsForDomain d turns machine (take_domain_item d turns s i)
  pub answer : given ≡ answer_by (take_domain_item d turns s i).unfit
  pub text : PutsMore old new (program_added c d turns s (take_domain_item d turns s i) i)

-- The program alone was given the items of a record, and what they add was put.
pub record TracesProgram (c : TraceChoice) (d : ℕ) (k : KernelImage) (p : DomainPart) (machine : DomainAlone)
    (told : Option (List ℕ)) (reading reads : ℕ) (old new : Putting) (ended : Option Ending) : Type 0 where
  pub items : List Item
  pub read : IsReadTo (program_unfit d k p) told reading reads items ended
  pub stands : StandsForDomain d k.schedule machine (domain_alone_from d k.schedule p items)
  pub text : PutsMore old new (program_trace c d k p items)

-- all was put and reading ended so; or the output failed, whether or not reading had ended
abbrev pub TracesOwn : TraceChoice → ℕ → KernelImage → DomainPart → DomainAlone → Option (List ℕ) → ℕ → ℕ → Putting →
    (Result Unit Failed → Putting) → Result Ending Failed → Type 0
TracesOwn c d k p machine told reading reads old new (Ok ended) =
    TracesProgram c d k p machine told reading reads old (new (Ok tt)) (Some ended)
TracesOwn c d k p machine told reading reads old new (Err failed) =
    (ended : Option Ending) × TracesProgram c d k p machine told reading reads old (new (Err failed)) ended

-- the last line: the last step, or why the record was not read to its end
abbrev pub last_own_line : model.DomainAlone → Ending → List ℕ
last_own_line s ending.Whole = program_end s
last_own_line s (ending.Unfit step) = fault_line (ending.Unfit step)
last_own_line s (ending.Fault fault) = fault_line (ending.Fault fault)
last_own_line s ending.Unread = fault_line ending.Unread

-- The whole text of a program's side.
abbrev pub program_text : TraceChoice → ℕ → KernelImage → DomainPart → List Item → Option Ending → List ℕ
program_text c d k p items None = program_trace c d k p items
program_text c d k p items (Some ended) =
    program_trace c d k p items ++ last_own_line (domain_alone_from d k.schedule p items) ended
