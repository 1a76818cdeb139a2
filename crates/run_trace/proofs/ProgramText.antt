-- A front of what the items add is a front of the whole text.
use Rattle.std.proofs.Common.{ℕ, List, Option, Some, None}
use Rattle.cloak_model.specs.declared.image.KernelImage.{KernelImage}
use Rattle.cloak_model.specs.Items.{Item}
use Rattle.cloak_model.specs.Parts.{DomainPart}
use Rattle.cloak_model.specs.DomainAlone.{domain_alone_from}
use Rattle.io_traits.specs.Told.{GrowsByFront}
use Rattle.io_traits.proofs.ToldFacts.{GrowsByFront-first}
use Rattle.read_back.specs.declared.ending.Ending.{Ending}
use Rattle.run_trace.specs.ProgramTrace.{program_trace}
use Rattle.run_trace.specs.ProgramTracing.{last_own_line, program_text}
use Rattle.run_trace.specs.declared.choice.TraceChoice.{TraceChoice}

pub front_of_own : (c : TraceChoice) (d : ℕ) (k : KernelImage) (p : DomainPart) (items : List Item) (ended : Option Ending)
    (a b : Option (List ℕ)) → GrowsByFront a b (program_trace c d k p items) → GrowsByFront a b (program_text c d k p items ended)
front_of_own c d k p items None a b front = front
front_of_own c d k p items (Some ended) a b front =
    GrowsByFront-first a b (program_trace c d k p items) (last_own_line (domain_alone_from d k.schedule p items) ended) front
