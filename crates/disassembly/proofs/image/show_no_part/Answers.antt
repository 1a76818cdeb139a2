use Rattle.command_parts.specs.declared.status.Status.TheVariants as status
use Rattle.kernel_report.proofs.PutFacts.{then}
use Rattle.disassembly.proofs.Parts.{shows}
use Rattle.disassembly.proofs.image.show_no_part.Goals as goal

pub returns : goal.returns
returns g c =
    shows g.O.Sink _ _ _ status.Usage _ _ (then c.text-so_far.ensures (then c.put_part-so_far.ensures c.text.ensures))
    c.status_of.ensures
