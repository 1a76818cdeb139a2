use Rattle.command_parts.specs.declared.status.Status.TheVariants as status
use Rattle.kernel_report.proofs.PutFacts.{then, text_is}
use Rattle.std.proofs.Common.{◌∙◌}
use Rattle.disassembly.proofs.Parts.{shows}
use Rattle.disassembly.proofs.image.show_fault.Goals as goal

pub returns : goal.returns
returns g c =
    shows g.O.Sink _ _ _ status.BadBundle _ _ (then (text_is c.text-so_far.ensures c.as_bytes.ensures.value) (
    then c.text-so_far-2.ensures (
    then c.put_part-so_far.ensures (then c.text-so_far-3.ensures (
    then (text_is c.text-so_far-4.ensures (c.as_bytes-2.ensures.value ∙ c.fault_words.ensures)) c.text.ensures)))))
    c.status_of.ensures
