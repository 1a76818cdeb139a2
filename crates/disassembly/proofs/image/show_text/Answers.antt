use Rattle.command_parts.specs.declared.status.Status.TheVariants as status
use Rattle.disassembly.proofs.Parts.{shows}
use Rattle.disassembly.proofs.image.show_text.Goals as goal

pub returns : goal.returns
returns g c = shows g.O.Sink _ _ _ status.Done _ _ c.text.ensures c.status_of.ensures
