use Rattle.disassembly.proofs.Parts.{reads}
use Rattle.disassembly.proofs.image.read_part.Goals as goal

pub returns-in-Ok-clause-reads : goal.returns-in-Ok-clause-reads
returns-in-Ok-clause-reads g c =
    reads _ c.args.part _ _ c.in-Ok.bundle c.text_of_part.result c.in-Ok.ensures.bundle.0 c.in-Ok.ensures.bundle.1
    c.text_of_part.ensures
