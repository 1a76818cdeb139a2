use Rattle.disassembly.proofs.Lines.{words_below}
use Rattle.disassembly.proofs.ReadBack.{reads_back}
use Rattle.disassembly.proofs.disassembling.law_of_reading_back.Goals as goal

pub returns : goal.returns
returns c =
    reads_back c.args.base c.args.words.now (words_below c.args.words.now (λ i. (c.type_inv.words i).fits)) c.requires
