use Rattle.command_parts.specs.Outside.{files}
use Rattle.asm_text.proofs.command.asm_command.Goals as goal

pub returns : goal.returns
returns g c =
    record {
      made = c.words_of_file-made.result;
      files = files g.S.Shelf c.words_of_file-made.new.shelf;
      reads = c.words_of_file-made.ensures;
      concludes = c.conclude.ensures;
    }
