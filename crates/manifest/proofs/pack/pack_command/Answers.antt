use Rattle.command_parts.specs.Outside.{files}
use Rattle.manifest.proofs.pack.pack_command.Goals as goal

pub returns : goal.returns
returns g c =
    record {
      made = c.packed-made.result;
      files = files g.S.Shelf c.packed-made.new.shelf;
      reads = c.packed-made.ensures;
      concludes = c.conclude.ensures;
    }
