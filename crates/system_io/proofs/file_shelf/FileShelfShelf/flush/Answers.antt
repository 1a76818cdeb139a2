use Rattle.std.proofs.Common.{refl}
use Rattle.system_io.proofs.Held.{held-after}
use Rattle.system_io.proofs.file_shelf.FileShelfShelf.flush.Goals as goal

pub returns-else-finish-clause-files : goal.returns-else-finish-clause-files
returns-else-finish-clause-files g c =
    held-after g.D.FileSystem.told c.args.self.now c.finish.new.self _ _ c.fail_writing.ensures.kept refl refl refl
    c.finish.ensures.files
