use Rattle.std.proofs.Common.{refl}
use Rattle.system_io.proofs.Windows.{filled_any}
use Rattle.system_io.proofs.reader.fill.Goals as goal

pub returns-clause-filled : goal.returns-clause-filled
returns-clause-filled g c =
    filled_any (g.D.FileSystem.told c.args.disk.now) (g.D.FileSystem.is_of c.args.file.now) (g.D.FileSystem.is_at c.args.file.now)
    c.args.kept c.args.window.now _ c.read.new.into _ c.read.result refl c.requires c.read.ensures.copied
