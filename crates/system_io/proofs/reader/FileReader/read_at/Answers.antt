use Rattle.std.proofs.Common.{◌<◌, arith}
use Rattle.system_io.proofs.Windows.{copied_ahead}
use Rattle.system_io.proofs.reader.FileReader.read_at.Goals as goal

pub returns-then-ahead-gt0-clause-copied : goal.returns-then-ahead-gt0-clause-copied
returns-then-ahead-gt0-clause-copied g c =
    let before = c.copy-ahead.ensures.before c.if-ahead-gt0.true in
    copied_ahead _ _ _ c.args.self.now c.args.at c.copy-ahead.result c.args.into.now _ c.requires.reads c.requires.open
    c.if-ahead-gt0.true before (c.copy-ahead.ensures.count before) c.copy-ahead.ensures.copied
