use Rattle.system_io.proofs.Windows.{none_of_empty}
use Rattle.system_io.proofs.reader.FileReader.read.Goals as goal

pub returns-then-not-is_there-clause-copied : goal.returns-then-not-is_there-clause-copied
returns-then-not-is_there-clause-copied g c =
    none_of_empty _ c.args.at c.args.into.now (c.in_ok-is_there.ensures.absent c.if-not-is_there.true)
