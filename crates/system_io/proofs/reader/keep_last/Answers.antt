use Rattle.std.proofs.Common.{arith}
use Rattle.system_io.proofs.Windows.{kept_last}
use Rattle.system_io.proofs.reader.keep_last.Goals as goal

pub returns-clause-moved : goal.returns-clause-moved
returns-clause-moved c =
    kept_last c.args.window.now c.copy_within.new.self c.args.filled _ (omega arith) c.requires c.copy_within.ensures.after
