-- The bytes of the block are the range that was taken.
use Rattle.cloak_base.proofs.Lists.{whole_page}
use Rattle.alone_files.proofs.found.block_of.Goals as goal

pub returns : goal.returns
returns c = whole_page c.in-Ok.bytes.now c.args.disk.now c.args.block c.in-Ok.ensures.1.same
