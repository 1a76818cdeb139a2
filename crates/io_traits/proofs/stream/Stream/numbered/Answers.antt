use Rattle.std.proofs.Common.{rules}
use Rattle.cloak_base.specs.Random.{numbered}
use Rattle.io_traits.proofs.stream.Stream.numbered.Goals as goal

pub returns : goal.returns
unfolding numbered
returns c = search rules
