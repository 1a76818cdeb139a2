use Rattle.std.proofs.Common.{refl}
use Rattle.guest_kernel.specs.Layout.{demo_words}
use Rattle.guest_kernel.proofs.demo_table.demo_words.Goals as goal

pub returns : goal.returns
unfolding demo_words
returns c = refl
