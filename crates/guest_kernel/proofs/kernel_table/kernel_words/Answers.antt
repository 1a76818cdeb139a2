use Rattle.std.proofs.Common.{refl}
use Rattle.guest_kernel.specs.Layout.{kernel_words}
use Rattle.guest_kernel.proofs.kernel_table.kernel_words.Goals as goal

pub returns : goal.returns
unfolding kernel_words
returns c = refl
