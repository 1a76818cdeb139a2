use Rattle.std.proofs.Common.{take}
use Rattle.rv_asm.specs.Assembly.{AreSpelled}
use Rattle.rv_asm.proofs.assembler.words_of.Given as goal

abbrev pub invariant-loop-item : goal.invariant-loop-item
invariant-loop-item l = AreSpelled (take l.item-index l.items) l.words.items
