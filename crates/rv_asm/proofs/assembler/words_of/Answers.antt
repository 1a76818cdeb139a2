use Rattle.std.proofs.Common.{take, get_or}
use Rattle.std.proofs.lemmas.List.{take_more}
use Rattle.rv_isa.specs.declared.instr.Instr.TheVariants.{Lui}
use Rattle.rv_asm.specs.declared.image_word.ImageWord.TheVariants.{Instruction}
use Rattle.rv_asm.proofs.Encoded.{one_more}
use Rattle.rv_asm.proofs.assembler.words_of.Goals as goal

pub loop-item-preserved : goal.loop-item-preserved
loop-item-preserved c =
    let items = c.args.items.now in
    let i = c.loop-item.item-index in
    let default = Instruction (Lui 0 0) in
    rw (c.in_ok-push.ensures.items, take_more items i default c.loop-item-test.true)
    (one_more (take i items) c.loop-item.words.items (get_or items i default) c.word_of.result c.loop-item.invariant c.word_of.ensures)
