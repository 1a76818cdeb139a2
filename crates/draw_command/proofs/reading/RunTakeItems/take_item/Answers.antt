use Rattle.cloak_model.specs.Items.{item_of}
use Rattle.cloak_model.specs.KernelAlone.{kernel_alone}
use Rattle.read_back.proofs.KernelReads.{kernel_more}
use Rattle.draw_command.proofs.reading.RunTakeItems.take_item.Goals as goal

pub returns : goal.returns
returns c = λ first before few took k stands.
    let items = took k stands in
    let one = c.take.ensures k.schedule (kernel_alone k before) c.requires items.stands in
    kernel_more c.take.result (item_of c.args.item.now) items one.stands one.answer
