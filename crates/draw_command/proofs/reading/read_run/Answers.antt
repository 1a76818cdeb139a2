use Rattle.std.proofs.Common.{Some}
use Rattle.read_back.proofs.ItemsRead.{fits_so, stops_so}
use Rattle.read_back.proofs.KernelReads.{kernel_none}
use Rattle.draw_command.proofs.reading.read_run.Goals as goal

pub for_each_item-requires-clause-none : goal.for_each_item-requires-clause-none
for_each_item-requires-clause-none g c = λ k stands. kernel_none stands

pub returns-in-Ok-clause-reads : goal.returns-in-Ok-clause-reads
returns-in-Ok-clause-reads g c = λ k stands.
    let read = c.in-Ok.ensures.reads in
    record { items = read.items; read = fits_so (Some c.in-Ok.ending) (read.taken k stands).fits read.read }

pub returns-in-Err-clause-reads : goal.returns-in-Err-clause-reads
returns-in-Err-clause-reads g c = λ k stands.
    let read = c.in-Err.ensures.reads in
    record { items = read.items; read = stops_so c.in-Err.unfit.step (read.taken k stands).fits read.read }
