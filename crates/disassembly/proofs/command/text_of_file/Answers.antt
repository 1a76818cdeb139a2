use Rattle.command_parts.specs.Outside.{files}
use Rattle.disassembly.specs.Disassembling.{TellsFault}
use Rattle.asm_text.proofs.ReasonFacts.{told_why}
use Rattle.disassembly.proofs.command.text_of_file.Goals as goal

pub returns-in-Ok-disassembled : goal.returns-in-Ok-disassembled
returns-in-Ok-disassembled g c =
    let read = c.in-Ok.ensures in
    let made = rw c.as_slice.ensures.value at c.in-Ok-disassembled.ensures in (
      record { bytes = c.in-Ok.bytes.items; read = read.bytes; disassembled = made },
      record { held = read.files; reading = read.reading; writing = read.writing },
    )

pub returns : goal.returns
returns g c =
    let read = c.in-Ok.ensures in
    let told = g.S.Shelf.held c.args.shelf.now c.args.name.now in
    let state = files g.S.Shelf in
    told_why (TellsFault c.args.base c.args.name.now told) c.reason_of_fault.result (state c.args.shelf.now)
    (state c.read_front.new.shelf)
    (c.reason_of_fault.ensures told
    (rw c.as_slice-in-Err-disassembled.ensures.value read.bytes))
    (record { held = read.files; reading = read.reading; writing = read.writing })
