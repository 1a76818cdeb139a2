use Rattle.command_parts.specs.Outside.{files}
use Rattle.asm_text.specs.Commanded.{TellsTextFault}
use Rattle.asm_text.proofs.ReasonFacts.{told_why}
use Rattle.asm_text.proofs.command.words_of_file.Goals as goal

pub returns-in-Ok-assembled : goal.returns-in-Ok-assembled
returns-in-Ok-assembled g c =
    let read = c.in-Ok.ensures in
    let assembled = rw c.as_slice.ensures.value at c.in-Ok-assembled.ensures in (
      record { text = c.in-Ok.text.items; read = read.bytes; assembled = assembled },
      record { held = read.files; reading = read.reading; writing = read.writing },
    )

pub returns : goal.returns
returns g c =
    let read = c.in-Ok.ensures in
    let told = g.S.Shelf.held c.args.shelf.now c.args.name.now in
    let state = files g.S.Shelf in
    told_why (TellsTextFault c.args.name.now told) c.reason_of_fault.result (state c.args.shelf.now)
    (state c.read_front.new.shelf)
    (c.reason_of_fault.ensures told
    (rw c.as_slice-in-Err-assembled.ensures.value read.bytes))
    (record { held = read.files; reading = read.reading; writing = read.writing })
