use Rattle.disassembly.proofs.command.disasm_command.Goals as goal

pub returns : goal.returns
returns g c =
    record { made = c.text_of_file-made.result; reads = c.text_of_file-made.ensures; shows = c.show_made.ensures }
