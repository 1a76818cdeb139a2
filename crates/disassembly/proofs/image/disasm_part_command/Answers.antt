use Rattle.disassembly.proofs.image.disasm_part_command.Goals as goal

pub returns : goal.returns
returns g c = record {
  made = c.read_part-made.result;
  reads = c.read_part-made.ensures.reads;
  shows = c.show_part.ensures;
  held = c.read_part-made.ensures.files;
  writing = c.read_part-made.ensures.writing;
}
