use Rattle.tool_commands.proofs.answering.carry_out.Goals as goal

pub returns-in-Asm : goal.returns-in-Asm
returns-in-Asm g c = rw c.in-Asm.is c.asm_command.ensures

pub returns-in-Disasm : goal.returns-in-Disasm
returns-in-Disasm g c = rw c.in-Disasm.is c.disasm.ensures

pub returns-in-Pack : goal.returns-in-Pack
returns-in-Pack g c = rw c.in-Pack.is c.pack_command.ensures

pub returns-in-Show : goal.returns-in-Show
returns-in-Show g c = rw c.in-Show.is c.show.ensures

pub returns-in-Trace : goal.returns-in-Trace
returns-in-Trace g c = rw c.in-Trace.is c.trace.ensures

pub returns-in-Draw : goal.returns-in-Draw
returns-in-Draw g c = rw c.in-Draw.is c.draw.ensures

pub returns-in-Explain : goal.returns-in-Explain
returns-in-Explain g c =
    rw c.in-Explain.is (record {
      answers = c.explain_command.ensures.answers;
      kept = c.explain_command.ensures.files;
      writing = c.explain_command.ensures.writing;
    })
