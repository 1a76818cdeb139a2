use Rattle.std.proofs.Common.{◌∙◌}
use Rattle.rv_asm.proofs.AtomicWords.{spelled}
use Rattle.rv_asm.proofs.atomic.encode_atomic.Goals as goal

pub returns : goal.returns
returns c =
    let word = c.atomic_word.ensures in
    spelled _ _
    (record {
      opcode_is = word.opcode;
      funct3_is = word.funct3;
      funct5_is = word.funct5 ∙ c.funct5.ensures.value;
      order = word.order;
      rs2 = word.rs2;
      rs1 = word.rs1;
      rd = word.rd;
      without = λ is. word.rs2 ∙ c.requires.without is;
    })
