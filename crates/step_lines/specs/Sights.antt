-- What a line tells of a hart outside.
use Rattle.std.specs.Prelude.{ℕ, slice_index}
use Rattle.cloak_model.specs.Csr.{csr_words}
use Rattle.cloak_model.specs.Hart.{Hart}
use Rattle.step_lines.specs.declared.sight.HartSight.{HartSight}

-- mode, program counter, registers, and control and status registers in the order of the report
abbrev pub sight_of : Hart → HartSight
sight_of h = record { mode = h.mode; pc = h.pc; regs = h.regs; csrs = csr_words h.csrs }

-- scause and stval, the sixth and the seventh
abbrev pub cause_in : HartSight → ℕ
cause_in h = slice_index h.csrs 5

abbrev pub value_in : HartSight → ℕ
value_in h = slice_index h.csrs 6
