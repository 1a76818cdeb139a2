-- The registers of a hart (RISC-V unprivileged manual 20191213, 2.1): 32 words, of which register 0 is hardwired to 0.
use Rattle.std.specs.Prelude.{ℕ, ◌==◌, List, replicate, slice_index, slice_set, if◌then◌else◌}

-- all registers are 0
unfoldable pub zero_registers : List ℕ
zero_registers = replicate 32 0

-- the word of register i: x0 to x31
abbrev pub register : List ℕ → ℕ → ℕ
register registers i = slice_index registers i

-- the registers after a write, which register 0 does not take
abbrev pub with_register : List ℕ → ℕ → ℕ → List ℕ
with_register registers i v = if i == 0 then registers else slice_set registers i v
