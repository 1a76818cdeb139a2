-- The texts of the kernel's lines.
use Rattle.std.specs.Prelude.{ℕ, List, ◌++◌, codes, decimal}
use Rattle.hex.specs.Hex.{encode_lower}
use Rattle.cloak_model.specs.Report.{harts_lines}
use Rattle.kernel_report.specs.declared.kernel.KernelLines.{KernelLines}

-- a line of a name and a digest
abbrev pub digest_text : List ℕ → List ℕ → List ℕ
digest_text name digest = name ++ (encode_lower digest ++ codes "\n")

-- the console's line
abbrev pub console_text : KernelLines → List ℕ
console_text lines = codes "console " ++ (decimal lines.console_length ++ digest_text (codes " ") lines.console)

-- the lines of console, memory, disk and harts
abbrev pub kernel_text : KernelLines → List ℕ
kernel_text lines =
    console_text lines ++ (digest_text (codes "ram ") lines.ram ++ (digest_text (codes "disk ") lines.disk
    ++ harts_lines 0 lines.harts.items))
