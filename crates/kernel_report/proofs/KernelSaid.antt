-- Lines that say what a part of the kernel is are its lines of the report.
use Rattle.std.proofs.Common.{◌≡◌, ℕ, List, ◌++◌, length, codes, decimal}
use Rattle.std.specs.List.{concat}
use Rattle.sha2.specs.Sha256.{sha256}
use Rattle.cloak_model.specs.Hart.{Hart}
use Rattle.cloak_model.specs.Parts.{KernelPart}
use Rattle.cloak_model.specs.Report.{kernel_lines, harts_lines}
use Rattle.kernel_report.specs.KernelText.{kernel_text, digest_text}
use Rattle.kernel_report.specs.declared.kernel.KernelLines.{KernelLines}

-- the lines of console, memory, disk and harts, by what they say
texts : (count : ℕ) (console ram disk : List ℕ) (harts : List Hart) → List ℕ
texts count console ram disk harts =
    (codes "console " ++ (decimal count ++ digest_text (codes " ") console)) ++
    (digest_text (codes "ram ") ram ++ (digest_text (codes "disk ") disk ++ harts_lines 0 harts))

-- what lines say of the kernel's part
pub record IsSaid (lines : KernelLines) (k : KernelPart) : Type 0 where
  pub count : lines.console_length ≡ length k.console
  pub console : lines.console ≡ sha256 k.console
  pub ram : lines.ram ≡ sha256 (concat k.ram)
  pub disk : lines.disk ≡ sha256 k.disk
  pub harts : lines.harts.items ≡ k.harts

pub kernel_text-is : (lines : KernelLines) (k : KernelPart) → IsSaid lines k → kernel_text lines ≡ kernel_lines k
unfolding texts
kernel_text-is lines k said i = texts (said.count i) (said.console i) (said.ram i) (said.disk i) (said.harts i)
