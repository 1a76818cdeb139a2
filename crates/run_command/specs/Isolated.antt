-- A run is isolated at every step: after its opening and after each step the kernel's part, and each program's, is that
-- of a machine that ran alone and read only its own half of what was written up to there.
use Rattle.std.specs.Prelude.{ℕ, ◌≡◌, ◌≤◌, length, slice_get, Some}
use Rattle.cloak_model.specs.declared.image.Bundle.{Bundle}
use Rattle.cloak_model.specs.declared.image.Program.{Program}
use Rattle.cloak_model.specs.Beginning.{Beginning}
use Rattle.cloak_model.specs.DomainAlone.{domain_alone_from, part_from}
use Rattle.cloak_model.specs.Halves.{inward_half, outward_half}
use Rattle.cloak_model.specs.KernelAlone.{kernel_alone}
use Rattle.cloak_model.specs.Parts.{kernel_part, domain_part}
use Rattle.cloak_model.specs.Run.{Run}
use Rattle.domain_isolation.specs.Isolation.{HasDomain}
use Rattle.kernel_isolation.specs.Isolation.{HasKernel, items_until, joint_until}

-- It is so after the opening and the first n steps.
pub record IsIsolatedAfter (b : Bundle) (from : Beginning) (r : Run) (n : ℕ) : Type 0 where
  pub kernel : HasKernel (kernel_alone b.kernel (outward_half (items_until n r))) (kernel_part (joint_until n r))
  pub programs : (d : ℕ) (p : Program) → slice_get b.programs d ≡ Some p →
      HasDomain (domain_alone_from d b.kernel.schedule (part_from d from p) (inward_half d (items_until n r)))
      (domain_part (joint_until n r) d)

abbrev pub IsIsolated : Bundle → Beginning → Run → Type 0
IsIsolated b from r = (n : ℕ) → n ≤ length r.turns → IsIsolatedAfter b from r n
