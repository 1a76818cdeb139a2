-- What a step makes of a host call on the disk that is told of it.
use Rattle.std.specs.Prelude.{ℕ, ◌≡◌, ◌<◌, List, length, slice_index_or, [], Some, if◌then◌else◌}
use Rattle.cloak_base.specs.Registers.{register}
use Rattle.cloak_model.specs.Asking.{Told}
use Rattle.cloak_model.specs.Hart.{Hart}
use Rattle.cloak_model.specs.HostCalls.{SteppedKernel, block_at, with_block}
use Rattle.cloak_model.specs.KernelStep.{kernel_step}
use Rattle.cloak_model.specs.Memory.{Seen, filled}
use Rattle.cloak_model.specs.World.{Flat}
use Rattle.replayed_run.specs.Leading.{disk_call}
use Rattle.replayed_run.specs.declared.frames.DiskCall.{DiskCall}

-- The block of the call was moved, and nothing else changed: a frame went to it, or it came into a frame.
pub record IsMade (call : DiskCall) (disk : List ℕ) (seen : Seen) (told : Told SteppedKernel) : Type 0 where
  pub on_disk : told.answer.disk
      ≡ (if call.is_write then with_block disk call.block (slice_index_or seen.ram call.frame []) else disk)
  pub in_frames : told.world
      ≡ (if call.is_write then Flat seen else Flat (filled call.frame (block_at disk call.block) seen))

-- Of every hart with its registers, over every disk and whatever the kernel sees.
abbrev pub ToldCallsAreMade : Type 0
ToldCallsAreMade =
    (h : Hart) (disk : List ℕ) (seen : Seen) (call : DiskCall) → 10 < length h.regs →
    disk_call seen.ram h ≡ Some call →
    register (kernel_step h disk (Flat seen)).answer.hart.regs 10 ≡ 0 →
    IsMade call disk seen (kernel_step h disk (Flat seen))
