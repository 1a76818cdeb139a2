use Rattle.std.proofs.Common.{◌≡◌, ◌+◌, drop}
use Rattle.cloak_model.specs.Memory.{with_bytes}
use Rattle.alone_views.proofs.kernel_ram.store_bytes.Given as goal

-- what is left of the bytes, stored after those that are stored already
abbrev pub invariant-loop-i : goal.invariant-loop-i
invariant-loop-i l = with_bytes l.frames (l.address + l.i) (drop l.i l.bytes) ≡ with_bytes l.fn.frames l.address l.bytes
