use Rattle.std.proofs.Common.{take}
use Rattle.std.specs.List.{concat}
use Rattle.sha2.specs.Hashers.{Holds256}
use Rattle.alone_views.proofs.kernel_ram.FlatRam.digest.Given as goal

-- the frames so far are the message
abbrev pub invariant-loop-frame : goal.invariant-loop-frame
invariant-loop-frame l = Holds256 l.hasher (concat (take l.frame-index l.frames))
