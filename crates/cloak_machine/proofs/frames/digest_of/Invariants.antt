use Rattle.std.proofs.Common.{◌≡◌, length, take}
use Rattle.std.specs.List.{concat}
use Rattle.sha2.specs.Hashers.{Holds256}
use Rattle.cloak_machine.proofs.frames.digest_of.Given as goal

-- the frames so far are the message, and all are as they were
abbrev pub invariant-loop-f : goal.invariant-loop-f
invariant-loop-f l = record {
  frames : l.memory.pager.frames ≡ l.fn.memory.pager.frames;
  rights : l.memory.pager.rights ≡ l.fn.memory.pager.rights;
  count : l.f-end ≡ length l.fn.memory.pager.frames;
  hashed : Holds256 l.hasher (concat (take l.f l.fn.memory.pager.frames));
}
