use Rattle.std.proofs.Common.{◌≡◌, take}
use Rattle.std.specs.List.{flat_map}
use Rattle.cloak_model.specs.Bits.{word}
use Rattle.asm_text.proofs.assembling.flat_bytes.Given as goal

-- the words so far
abbrev pub invariant-loop-w : goal.invariant-loop-w
invariant-loop-w l = l.bytes.items ≡ flat_map word (take l.w-index l.words)
