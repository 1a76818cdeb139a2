use Rattle.std.proofs.Common.{◌≡◌, take}
use Rattle.svg_text.specs.Labels.{put_signs, signs_of}
use Rattle.svg_text.proofs.label.Label.text.Given as goal

-- the bytes so far were put
abbrev pub invariant-loop-byte : goal.invariant-loop-byte
invariant-loop-byte l = signs_of l.self ≡ put_signs (signs_of l.initial.self) (take l.byte-index l.byte-items)
