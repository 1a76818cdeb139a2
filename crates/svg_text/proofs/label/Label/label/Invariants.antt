use Rattle.std.proofs.Common.{◌≡◌, take}
use Rattle.svg_text.specs.Labels.{put_signs, signs_of}
use Rattle.svg_text.proofs.label.Label.label.Given as goal

-- the characters so far were put
abbrev pub invariant-loop-c : goal.invariant-loop-c
invariant-loop-c l = signs_of l.self ≡ put_signs (signs_of l.initial.self) (take l.c-index l.c-items)
