use Rattle.std.proofs.Common.{◌≡◌, ◌++◌, map, take, drop}
use Rattle.cloak_model.specs.Memory.{unless_written}
use Rattle.host_calls.specs.Written.{is_written}
use Rattle.host_calls.proofs.reservations.end_written.Given as goal

abbrev pub invariant-loop-word : goal.invariant-loop-word
invariant-loop-word l =
    l.words ≡ map (unless_written (is_written l.written)) (take l.word-index l.initial.words) ++ drop l.word-index l.initial.words
