use Rattle.std.proofs.Common.{◌≡◌, [], length}
use Rattle.io_traits.proofs.Pieces.{PutsFront}
use Rattle.io_traits.proofs.sink.put_all.Given as goal

abbrev pub invariant-loop-rest : goal.invariant-loop-rest
invariant-loop-rest g l = record {
  puts :
      PutsFront (g.O.Sink.taken l.initial.out) (g.O.Sink.taken l.out) (g.O.Sink.faults l.initial.out)
      (g.O.Sink.faults l.out) l.bytes l.rest;
  untouched : l.bytes ≡ [] → l.out ≡ l.initial.out;
}

abbrev pub decreases-loop-rest : goal.decreases-loop-rest
decreases-loop-rest g l = length l.rest
