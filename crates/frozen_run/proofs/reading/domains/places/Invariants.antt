use Rattle.std.proofs.Common.{◌≡◌, length, vec_capacity}
use Rattle.frozen_run.proofs.reading.domains.places.Given as goal

abbrev pub invariant-loop : goal.invariant-loop
invariant-loop l = record {
  count : length l.places.items ≡ l.counter;
  room : vec_capacity l.places ≡ l.n;
}
