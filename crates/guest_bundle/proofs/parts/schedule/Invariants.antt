use Rattle.std.proofs.Common.{◌≡◌, ◌-◌, ◌≤◌, length}
use Rattle.guest_bundle.specs.Reading.{turn_at, parts_at}
use Rattle.guest_bundle.proofs.Loop.{with_front}
use Rattle.guest_bundle.proofs.parts.schedule.Given as goal

abbrev pub invariant-loop : goal.invariant-loop
invariant-loop l = record {
  so_far : with_front l.turns.items (parts_at (turn_at l.harts l.file) (λ _. 1) (l.n - l.counter) l.at) ≡ parts_at
      (turn_at l.harts l.file) (λ _. 1) l.n l.from;
  within : l.at ≤ length l.file;
}
