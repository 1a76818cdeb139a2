use Rattle.std.proofs.Common.{◌≡◌, ℕ, length, map, take}
use Rattle.cloak_model.specs.Opening.{numbers_below}
use Rattle.thread_context.specs.Recorded.{root_at}
use Rattle.joint_machine.proofs.freezing.roots_of.Given as goal

-- those of the spaces so far
abbrev pub invariant-loop-number : goal.invariant-loop-number
invariant-loop-number l = record {
  count : length l.all ≡ 8;
  told : take l.number l.all ≡ map (λ (space : ℕ). root_at l.roots (record { domain = l.domain; number = space })) (numbers_below l.number);
}
