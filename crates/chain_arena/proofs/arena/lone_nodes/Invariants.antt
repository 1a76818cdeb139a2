use Rattle.std.proofs.Common.{◌≡◌, ◌<◌, ℕ, length, None}
use Rattle.chain_arena.specs.declared.node.Link.{Link}
use Rattle.chain_arena.specs.Nodes.{payload_of, next_of, previous_of}
use Rattle.chain_arena.proofs.arena.lone_nodes.Given as goal

abbrev pub invariant-loop-i : goal.invariant-loop-i
invariant-loop-i g l = record {
  long : length l.block ≡ l.count;
  next : (k : Link) (j : ℕ) → j < l.i → next_of k l.block j ≡ j;
  previous : (k : Link) (j : ℕ) → j < l.i → previous_of k l.block j ≡ j;
  empty : (j : ℕ) → payload_of l.block j ≡ None;
}
