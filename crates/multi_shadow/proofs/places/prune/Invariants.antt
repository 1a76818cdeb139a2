use Rattle.std.proofs.Common.{◌≡◌, ℕ, true, false, length, Some}
use Rattle.chain_arena.specs.Arena.{chain_at, chain_rest}
use Rattle.chain_arena.specs.Chains.{IsMemberOf}
use Rattle.shadow_fold.specs.declared.entry.Entry.{Entry}
use Rattle.multi_shadow.specs.Placed.{ArePlaced, LiesAt, is_hit}
use Rattle.multi_shadow.proofs.places.prune.Given as goal

abbrev pub invariant-loop-at : goal.invariant-loop-at
invariant-loop-at l = record {
  placed : ArePlaced l.arena;
  heads : l.arena.heads ≡ l.fn.arena.heads;
  long : length l.arena.payloads ≡ length l.fn.arena.payloads;
  inside : (s : ℕ) → l.at ≡ Some s → IsMemberOf s (chain_at l.arena l.c l.head);
  left : (s : ℕ) (e : Entry) → LiesAt l.arena s e → is_hit l.fn.arena.heads l.c l.head l.space e ≡ true → IsMemberOf s (chain_rest l.at (chain_at l.arena l.c l.head));
  fewer : (s : ℕ) (e : Entry) → LiesAt l.arena s e → LiesAt l.fn.arena s e;
  kept : (s : ℕ) (e : Entry) → LiesAt l.fn.arena s e → is_hit l.fn.arena.heads l.c l.head l.space e ≡ false → LiesAt l.arena s e;
}

abbrev pub decreases-loop-at : goal.decreases-loop-at
decreases-loop-at l = length (chain_rest l.at (chain_at l.arena l.c l.head))
