use Rattle.std.proofs.Common.{◌≡◌, ℕ, ◌≤◌, true, length}
use Rattle.shadow_fold.specs.declared.entry.Entry.{Entry}
use Rattle.multi_shadow.specs.Placed.{ArePlaced, LiesAt, is_wanted, bucket_of}
use Rattle.multi_shadow.proofs.places.prune_all.Given as goal

abbrev pub invariant-loop-head : goal.invariant-loop-head
invariant-loop-head l = record {
  placed : ArePlaced l.arena;
  heads : l.arena.heads ≡ l.fn.arena.heads;
  long : length l.arena.payloads ≡ length l.fn.arena.payloads;
  ended : (s : ℕ) (e : Entry) → LiesAt l.arena s e
      → LiesAt l.fn.arena s e × (is_wanted l.space e ≡ true → l.head ≤ bucket_of l.fn.arena.heads e.regime e.page e.kind);
  kept : (s : ℕ) (e : Entry) → LiesAt l.fn.arena s e
      → (is_wanted l.space e ≡ true → l.head ≤ bucket_of l.fn.arena.heads e.regime e.page e.kind) → LiesAt l.arena s e;
}
