use Rattle.std.proofs.Common.{◌≡◌, ℕ, ◌<◌, length, slice_get, Some}
use Rattle.frame_store.proofs.rights.store.FrameStore.open.Given as goal

abbrev pub invariant-loop-i : goal.invariant-loop-i
invariant-loop-i l = record {
  count : length l.rights.items ≡ l.i;
  named : (k : ℕ) → k < l.i → slice_get l.rights.items k ≡ Some (record { 0 = k });
}
