use Rattle.std.proofs.Common.{◌≡◌, ◌<◌, ◌+◌, ◌-◌, ℕ, length}
use Rattle.aes_block.specs.State.{mix_columns}
use Rattle.aes_block.specs.RoundKey.{round_key}
use Rattle.aes_block.specs.KeySchedule.{key_at_place}
use Rattle.aes_block.proofs.cipher.KeySchedule.new.Given as goal

abbrev pub invariant-loop-j : goal.invariant-loop-j
invariant-loop-j l = record {
  count : length l.keys ≡ 11;
  made : (k : ℕ) → k < l.j + 1 → key_at_place l.keys k ≡ round_key l.key k;
}

abbrev pub invariant-loop-i : goal.invariant-loop-i
invariant-loop-i l = record {
  count : length l.inverse_keys ≡ 9;
  made : (k : ℕ) → k < l.i → mix_columns (key_at_place l.inverse_keys k) ≡ round_key l.key (9 - k);
}
