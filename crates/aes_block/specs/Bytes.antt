-- A byte is a number below 256; keys, blocks and pages are lists of them.
use Rattle.std.specs.Prelude.{ℕ, List, length, All, ◌≡◌, ◌<◌}
use Rattle.std.specs.List.{range_with_len}

-- n bytes
pub record IsBytes (n : ℕ) (s : List ℕ) : Type 0 where
  pub long : length s ≡ n
  pub bytes : All (λ b. b < 256) s

-- every byte, from 0 to 255
unfoldable pub each_byte : List ℕ
each_byte = range_with_len 0 256
