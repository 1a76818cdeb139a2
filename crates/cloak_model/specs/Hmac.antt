-- HMAC-SHA-256: FIPS 198-1 (2008), section 4, with a block of 64 bytes.
use Rattle.std.specs.Prelude.{ℕ, ◌-◌, List, ◌++◌, length, map, replicate, bit_xor}
use Rattle.sha2.specs.Sha256.{sha256}

-- a key of at most 64 bytes, filled up to a block with zeros, each byte combined with a pad
abbrev pub padded : ℕ → List ℕ → List ℕ
padded pad key = map (λ b. bit_xor b pad) (key ++ replicate (64 - length key) 0)

-- the code of a text under a key of at most 64 bytes
unfoldable pub hmac : List ℕ → List ℕ → List ℕ
hmac key text = sha256 (padded 0x5c key ++ sha256 (padded 0x36 key ++ text))
