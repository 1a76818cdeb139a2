-- A page out of its ciphertext.
use Rattle.std.specs.Prelude.{ℕ, List, ◌≡◌, length}
use Rattle.aes_block.specs.Bytes.{IsBytes}
use Rattle.cloak_model.specs.Chain.{cbc}

-- the one page that seals to these bytes
pub record IsPlain (key iv sealed plain : List ℕ) : Type 0 where
  pub long : length plain ≡ 4096
  pub seals_back : cbc key iv plain ≡ sealed
  pub only_one : (p : List ℕ) → IsBytes 4096 p → cbc key iv p ≡ sealed → plain ≡ p

-- the one page that seals to these bytes, and what is true of it
abbrev pub OpensTo : List ℕ → List ℕ → List ℕ → (List ℕ → Type 0) → Type 0
OpensTo key iv sealed P = (plain : List ℕ) × IsPlain key iv sealed plain × P plain
