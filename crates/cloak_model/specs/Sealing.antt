-- How pages are sealed: by chained AES, or, so that it can be said what a run would show under an ideal cipher, by a table
-- that has a page for each vector.
use Rattle.std.specs.Prelude.{ℕ, List, [], ◌∷◌, if◌then◌else◌}
use Rattle.std.specs.Str.{bytes_eq}
use Rattle.cloak_model.specs.Chain.{cbc}

pub data Sealing : Type 0 where
  Chained : Sealing
  Padded : List (List ℕ × List ℕ) → Sealing

-- the page that a table has for a vector; nothing if it has none
abbrev pub pad_in : List (List ℕ × List ℕ) → List ℕ → List ℕ
pad_in [] iv = []
pad_in (row ∷ rows) iv = if bytes_eq row.0 iv then row.1 else pad_in rows iv

-- what a page of these bytes is sealed to, by a key and a vector
abbrev pub sealed_by : Sealing → List ℕ → List ℕ → List ℕ → List ℕ
sealed_by Chained key iv bytes = cbc key iv bytes
sealed_by (Padded rows) key iv bytes = pad_in rows iv
