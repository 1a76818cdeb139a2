-- The files that were handed in and not begun or appended to.
use Rattle.std.specs.Prelude.{ℕ, List, Option, option_map, String, Vec}
use Rattle.std.specs.BTreeMap.{BTreeMap, get_by_text}

-- the bytes of a name
abbrev pub handed_in : {A : Type 0} → BTreeMap (String A) (Vec ℕ A) → List ℕ → Option (List ℕ)
handed_in files name = option_map (λ v. v.items) (get_by_text files name)
