-- The files that a table of names stands for.
use Rattle.std.specs.Prelude.{ℕ, map, String, string_bytes, Vec}
use Rattle.std.specs.BTreeMap.{BTreeMap}
use Rattle.std.specs.FinMap.{from_entries}
use Rattle.io_traits.specs.Memory.{Files}

abbrev pub files_of : {A : Type 0} → BTreeMap (String A) (Vec ℕ A) → Files
files_of m = from_entries (map (λ e. (string_bytes e.0, e.1.items)) m.entries)
