-- How many values a list has.
use Rattle.std.proofs.Common.{◌≡◌, ℕ, List, [], ◌∷◌, length, refl, ap, suc}
use Rattle.toml.specs.declared.value.Value.{Value}
use Rattle.toml.specs.View.{view, items_view}
use Rattle.manifest.specs.Fields.{count_of}

pub count_of_view : (values : List Value) → count_of (items_view values) ≡ length values
count_of_view [] = refl
count_of_view (v ∷ vs) = ap suc (count_of_view vs)
