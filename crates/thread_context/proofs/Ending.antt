-- The contexts that are left when one ends.
use Rattle.std.proofs.Common.{◌≡◌, ◌<◌, ◌+◌, ◌-◌, ◌∙◌, ℕ, suc, Bool, true, false, ◌||◌, List, ◌∷◌, ◌++◌, Option, None, refl, ap, length, take, drop, add-one, arith, length-drop}
use Rattle.std.proofs.lemmas.List.{set_split}
use Rattle.std.proofs.lemmas.List.Folds.{list_any-append}
use Rattle.std.proofs.Math.Seq.{take_all}
use Rattle.std.specs.List.{list_any}
use Rattle.cloak_model.specs.Contexts.{Context, end_at}
use Rattle.cloak_model.specs.Fork.{is_of_space}

-- those before the slot, and those after it
split : (space slot : ℕ) (contexts : List (Option Context)) → slot < length contexts
    → list_any (is_of_space space) (end_at slot contexts) ≡ (list_any (is_of_space space) (take slot contexts) || list_any (is_of_space space) (take (length contexts - (slot + 1)) (drop (slot + 1) contexts)))
split space slot contexts inside =
    ap (list_any (is_of_space space)) (set_split contexts slot None inside)
    ∙ list_any-append (is_of_space space) (take slot contexts) (None ∷ drop (suc slot) contexts)
    ∙ rw (add-one, take_all (length contexts - suc slot) (drop (suc slot) contexts) (omega (arith, length-drop (suc slot) contexts))) refl

pub list_any-if_before : (space slot : ℕ) (contexts : List (Option Context)) (before : Bool) → slot < length contexts
    → before ≡ list_any (is_of_space space) (take slot contexts) → before ≡ true → before ≡ list_any (is_of_space space) (end_at slot contexts)
list_any-if_before space slot contexts before inside is found = rw (split space slot contexts inside, ← is, found) refl

pub list_any-if_behind : (space slot : ℕ) (contexts : List (Option Context)) (before behind : Bool) → slot < length contexts
    → before ≡ list_any (is_of_space space) (take slot contexts) → before ≡ false → behind ≡ list_any (is_of_space space) (take (length contexts - (slot + 1)) (drop (slot + 1) contexts)) → behind ≡ list_any (is_of_space space) (end_at slot contexts)
list_any-if_behind space slot contexts before behind inside is none rest = rw (split space slot contexts inside, ← is, none) rest
