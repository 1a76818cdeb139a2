-- The kinds of names, one name more.
use Rattle.std.proofs.Common.{◌≡◌, ℕ, ◌<◌, List, [], ◌∷◌, map, fold, drop, drop-cons, suc, length, get_or, refl, sym, ap, ◌∙◌, Option, Some, None, Bor}
use Rattle.std.specs.Prelude.{option_map}
use Rattle.record_text.specs.declared.kinds.Kinds.{Kinds}
use Rattle.tool_commands.specs.KindNames.{joined_kinds, kinds_named, with_name}

-- once a name is that of no kind, there are none
pub none_stays : (names : List (List ℕ)) → fold with_name None names ≡ None
none_stays [] = refl
none_stays (name ∷ names) = none_stays names

pub with_unnamed : (kinds : Kinds) (name : List ℕ) (names : List (List ℕ)) → None ≡ kinds_named name →
    fold with_name (Some kinds) (name ∷ names) ≡ None
with_unnamed kinds name names unnamed =
    ap (λ (k : Option Kinds). fold with_name (option_map (joined_kinds kinds) k) names) (sym unnamed) ∙ none_stays names

-- the name at a place is that of no kind
pub unnamed_at : (names : List (Bor (List ℕ))) (i : ℕ) (d : Bor (List ℕ)) (kinds : Kinds) (whole : Option Kinds) →
    i < length names → None ≡ kinds_named (get_or names i d).now →
    fold with_name (Some kinds) (map (λ name. name.now) (drop i names)) ≡ whole → None ≡ whole
unnamed_at names i d kinds whole inside unnamed so_far =
    let rest = map (λ (name : Bor (List ℕ)). name.now) (drop (suc i) names) in
    let split : map (λ (name : Bor (List ℕ)). name.now) (drop i names)
    ≡ (get_or names i d).now ∷ rest =
    ap (map (λ (name : Bor (List ℕ)). name.now)) (drop-cons names i d inside) in
    sym (with_unnamed kinds (get_or names i d).now rest unnamed) ∙ (ap (fold with_name (Some kinds)) (sym split) ∙ so_far)
