-- The folder of a manifest.
use Rattle.std.proofs.Common.{◌≡◌, ◌∙◌, ℕ, List, [], ◌∷◌, ◌++◌, take, drop, sym, ap, inr, refl}
use Rattle.std.proofs.lemmas.List.{take-append-drop}
use Rattle.std.specs.Char.{encode_utf8}
use Rattle.std.specs.Str.Pattern.{SplitsAroundMatch, RFindsChar}
use Rattle.manifest.specs.Sources.{HasNoSlash, IsBeside}

-- a slash is one byte
slash : encode_utf8 47 ≡ 47 ∷ []
unfolding encode_utf8
slash = refl

pub beside_folder : (manifest front back name path : List ℕ) → SplitsAroundMatch (RFindsChar 47) manifest front back →
    path ≡ front ++ 47 ∷ name → IsBeside manifest name path
beside_folder manifest front back name path splits is =
    let i = splits.0 in
    let j = splits.1 in
    let parts : manifest ≡ take i manifest ++ 47 ∷ drop j manifest =
    sym (take-append-drop i manifest)
    ∙ ap (λ (x : List ℕ). take i manifest ++ x)
    (splits.2.1.split ∙ ap (λ (x : List ℕ). x ++ drop j manifest) slash) in
    let whole : manifest ≡ front ++ 47 ∷ back = rw (splits.3, splits.4) parts in
    let none : HasNoSlash back = rw splits.4 splits.2.0 in
    inr (front, back, whole, none, is)
