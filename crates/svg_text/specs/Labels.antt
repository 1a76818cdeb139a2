-- A short text of characters, which forgets what it has no room for.
use Rattle.std.specs.Prelude.{ℕ, List, ◌++◌, take}
use Rattle.svg_text.specs.declared.label.Label.{Label}

-- its characters
abbrev pub signs_of : Label → List ℕ
signs_of label = take label.count label.signs

-- characters with more of them, up to 400
unfoldable pub put_signs : List ℕ → List ℕ → List ℕ
put_signs signs more = take 400 (signs ++ more)
