-- Texts with two names in them.
use Rattle.std.proofs.Common.{◌≡◌, ◌∙◌, ◌++◌, ℕ, List, append_assoc}

pub joined : (a b m s e : List ℕ) → a ++ b ++ m ++ s ++ e ≡ a ++ (b ++ (m ++ (s ++ e)))
joined a b m s e =
    append_assoc (a ++ b ++ m) s e ∙ append_assoc (a ++ b) m (s ++ e) ∙ append_assoc a b (m ++ (s ++ e))
