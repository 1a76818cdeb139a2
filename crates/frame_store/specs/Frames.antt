-- Frames that stand in slots: one in which nothing was stored yet stands in slot 0, which has zeros.
use Rattle.std.specs.Prelude.{ℕ, zero, suc, ◌≡◌, ◌≢◌, ◌≤◌, ◌<◌, ◌+◌, List, [], ◌∷◌, length, map, get_or}
use Rattle.std.specs.List.{All}
use Rattle.cloak_base.specs.Pages.{zero_page}

-- the frames whose slots these are
abbrev pub in_slots : List (List ℕ) → List ℕ → List (List ℕ)
in_slots kept slots = map (λ s. get_or kept s zero_page) slots

-- no two frames stand in one slot but slot 0
unfoldable pub AreApart : List ℕ → Type 0
AreApart [] = Unit {0}
AreApart (zero ∷ slots) = AreApart slots
AreApart (suc s ∷ slots) = All (λ t. t ≢ suc s) slots × AreApart slots

-- how many frames stand in slot 0
unfoldable pub unstored : List ℕ → ℕ
unstored [] = 0
unstored (zero ∷ slots) = suc (unstored slots)
unstored (suc s ∷ slots) = unstored slots

-- the slots are as many as they have to be, and there is room for one for each frame
pub record AreSlots (kept : List (List ℕ)) (slots : List ℕ) (room : ℕ) : Type 0 where
  pub zeros : get_or kept 0 zero_page ≡ zero_page
  pub there : All (λ s. s < length kept) slots
  pub apart : AreApart slots
  pub many : length kept + unstored slots ≡ length slots + 1
  pub few : length slots ≤ 4096
  pub enough : length slots + 1 ≤ room
