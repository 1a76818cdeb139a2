-- The walk's questions in parts, for proofs that go by cases: each is what the definition is, unfolded.
use Rattle.std.specs.Prelude.{ℕ}
use Rattle.cloak_model.specs.declared.access.Access.{Access}
use Rattle.cloak_model.specs.Asking.{Asking, answered, then_ask}
use Rattle.cloak_model.specs.Ask.{ask_word, or_ends}
use Rattle.cloak_model.specs.Walk.{Walk, FirstWord, first_word, second_word}

-- the word of level 0
abbrev pub ask_second : Access → ℕ → ℕ → Asking Walk
ask_second a at1 at0 w = then_ask (ask_word at0) (λ word. answered (second_word a at1 at0 word)) w

-- what follows the word of level 1
abbrev pub ask_after : Access → ℕ → FirstWord → Asking Walk
ask_after a at1 word w = or_ends word (ask_second a at1) w

-- the word of level 1
abbrev pub ask_first : Access → ℕ → Asking Walk
ask_first a at1 w = then_ask (ask_word at1) (λ word. ask_after a at1 (first_word a at1 word)) w
