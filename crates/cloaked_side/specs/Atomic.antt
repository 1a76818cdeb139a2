-- Atomic accesses of a side.
use Rattle.std.specs.Prelude.{ℕ, Result, Ok, Err}
use Rattle.cloak_model.specs.declared.access.Access.{Access}
use Rattle.cloak_model.specs.Ask.{ask_led, ask_value}
use Rattle.cloak_model.specs.Asking.{Asking, answered, then_ask}
use Rattle.cloak_model.specs.Walk.{Walk}
use Rattle.cloaked_side.specs.declared.atomic.LedWord.{LedWord}

-- the word to which an access was led, or its fault
abbrev pub word_there : ℕ → Access → Walk → Asking (Result LedWord ℕ)
word_there satp a (Err cause) w = answered (Err cause) w
word_there satp a (Ok walked) w =
    then_ask (ask_value satp a walked 4) (λ word. answered (Ok (record { pa = walked.pa; word = word }))) w

-- the word to which an access leads: each atomic access begins so
abbrev pub ask_led_word : ℕ → Access → Asking (Result LedWord ℕ)
ask_led_word satp a w = then_ask (ask_led satp a) (word_there satp a) w
