use Rattle.std.proofs.Common.{◌∙◌, ap, ℕ, List}
use Rattle.std.specs.Int.{w32, to_le_bytes}
use Rattle.rand_chacha.specs.ChaCha.{ChaCha, next_word}
use Rattle.io_traits.proofs.Words.{four_words, spelled}
use Rattle.io_traits.proofs.stream.draw_words.Goals as goal

pub returns : goal.returns
returns c =
    let pair : List ℕ → List ℕ × ChaCha = λ bytes. (bytes, c.next_word-4.new.self) in
    ap pair
    (spelled _ _ _ _ _ _ _ _ c.to_le_bytes-a.ensures c.to_le_bytes-b.ensures c.to_le_bytes-c.ensures
    c.to_le_bytes-d.ensures)
    ∙ four_words (to_le_bytes w32) (next_word 10) _ _ _ _ _ _ _ _ _ c.next_word.ensures c.next_word-2.ensures
    c.next_word-3.ensures c.next_word-4.ensures
