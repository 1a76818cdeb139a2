use Rattle.std.specs.Int.{w32, to_be_bytes}
use Rattle.std.proofs.Output.{has_written_of_eq}
use Rattle.run_story.proofs.Digits.{digits_shown}
use Rattle.run_story.proofs.telling.write_word.Goals as goal

pub returns : goal.returns
returns g c = λ plain ok.
    has_written_of_eq _ _ _ _ _
    (digits_shown _ _ (to_be_bytes w32 c.args.word) c.shown_text.ensures c.word_digits-digits.ensures)
    (c.write_str.ensures.writes plain ok)
