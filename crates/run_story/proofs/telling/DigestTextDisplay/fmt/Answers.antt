use Rattle.std.proofs.Output.{has_written_of_eq}
use Rattle.run_story.proofs.Digits.{digits_shown}
use Rattle.run_story.proofs.telling.DigestTextDisplay.fmt.Goals as goal

pub returns-clause-writes : goal.returns-clause-writes
returns-clause-writes g c = λ plain ok.
    has_written_of_eq _ _ _ _ _
    (digits_shown _ _ c.args.self.now.0 c.shown_text.ensures c.digest_digits-digits.ensures)
    (c.write_str.ensures.writes plain ok)
