-- What was written of RAM, of which reservations end.
use Rattle.std.specs.Prelude.{ℕ, ◌==◌, Bool}
use Rattle.cloak_base.specs.Constants.{frame_of}
use Rattle.cloak_model.specs.Memory.{word_at}
use Rattle.host_calls.specs.declared.reservations.Written.{Written}
use Rattle.host_calls.specs.declared.reservations.Written.TheVariants.{Word, Whole}

-- the word at an address is or has what was written
abbrev pub is_written : Written → ℕ → Bool
is_written (Word pa) word = word == word_at pa
is_written (Whole f) word = frame_of word == f.0
