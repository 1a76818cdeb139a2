-- What a sentence shows.
use Rattle.std.specs.Prelude.{ℕ, List, option_map}
use Rattle.command_words.specs.Request.{asked_of}
use Rattle.status_sentence.specs.declared.Sentence.{Sentence}
use Rattle.status_sentence.specs.Sentence.{sentence}

abbrev pub sentence_text : Sentence → List ℕ
sentence_text s = sentence (option_map asked_of s.request) s.status
