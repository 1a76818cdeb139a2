use Rattle.std.proofs.Common.{◌∙◌, refl, string_bytes}
use Rattle.manifest.specs.Sources.{TextReads}
use Rattle.manifest.proofs.sources.words_of.Goals as goal

pub returns-in-Ok-clause-read : goal.returns-in-Ok-clause-read
unfolding TextReads
returns-in-Ok-clause-read c = c.in-Ok.ensures

pub returns-clause-read : goal.returns-clause-read
unfolding TextReads
returns-clause-read c = record {
  words = c.in-Err.fault;
  shown = string_bytes c.in_ok-text.text;
  is = refl;
  is_shown = λ text. c.in_ok-text.ensures.ok ∙ c.shown_text.ensures text;
  cause = c.in-Err.ensures;
  is_no_want = λ same. (cc (c.is_want.ensures.1 same));
}
