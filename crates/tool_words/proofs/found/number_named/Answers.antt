use Rattle.std.proofs.Common.{◌∙◌, ap, ℕ, List, Option}
use Rattle.std.specs.Prelude.{option_and_then}
use Rattle.std.specs.Str.Parse.{ParsesUnsigned, ExplainsUnsignedError, HasUnsignedDigitsIfOk}
use Rattle.clap.specs.Words.{found_of, one_text}
use Rattle.clap.proofs.WalkLemmas.{one_text-rows}
use Rattle.tool_words.specs.ToolCommand.{number_in}
use Rattle.tool_words.proofs.ToolFacts.{number_read}
use Rattle.tool_words.proofs.found.number_named.Goals as goal

pub returns : goal.returns
returns c =
    let found = found_of c.args.matches.now in
    number_read (λ bs r. ParsesUnsigned 32 10 bs r × ExplainsUnsignedError 10 bs r × HasUnsignedDigitsIfOk bs r)
    (one_text found c.args.name.now) c.get_one.result (λ t x p. p.0) c.get_one.ensures.none c.get_one.ensures.value
    ∙ ap (λ (o : Option (List ℕ)). option_and_then number_in o) (one_text-rows found c.args.name.now)
