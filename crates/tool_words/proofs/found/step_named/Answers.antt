use Rattle.std.proofs.Common.{◌∙◌, ap, ℕ, List, Option}
use Rattle.std.specs.Option.{option_map_or}
use Rattle.std.specs.Str.Parse.{ParsesUnsigned, ExplainsUnsignedError, HasUnsignedDigitsIfOk}
use Rattle.clap.specs.Words.{found_of, one_text}
use Rattle.clap.proofs.WalkLemmas.{one_text-rows}
use Rattle.tool_words.specs.ToolCommand.{step_or}
use Rattle.tool_words.proofs.ToolFacts.{step_read}
use Rattle.tool_words.proofs.found.step_named.Goals as goal

pub returns : goal.returns
returns c =
    let found = found_of c.args.matches.now in
    let otherwise = c.args.otherwise in
    c.unwrap_or.ensures
    ∙ (step_read (λ bs r. ParsesUnsigned 32 10 bs r × ExplainsUnsignedError 10 bs r × HasUnsignedDigitsIfOk bs r)
    (one_text found c.args.name.now) c.get_one.result otherwise (λ t x p. p.0) c.get_one.ensures.none c.get_one.ensures.value
    ∙ ap (λ (o : Option (List ℕ)). option_map_or (step_or otherwise) o otherwise) (one_text-rows found c.args.name.now))
