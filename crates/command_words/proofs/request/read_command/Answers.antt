use Rattle.clap.specs.Words.{app_of}
use Rattle.command_words.proofs.FormFacts.{form_simple}
use Rattle.command_words.proofs.request.read_command.Goals as goal

pub found_in-requires : goal.found_in-requires
found_in-requires c = record {
  simple = form_simple c.args.command (app_of c.in_ok-form_of.field-0) c.in_ok-form_of.ensures;
}
