use Rattle.std.proofs.Common.{ap, true}
use Rattle.clap.specs.Words.{App}
use Rattle.clap.specs.Simple.{on_top}
use Rattle.tool_words.proofs.form.top.Goals as goal

pub returns : goal.returns
returns c =
    rw (c.arg_required_else_help.ensures, c.version.ensures, c.about.ensures)
    (ap (λ (a : App). on_top (λ s. record s { has_version = true; arg_required_else_help = true }) a) c.new.ensures.app)
