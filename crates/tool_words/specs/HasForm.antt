-- A command of `clap` that has a form, also as a subcommand.
use Rattle.std.specs.Prelude.{◌≡◌}
use Rattle.clap.specs.Words.{AddsSubcommand, App, app_of, with_subcommand}
use Rattle.clap.specs.declared.builder.command.Command.{Command}

-- what has it as one subcommand more has its form as one more
abbrev pub AddsForm : Command → App → Type 0
AddsForm command form =
    (above more : Command) → AddsSubcommand above command more → app_of more ≡ with_subcommand (app_of above) form.top

pub record HasForm (form : App) (command : Command) : Type 0 where
  pub own : app_of command ≡ form
  pub added : AddsForm command form
