-- The commands are simple, and their arguments have no rules on one another.
use Rattle.std.proofs.Common.{◌≡◌, ◌∙◌, true, false, refl, ap, ap₂}
use Rattle.clap.specs.Words.{App, Rule, app_of, is_simple_and_free, rule_of, with_rule}
use Rattle.clap.specs.Built.{AddsArg}
use Rattle.clap.specs.declared.builder.arg.Arg.{Arg}
use Rattle.clap.specs.declared.builder.command.Command.{Command}
use Rattle.command_words.specs.Forms.{form_of}
use Rattle.command_words.specs.declared.command_name.CommandName.{CommandName}
use Rattle.command_words.specs.declared.command_name.CommandName.TheVariants.{Run, View, Solo, Gen, Demo, Stats, Upgrade, Store, Freeze, Thaw}

-- a command with one argument more
pub with_more : {command more : Command} {argument : Arg} {form : App} {rule : Rule} → AddsArg command argument more →
    argument.global ≡ false → rule_of argument ≡ rule → app_of command ≡ form → app_of more ≡ with_rule form rule
with_more adds local same before = adds.shape local ∙ ap₂ with_rule before same

simple : (command : CommandName) → is_simple_and_free (form_of command) ≡ true
simple Run = refl
simple View = refl
simple Solo = refl
simple Gen = refl
simple Demo = refl
simple Stats = refl
simple Upgrade = refl
simple Store = refl
simple Freeze = refl
simple Thaw = refl

pub form_simple : (command : CommandName) (form : App) → form ≡ form_of command → is_simple_and_free form ≡ true
form_simple command form same = ap (λ a. is_simple_and_free a) same ∙ simple command
