-- What the tools take as words: one simple command of `clap` with seven subcommands, and help.
use Rattle.std.specs.Prelude.{ℕ, true, List, [], ◌∷◌, Some, codes, fold, pos}
use Rattle.clap.specs.Words.{App, Rule, new_app, new_rule, with_rule, with_subcommand}
use Rattle.clap.specs.Simple.{on_top}
use Rattle.clap.specs.declared.builder.action.ArgAction.TheVariants.{SetTrue}
use Rattle.clap.specs.declared.builder.value_parser.ValueParser.TheVariants.{Signed}
use Rattle.command_words.specs.Forms.{position}

-- an option with one value, which help calls by a name of its own
abbrev pub named_option : List ℕ → Rule
named_option name = record (new_rule name) { long = Some name; value_names = 1 }

-- an option whose value is a number, as a step, 0 to 2^32 - 1
abbrev pub number_option : List ℕ → Rule
number_option name = record (named_option name) { parser = Some (Signed (pos 0) (pos 4294967295)) }

-- an option whose value is the number of a program, 0 to 3
abbrev pub program_option : List ℕ → Rule
program_option name = record (named_option name) { parser = Some (Signed (pos 0) (pos 3)) }

-- an option with no value
abbrev pub flag : List ℕ → Rule
flag name = record (new_rule name) { long = Some name; action = Some SetTrue }

-- a command with these arguments
abbrev pub command_with : List ℕ → List Rule → App
command_with name rules = fold with_rule (new_app name) rules

abbrev pub asm_form : App
asm_form = command_with (codes "asm") (position (codes "TEXT") ∷ position (codes "OUT") ∷ [])

abbrev pub disasm_form : App
disasm_form = command_with (codes "disasm")
    (position (codes "FILE") ∷ named_option (codes "base") ∷ number_option (codes "segment") ∷ number_option (codes "program")
    ∷ [])

abbrev pub pack_form : App
pack_form = command_with (codes "pack") (position (codes "MANIFEST") ∷ position (codes "BUNDLE") ∷ [])

abbrev pub show_form : App
show_form = command_with (codes "show")
    (position (codes "RECORD") ∷ number_option (codes "from") ∷ number_option (codes "to")
    ∷ named_option (codes "only") ∷ flag (codes "counts") ∷ flag (codes "json") ∷ number_option (codes "follow") ∷ [])

abbrev pub trace_form : App
trace_form = command_with (codes "trace")
    (position (codes "BUNDLE") ∷ position (codes "RECORD") ∷ program_option (codes "program") ∷ number_option (codes "from")
    ∷ number_option (codes "to") ∷ number_option (codes "hart")
    ∷ named_option (codes "files") ∷ named_option (codes "secret") ∷ number_option (codes "counter") ∷ [])

abbrev pub draw_form : App
draw_form = command_with (codes "draw")
    (position (codes "BUNDLE") ∷ position (codes "RECORD") ∷ position (codes "OUT") ∷ [])

abbrev pub explain_form : App
explain_form = command_with (codes "explain") (position (codes "BUNDLE") ∷ position (codes "RECORD") ∷ [])

-- Without a command, help is the answer.
abbrev pub tools_top : App
tools_top = on_top (λ s. record s { has_version = true; arg_required_else_help = true }) (new_app (codes "tools"))

abbrev pub tools_form : App
tools_form = fold with_subcommand tools_top
    (asm_form.top ∷ disasm_form.top ∷ pack_form.top ∷ show_form.top ∷ trace_form.top ∷ draw_form.top ∷ explain_form.top ∷ [])
