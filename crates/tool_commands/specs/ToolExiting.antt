-- What the tools answer to a command line.
use Rattle.std.specs.Prelude.{List, ℕ, codes, map, string_bytes}
use Rattle.command_parts.specs.Outside.{Outside}
use Rattle.command_parts.specs.declared.status.Status.{Status}
use Rattle.command_parts.specs.declared.status.Status.TheVariants as status
use Rattle.tool_commands.specs.ToolSaying.{Says}
use Rattle.tool_commands.specs.ToolAnswering.{WordsAnswers}
use Rattle.tool_commands.specs.declared.line.CommandLine.{CommandLine}
use Rattle.tool_commands.specs.declared.line.CommandLine.TheVariants.{Taken, NotText, NoMemory}
use Rattle.command_parts.specs.Refusing.{LacksMemory}

abbrev pub not_text_line : List ℕ
not_text_line = codes "error: a word is not valid text\n"

-- what is answered to a command line
abbrev pub LineAnswers : {S O : Type 0} → CommandLine → Outside S O → Outside S O → Status → Type 0
LineAnswers (Taken words) before after answer = WordsAnswers (map string_bytes words.items) before after answer
LineAnswers NotText before after answer = Says not_text_line status.Usage before after answer
LineAnswers NoMemory before after answer = LacksMemory before after answer
