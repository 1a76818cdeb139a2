use Rattle.std.proofs.Common.{List, inr, refl, subst, map, string_bytes}
use Rattle.tool_words.specs.ToolRequest.{ReadsTool}
use Rattle.tool_commands.proofs.WordFacts.{answers_read}
use Rattle.tool_commands.proofs.answering.obey.Goals as goal

pub returns-in-Ok : goal.returns-in-Ok
returns-in-Ok g c =
    let reads = subst (λ (words : List _). ReadsTool (map string_bytes words) c.in-Ok.read) c.as_slice.ensures.value c.in-Ok.ensures in
    answers_read _ c.in-Ok.read _ _ _ reads c.follow.ensures

pub returns-in-Err : goal.returns-in-Err
returns-in-Err g c = inr (inr (inr (record { line = c.refuse.ensures; untouched = refl })))
