use Rattle.std.proofs.Common.{rules, ◌∙◌, map, string_bytes}
use Rattle.clap.specs.Words.{app_of, fault_of, found_of, matches_of, rows_of}
use Rattle.command_words.proofs.FoundFacts.{found, refused, simple_of_free}
use Rattle.command_words.proofs.found.found_in.Goals as goal

pub returns-in-Ok : goal.returns-in-Ok
returns-in-Ok c =
    let form = app_of c.args.command in
    let words = map string_bytes c.args.words.now in
    found form words (rows_of (found_of c.in-Ok.matches)) (c.in-Ok.ensures.kinds c.requires.simple)
    (c.in-Ok.ensures.matches (simple_of_free form c.requires.simple)).0

pub returns-else-eq : goal.returns-else-eq
returns-else-eq c =
    let form = app_of c.args.command in
    let words = map string_bytes c.args.words.now in
    refused c.in-Err.error (fault_of form words) (matches_of form words) (c.in-Err.ensures.kinds c.requires.simple)
    (λ memory. let is_memory = c.kind.ensures ∙ memory in search rules)
