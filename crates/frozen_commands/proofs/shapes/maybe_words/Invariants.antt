use Rattle.std.proofs.Common.{take, IfSome}
use Rattle.std.specs.Prelude.{All}
use Rattle.cloak_model.specs.Record.{IsWord}
use Rattle.frozen_commands.proofs.shapes.maybe_words.Given as goal

abbrev pub invariant-loop-word : goal.invariant-loop-word
invariant-loop-word l = All (λ word. IfSome word IsWord) (take l.word-index l.words)
