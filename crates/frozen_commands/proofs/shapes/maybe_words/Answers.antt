use Rattle.std.proofs.Common.{subst, arith, IfSome}
use Rattle.std.proofs.lemmas.List.{take_all}
use Rattle.std.proofs.lemmas.List.Elements.{All-more}
use Rattle.std.specs.Prelude.{All}
use Rattle.cloak_model.specs.Record.{IsWord}
use Rattle.frozen_commands.proofs.shapes.maybe_words.Goals as goal

pub loop-word-preserved : goal.loop-word-preserved
loop-word-preserved c =
    All-more (λ word. IfSome word IsWord) c.args.words.now c.loop-word.word-index _ c.loop-word-test.true
    c.loop-word.invariant c.maybe_word.ensures

pub returns : goal.returns
returns c =
    subst (All (λ word. IfSome word IsWord)) (take_all c.loop-word.word-index c.args.words.now (omega (arith, c.loop-word-test.false)))
    c.loop-word.invariant
