use Rattle.std.proofs.Common.{◌∙◌, ap, ℕ, List, Option}
use Rattle.kernel_report.proofs.PutFacts.{then, text_is}
use Rattle.step_lines.specs.Columns.{word_columns, word_gap}
use Rattle.step_lines.specs.Contexts.{context_effects}
use Rattle.step_lines.specs.Effects.{joined}
use Rattle.step_lines.proofs.context_lines.put_context_step.Goals as goal

pub returns : goal.returns
returns g c =
    let done : List (List ℕ) = context_effects c.args.a.now c.args.answer c.args.now.now c.args.value in
    then c.put_front-so_far.ensures (then c.put_context_column-so_far.ensures (then c.hexadecimal-so_far.ensures
    (then (text_is c.put_word_columns-at.ensures.text
    (ap (λ (o : Option ℕ). word_columns o c.args.a.now.sight.pc) c.word_meant.ensures))
    (then (text_is c.put_context_effects-at.ensures.text
    (ap (λ (n : ℕ). joined n done) (c.put_word_columns-at.ensures.gap
    ∙ ap (λ (o : Option ℕ). word_gap o c.args.a.now.sight.pc) c.word_meant.ensures)))
    c.text.ensures))))
