use Rattle.std.proofs.Common.{◌∙◌, ap, ℕ, List, Option}
use Rattle.kernel_report.proofs.PutFacts.{then, text_is}
use Rattle.step_lines.specs.Columns.{word_columns, word_gap}
use Rattle.step_lines.specs.Effects.{joined}
use Rattle.step_lines.specs.Endings.{step_effects}
use Rattle.step_lines.proofs.lines.put_hart_step.Goals as goal

pub returns : goal.returns
returns g c =
    let done : List (List ℕ) = step_effects c.args.a.now c.args.now.now c.args.frames.now c.args.ending in
    then c.put_front-so_far.ensures (then c.put_mode_column-so_far.ensures (then c.hexadecimal-so_far.ensures
    (then (text_is c.put_word_columns-at.ensures.text
    (ap (λ (o : Option ℕ). word_columns o c.args.a.now.sight.pc) c.executed_word.ensures))
    (then (text_is c.put_step_effects-at.ensures.text
    (ap (λ (n : ℕ). joined n done) (c.put_word_columns-at.ensures.gap
    ∙ ap (λ (o : Option ℕ). word_gap o c.args.a.now.sight.pc) c.executed_word.ensures)))
    c.text.ensures))))
