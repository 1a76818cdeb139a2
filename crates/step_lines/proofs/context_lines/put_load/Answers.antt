use Rattle.std.proofs.Common.{ℕ, ap}
use Rattle.kernel_report.proofs.PutFacts.{then, text_is}
use Rattle.step_lines.specs.Changes.{value_text}
use Rattle.step_lines.proofs.context_lines.put_load.Goals as goal

pub returns : goal.returns
returns g c =
    then c.text-so_far.ensures
    (text_is c.put_value.ensures (ap (λ (n : ℕ). value_text c.args.r.now.width n) c.loaded_value-value.ensures))
