use Rattle.std.proofs.Common.{ℕ, ap, decimal}
use Rattle.kernel_report.proofs.PutFacts.{then, text_is}
use Rattle.run_trace.proofs.program_side.put_program_end.Goals as goal

pub returns : goal.returns
returns g c number turns s stands fits =
    then c.text-so_far.ensures
    (then (text_is c.decimal-so_far.ensures (ap (λ (n : ℕ). decimal n) (c.step.ensures number turns s stands fits))) c.text.ensures)
