use Rattle.std.proofs.Common.{ℕ, ap, decimal}
use Rattle.kernel_report.proofs.PutFacts.{then, text_is}
use Rattle.run_trace.specs.KernelTrace.{halt_text}
use Rattle.run_trace.proofs.kernel_side.put_end.Goals as goal

pub returns : goal.returns
returns g c turns s stands =
    then c.text-so_far.ensures (then (text_is c.decimal-so_far.ensures (ap (λ (n : ℕ). decimal n) (c.step.ensures turns s stands)))
    (text_is c.put_halt.ensures (ap halt_text (c.is_halted.ensures turns s stands))))
