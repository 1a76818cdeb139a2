use Rattle.std.proofs.Common.{◌≡◌, ◌∙◌, ℕ, ◌+◌, ◌-◌, take, drop, ap, arith}
use Rattle.frozen_run.proofs.reading.fields.read_page.Goals as goal

pub returns-clause-value : goal.returns-clause-value
returns-clause-value c =
    let size : c.args.at + 4096 - c.args.at ≡ 4096 = omega arith in
    c.copy_from_slice.ensures.after ∙ ap (λ (k : ℕ). take k (drop c.args.at c.args.body.now)) size
