use Rattle.std.proofs.Common.{◌-◌, ℕ, take, drop, ap, ◌∙◌, arith}
use Rattle.record_reader.proofs.Filled.{from_behind}
use Rattle.record_reader.proofs.ahead.Ahead.from.Goals as goal

pub returns : goal.returns
returns c =
    ap (λ (first : ℕ). take (c.args.self.now.count - first) (drop first c.args.self.now.bytes)) c.min-first.ensures
    ∙ from_behind c.args.self.now c.args.at (omega (arith, c.if-at-self.false))
