use Rattle.std.proofs.Common.{arith, ◌+◌, ◌-◌}
use Rattle.std.proofs.lemmas.Nat.{and_mask, one_shl}
use Rattle.rv_isa.proofs.fields.bits.Goals as goal

pub returns-clause-value : goal.returns-clause-value
returns-clause-value c =
    rw (one_shl (c.args.high + 1 - c.args.low) 32 (omega arith)) (and_mask _ (c.args.high + 1 - c.args.low))
