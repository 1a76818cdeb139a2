use Rattle.std.proofs.Common.{arith, ◌≡◌, ◌<◌, ◌^◌, ◌*◌, ◌%◌}
use Rattle.std.proofs.lemmas.Nat.{one_shl, pow_below}
use Rattle.std.proofs.lemmas.Int.{ints}
use Rattle.rv_core.proofs.frequent.sign_extended.Goals as goal

pub overflow_sub-result : goal.overflow_sub-result
overflow_sub-result c =
    let small : 2 ^ c.args.count < 2 ^ 31 = pow_below _ 31 c.requires.few in
    let whole : 1 * 2 ^ c.args.count % 2 ^ 32 ≡ 2 ^ c.args.count = one_shl c.args.count 32 (omega arith) in
    rw whole (omega (arith, ints))
