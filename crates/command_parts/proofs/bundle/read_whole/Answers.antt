use Rattle.std.proofs.Common.{arith}
use Rattle.command_parts.proofs.BundleFacts.{too_large}
use Rattle.command_parts.proofs.bundle.read_whole.Goals as goal

pub returns-then-len-clause-judged : goal.returns-then-len-clause-judged
returns-then-len-clause-judged g c =
    let counted = c.len.ensures in
    let above = c.if-len.true in (
      c.in_ok-bytes.ensures.reading,
      too_large _ c.in_ok-bytes.bytes.items c.in_ok-bytes.ensures.bytes (omega (arith, counted, above)),
    )
