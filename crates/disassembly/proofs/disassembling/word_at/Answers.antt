use Rattle.std.proofs.Common.{take, drop, length-drop, arith}
use Rattle.std.proofs.lemmas.List.{length-take-le}
use Rattle.std.proofs.lemmas.Nat.{le_bytes_4}
use Rattle.disassembly.proofs.Building.{part_below}
use Rattle.disassembly.proofs.disassembling.word_at.Goals as goal

pub returns : goal.returns
returns c =
    let bytes = c.args.bytes.now in
    let at = c.args.at in
    let long = length-drop at bytes in
    le_bytes_4 (take 4 (drop at bytes)) c.number_at.result (length-take-le 4 (drop at bytes) (omega (arith, long, c.requires)))
    (part_below at 4 bytes (λ i. (c.type_inv.bytes i).fits)) c.number_at.ensures
