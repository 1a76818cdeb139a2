use Rattle.std.proofs.Common.{◌≤◌, length, arith}
use Rattle.guest_bundle.proofs.Places.{HasMoved, moves_piece}
use Rattle.guest_bundle.proofs.moving.move_end.Goals as goal

pub loop-file-preserved : goal.loop-file-preserved
loop-file-preserved c =
    let le : c.max-at.result ≤ length c.loop-file.file.items =
    omega (arith, c.max-at.ensures, c.saturating_sub.ensures, c.len-in-loop-file-2.ensures) in
    let low : c.args.from ≤ c.max-at.result = omega (arith, c.max-at.ensures) in
    let was : HasMoved c.args.file.now.items c.args.from c.loop-file.file.items c.loop-file.bytes.items =
    record { rest = c.loop-file.invariant.rest; moved = c.loop-file.invariant.moved; low = c.loop-file.invariant.low } in
    let is = moves_piece c.args.file.now.items c.args.from c.loop-file.file.items c.loop-file.bytes.items
    c.move_piece.new.file.items c.move_piece.new.bytes.items c.max-at.result was low le c.in_ok-move_piece.ensures.rest
    c.in_ok-move_piece.ensures.bytes in
    record { rest = is.rest; moved = is.moved; low = is.low }
