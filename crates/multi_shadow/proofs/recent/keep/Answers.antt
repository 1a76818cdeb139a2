use Rattle.std.proofs.Common.{◌∷◌, sym, subst, arith, length-append}
use Rattle.std.specs.List.Sorted.{IsPermutation}
use Rattle.multi_shadow.specs.Placed.{live_in}
use Rattle.multi_shadow.specs.Recent.{live_of, recent_entries}
use Rattle.multi_shadow.proofs.Recents.{displaced}
use Rattle.multi_shadow.proofs.recent.keep.Goals as goal

pub displace-requires-clause-room : goal.displace-requires-clause-room
displace-requires-clause-room c =
    let A = c.args.arena.now in let room = c.requires.room in
    let long = length-append (recent_entries c.args.recent.now) (live_in A.payloads) in
    omega (arith, room, long)

pub returns-clause-live : goal.returns-clause-live
returns-clause-live c =
    let r = c.args.recent.now in let A = c.args.arena.now in let B = c.displace.new.arena in let e = c.args.e in
    subst (λ n. IsPermutation (e ∷ live_of r A) (live_of n B)) (sym c.put.ensures)
    (displaced e.kind e r A B c.displace.ensures.put)
