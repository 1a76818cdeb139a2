use Rattle.std.proofs.Common.{◌≤◌, length, arith}
use Rattle.sealed_store.proofs.Written.{also}
use Rattle.sealed_store.proofs.writing.put_page.Goals as goal

pub returns-in-Some-clause-written : goal.returns-in-Some-clause-written
returns-in-Some-clause-written c =
    let shown = c.put-shown.ensures in
    let iv = c.put-iv.ensures in
    let digest = c.put-in-Some.ensures in
    let low : c.put-iv.result ≤ length c.args.into.now = omega (arith, c.requires.room, shown.ends, iv.ends) in
    let there : c.put-in-Some.result ≤ length c.args.into.now =
    omega (arith, c.requires.room, shown.ends, iv.ends, digest.ends) in
    rw c.in-Some.is (also (also shown iv low) digest there)
