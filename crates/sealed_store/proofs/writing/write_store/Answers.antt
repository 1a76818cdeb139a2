use Rattle.std.proofs.Common.{◌≤◌, ◌∙◌, length, arith}
use Rattle.cloak_model.specs.StoredFiles.{store_bytes}
use Rattle.sealed_store.proofs.Written.{also, front_is, rest_is}
use Rattle.sealed_store.proofs.writing.write_store.Goals as goal

pub returns : goal.returns
unfolding store_bytes
returns c =
    let table = c.put_table-end.ensures.written in
    let few = c.put_table-end.ensures.few in
    let low : c.put_table-end.result ≤ length c.args.into.now = omega (arith, few, c.requires.room) in
    let coded = rw (c.hmac-code.ensures, front_is table low) at c.put.ensures in
    let there : c.put.result ≤ length c.args.into.now = omega (arith, few, c.requires.room, c.put.ensures.ends) in
    let all = also table coded there in
    record {
      bytes = front_is all there;
      length = omega (arith, few, c.put.ensures.ends);
      room = c.put.auto.into ∙ c.put_table-end.auto.into;
      rest = rest_is all there;
    }
