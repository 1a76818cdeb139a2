use Rattle.std.proofs.Common.{◌<◌, length, arith}
use Rattle.command_parts.specs.Storing.{secret_length}
use Rattle.old_files.proofs.OldFacts.{too_short}
use Rattle.old_files.proofs.reading.read_secret.Goals as goal

pub returns-then-len-lt-SECRET_LENGTH-clause-secret : goal.returns-then-len-lt-SECRET_LENGTH-clause-secret
returns-then-len-lt-SECRET_LENGTH-clause-secret g c =
    let counted = c.len.ensures in
    let few = c.if-len-lt-SECRET_LENGTH.true in
    let short : length c.in-Ok.bytes.items < secret_length = omega (arith, counted, few) in
    (c.in-Ok.ensures.reading, too_short _ c.in-Ok.bytes.items c.in-Ok.ensures.bytes short)
