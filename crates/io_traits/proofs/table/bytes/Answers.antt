use Rattle.std.proofs.Common.{sym, ◌∙◌}
use Rattle.io_traits.proofs.Tables.{bytes_of-some, bytes_of-none}
use Rattle.io_traits.proofs.table.bytes.Goals as goal

pub returns-in-Some : goal.returns-in-Some
returns-in-Some c =
    c.as_slice.ensures.value
    ∙ sym (bytes_of-some c.args.files.now c.args.name.now c.in-Some.bytes.now c.in-Some.ensures.value)

pub returns-in-None : goal.returns-in-None
returns-in-None c = sym (bytes_of-none c.args.files.now c.args.name.now c.in-None.ensures.value)
