use Rattle.std.proofs.Common.{Some, None, sym, ◌∙◌}
use Rattle.record_reader.proofs.Answering.{magic_read}
use Rattle.record_reader.proofs.reading.read_magic.Goals as goal

pub returns-in-None-clause-magic : goal.returns-in-None-clause-magic
returns-in-None-clause-magic g c =
    magic_read _ c.args.ahead.now c.reach.new.self c.from.result.now None c.from.ensures (sym c.in-None.is ∙ c.magic_fault.ensures) c.in-Ok.ensures.window

pub returns-in-Some-clause-magic : goal.returns-in-Some-clause-magic
returns-in-Some-clause-magic g c =
    magic_read _ c.args.ahead.now c.reach.new.self c.from.result.now (Some c.in-Some.fault) c.from.ensures (sym c.in-Some.is ∙ c.magic_fault.ensures) c.in-Ok.ensures.window
