use Rattle.host_calls.proofs.Plain.{plain_unless}
use Rattle.host_calls.proofs.plain_step.carry_out.Goals as goal

pub carry_out_plain-requires-clause-plain : goal.carry_out_plain-requires-clause-plain
carry_out_plain-requires-clause-plain g c = plain_unless c.args.e.now c.in_default.not-System

pub returns-in_default : goal.returns-in_default
returns-in_default g c = c.carry_out_plain.ensures c.args.i.now
