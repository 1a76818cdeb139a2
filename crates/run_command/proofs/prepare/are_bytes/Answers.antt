use Rattle.run_command.proofs.PrepareFacts.{each_below}
use Rattle.run_command.proofs.prepare.are_bytes.Goals as goal

pub returns : goal.returns
returns c = each_below c.args.bytes.now (λ i. (c.type_inv.bytes i).fits)
