use Rattle.context_law.proofs.OtherRegisters.{runs_keep_registers}
use Rattle.context_law.proofs.RunRegisters.{runs_have_registers}
use Rattle.context_law.proofs.law_of_registers.Goals as goal

pub returns-clause-own : goal.returns-clause-own
returns-clause-own c = runs_have_registers

pub returns-clause-others : goal.returns-clause-others
returns-clause-others c = runs_keep_registers
