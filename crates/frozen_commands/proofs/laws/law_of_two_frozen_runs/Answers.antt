use Rattle.frozen_commands.proofs.TwoRuns.{kernels_agree, kernels_agree_so_far, programs_agree, programs_agree_so_far}
use Rattle.frozen_commands.proofs.laws.law_of_two_frozen_runs.Goals as goal

pub returns-clause-kernel : goal.returns-clause-kernel
returns-clause-kernel g c = kernels_agree g.row.S.Denot g.row.O.Denot

pub returns-clause-programs : goal.returns-clause-programs
returns-clause-programs g c = programs_agree g.row.S.Denot g.row.O.Denot

pub returns-clause-kernel_so_far : goal.returns-clause-kernel_so_far
returns-clause-kernel_so_far g c = kernels_agree_so_far g.row.S.Denot g.row.O.Denot

pub returns-clause-programs_so_far : goal.returns-clause-programs_so_far
returns-clause-programs_so_far g c = programs_agree_so_far g.row.S.Denot g.row.O.Denot
