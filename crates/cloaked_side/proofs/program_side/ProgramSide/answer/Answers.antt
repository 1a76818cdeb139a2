use Rattle.cloaked_side.proofs.Answering.{answered_told}
use Rattle.cloaked_side.proofs.program_side.ProgramSide.answer.Goals as goal

pub returns-clause-told : goal.returns-clause-told
returns-clause-told g c first w sees =
    answered_told g.E.Emit.gave first c.args.self.now.side _ c.args.a w sees (c.write_answer.ensures.sees first w sees)
