use Rattle.cloaked_side.proofs.Answering.{drawn_told, undrawn_told}
use Rattle.cloaked_side.proofs.program_side.ProgramSide.answer_fault.Goals as goal

pub returns-then-self-clause-told : goal.returns-then-self-clause-told
returns-then-self-clause-told g c first w sees =
    drawn_told g.E.Emit.gave first c.args.self.now.side _ _ _ w sees c.if-self.true (c.answer.ensures.told first w sees)

pub returns-clause-told : goal.returns-clause-told
returns-clause-told g c first w sees =
    undrawn_told g.E.Emit.gave first c.args.self.now.side _ _ _ w sees c.if-self.false (c.answer-2.ensures.told first w sees)
