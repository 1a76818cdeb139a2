use Rattle.cloaked_side.proofs.Answering.{drawn_told, undrawn_told, get_told}
use Rattle.cloaked_side.proofs.program_side.ProgramSide.get_settled.Goals as goal

pub returns-then-self-clause-told : goal.returns-then-self-clause-told
returns-then-self-clause-told g c first w sees =
    drawn_told g.E.Emit.gave first c.args.self.now.side _ _ _ w sees c.if-self.true (c.answer.ensures.told first w sees)

pub returns-clause-told : goal.returns-clause-told
returns-clause-told g c first w sees =
    let gave = g.E.Emit.gave in
    undrawn_told gave first c.args.self.now.side _ _ _ w sees c.if-self.false
    (get_told gave first c.read_settled-value.new.self _ c.args.pa c.args.width c.read_settled-value.result c.low_bytes.result _ w
    (c.read_settled-value.ensures.told first w sees) c.low_bytes.ensures
    (λ v seen. c.answer-2.ensures.told first v seen))

pub returns-clause-keeps : goal.returns-clause-keeps
returns-clause-keeps g c first stays =
    c.answer-2.ensures.leaves.keeps first (c.read_settled-value.ensures.keeps first stays)
