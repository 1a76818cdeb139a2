use Rattle.cloaked_side.proofs.Answering.{drawn_told, undrawn_told, put_told}
use Rattle.cloaked_side.proofs.program_side.ProgramSide.put_settled.Goals as goal

pub returns-then-self-clause-told : goal.returns-then-self-clause-told
returns-then-self-clause-told g c first w sees =
    drawn_told g.E.Emit.gave first c.args.self.now.side _ _ _ w sees c.if-self.true (c.answer.ensures.told first w sees)

pub returns-clause-told : goal.returns-clause-told
returns-clause-told g c first w sees =
    let gave = g.E.Emit.gave in
    let mid = c.write_settled.new.self in
    undrawn_told gave first c.args.self.now.side _ _ _ w sees c.if-self.false
    (put_told gave first mid c.write_put.new.self _ c.args.pa c.args.width c.args.v _ w
    (c.write_settled.ensures.told first w sees).stands
    (λ v seen. c.write_put.ensures.sees first v seen)
    (λ v seen. c.answer-2.ensures.told first v seen))

pub returns-clause-keeps : goal.returns-clause-keeps
returns-clause-keeps g c first stays =
    c.answer-2.ensures.leaves.keeps first (c.write_put.ensures.leaves.keeps first
    (c.write_settled.ensures.keeps first stays))
