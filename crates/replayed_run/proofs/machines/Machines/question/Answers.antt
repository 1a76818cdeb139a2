use Rattle.replayed_run.proofs.Followed.{question_is, question_past}
use Rattle.replayed_run.proofs.machines.Machines.question.Goals as goal

pub returns-then-number-programs : goal.returns-then-number-programs
returns-then-number-programs c = λ b items stand.
    question_is b items c.args.self.now c.as_slice-programs.result.now c.args.domain c.args.answers
    c.index-programs-number.result c.access_in.result stand c.as_slice-programs.ensures.value
    c.if-number-programs.true c.index-programs-number.is c.access_in.ensures

pub returns-else-number-programs : goal.returns-else-number-programs
returns-else-number-programs c = λ b items stand.
    question_past b items c.args.self.now c.as_slice-programs.result.now c.args.domain c.args.answers stand
    c.as_slice-programs.ensures.value c.if-number-programs.false
