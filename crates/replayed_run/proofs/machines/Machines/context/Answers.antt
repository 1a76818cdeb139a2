use Rattle.std.proofs.Common.{◌∙◌, sym, ap}
use Rattle.replayed_run.proofs.Followed.{context_is, context_past, standing_by}
use Rattle.replayed_run.proofs.machines.Machines.context.Goals as goal

pub returns-in-Some : goal.returns-in-Some
returns-in-Some c = λ b items stand.
    sym (ap (standing_by c.args.ctx) c.in-Some.is)
    ∙ context_is b items c.args.self.now c.as_slice-programs.result.now c.args.ctx c.index-programs-number.result
    c.context.result stand c.as_slice-programs.ensures.value c.if-number-programs.true c.index-programs-number.is
    c.context.ensures.value

pub returns-in-None : goal.returns-in-None
returns-in-None c = λ b items stand.
    sym (ap (standing_by c.args.ctx) c.in-None.is)
    ∙ context_is b items c.args.self.now c.as_slice-programs.result.now c.args.ctx c.index-programs-number.result
    c.context.result stand c.as_slice-programs.ensures.value c.if-number-programs.true c.index-programs-number.is
    c.context.ensures.value

pub returns-else-number-programs : goal.returns-else-number-programs
returns-else-number-programs c = λ b items stand.
    context_past b items c.args.self.now c.as_slice-programs.result.now c.args.ctx stand c.as_slice-programs.ensures.value
    c.if-number-programs.false
