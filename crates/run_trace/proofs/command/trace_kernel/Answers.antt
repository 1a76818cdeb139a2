use Rattle.std.proofs.Common.{refl}
use Rattle.cloak_model.specs.KernelAlone.{kernel_alone}
use Rattle.kernel_report.proofs.PutFacts.{then, Puts-all}
use Rattle.run_trace.specs.Tracing.{kernel_text}
use Rattle.run_trace.proofs.Answered.{shows_break, shows_end}
use Rattle.run_trace.proofs.KernelText.{front_of_text}
use Rattle.run_trace.proofs.command.trace_kernel.Goals as goal

pub returns-in-Ok-clause-shows : goal.returns-in-Ok-clause-shows
returns-in-Ok-clause-shows g c = λ k stands.
    let traced = c.in-Ok.ensures.traces k stands in
    shows_end (kernel_text c.args.choice.now k) c.args.name.now _ _ traced.items c.in-Ok.ending c.put_last-so_far.result
    c.answer.result traced.read
    (Puts-all _ _ _ refl (then traced.text (c.put_last-so_far.ensures k.schedule (kernel_alone k traced.items) traced.stands)))
    c.answer.ensures

pub returns-clause-shows : goal.returns-clause-shows
returns-clause-shows g c = λ k stands.
    let traced = c.in-Err.ensures.traces k stands in
    let puts = Puts-all _ _ _ refl traced.1.text in
    shows_break (kernel_text c.args.choice.now k) c.args.name.now _ _ traced.1.items traced.0 traced.1.read
    (front_of_text c.args.choice.now k traced.1.items traced.0 _ _ puts.0) puts.1
