use Rattle.std.proofs.Common.{refl}
use Rattle.cloak_model.specs.DomainAlone.{domain_alone_from}
use Rattle.kernel_report.proofs.PutFacts.{then, Puts-all}
use Rattle.read_back.specs.Answering.{program_unfit}
use Rattle.read_back.proofs.Lines.{fits_whole}
use Rattle.run_trace.specs.ProgramTracing.{program_text}
use Rattle.run_trace.proofs.Answered.{shows_break, shows_end}
use Rattle.run_trace.proofs.ProgramText.{front_of_own}
use Rattle.run_trace.proofs.command.trace_program.Goals as goal

pub returns-in-Ok-clause-shows : goal.returns-in-Ok-clause-shows
returns-in-Ok-clause-shows g c = λ k p stands.
    let traced = c.in-Ok.ensures.traces k p stands in
    shows_end (program_text c.args.choice.now c.args.number k p) c.args.name.now _ _ traced.items c.in-Ok.ending
    c.put_last_of_program-so_far.result c.answer.result traced.read
    (Puts-all _ _ _ refl (then traced.text (c.put_last_of_program-so_far.ensures c.args.number k.schedule
    (domain_alone_from c.args.number k.schedule p traced.items) traced.stands
    (fits_whole (program_unfit c.args.number k p) traced.items c.in-Ok.ending traced.read.fits)))) c.answer.ensures

pub returns-clause-shows : goal.returns-clause-shows
returns-clause-shows g c = λ k p stands.
    let traced = c.in-Err.ensures.traces k p stands in
    let puts = Puts-all _ _ _ refl traced.1.text in
    shows_break (program_text c.args.choice.now c.args.number k p) c.args.name.now _ _ traced.1.items traced.0 traced.1.read
    (front_of_own c.args.choice.now c.args.number k p traced.1.items traced.0 _ _ puts.0) puts.1
