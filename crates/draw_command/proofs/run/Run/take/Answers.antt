use Rattle.draw_command.proofs.run.Run.take.Goals as goal

pub returns : goal.returns
returns c turns s is stands =
    let took = c.take-taken.ensures.takes turns s is stands in record { stands = took.gains.stands; answer = took.answer }
