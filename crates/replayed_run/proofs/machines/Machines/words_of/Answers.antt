use Rattle.replayed_run.proofs.Followed.{words_past}
use Rattle.replayed_run.proofs.machines.Machines.words_of.Goals as goal

pub returns-else-hart-harts : goal.returns-else-hart-harts
returns-else-hart-harts c = λ b items stand.
    words_past b items c.harts-harts.result.now c.args.hart c.start.result c.words_of-else-hart-harts.result
    (c.harts-harts.ensures b.kernel.schedule _ stand.kernel) c.if-hart-harts.false c.start.ensures
    c.words_of-else-hart-harts.ensures
