use Rattle.io_traits.proofs.ToldFacts.{puts}
use Rattle.command_parts.proofs.refusal.show.Goals as goal

pub returns : goal.returns
returns g c =
    puts _ _ _ _ c.args.text.now c.put_all.result c.put_all.ensures.ok c.put_all.ensures.err c.put_all.ensures.faults
