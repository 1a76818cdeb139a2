use Rattle.std.proofs.Common.{refl}
use Rattle.kernel_report.proofs.PutFacts.{then, Puts-all}
use Rattle.stats_command.proofs.showing.show_stats.Goals as goal

pub returns : goal.returns
returns g c = Puts-all _ _ _ refl
    (then c.put_stop_line-so_far.ensures
    (then c.put_number-so_far.ensures (then c.put_number-so_far-2.ensures c.put_number.ensures)))
