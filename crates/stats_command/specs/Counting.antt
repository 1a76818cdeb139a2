-- What a run that is counted results in.
use Rattle.std.specs.Prelude.{ℕ, ◌≡◌}
use Rattle.cloak_model.specs.declared.image.Bundle.{Bundle}
use Rattle.cloak_model.specs.Opening.{RunEdge}
use Rattle.cloak_model.specs.Run.{is_refused, run_of}
use Rattle.shadow_fold.specs.Events.{counts_of}
use Rattle.stats_command.specs.declared.counting.Counted.{Counted}

-- the stop, whether something was refused, and the counts are those of the run of this bundle, which opened so
pub record IsCountOf (counted : Counted) (b : Bundle) (steps : ℕ) (o : RunEdge) : Type 0 where
  pub stop : counted.stop ≡ (run_of b steps o).stop
  pub refused : counted.refused ≡ is_refused (run_of b steps o)
  pub counts : counted.counts ≡ counts_of b steps o
