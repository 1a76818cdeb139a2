use Rattle.std.proofs.Common.{◌≡◌}
use Rattle.run_story.specs.Deeds.{change_at, changed_places}
use Rattle.run_story.proofs.deeds.difference.Given as goal

abbrev pub invariant-loop-place : goal.invariant-loop-place
invariant-loop-place l = l.change ≡ change_at l.old l.new (changed_places l.old l.new l.place)
