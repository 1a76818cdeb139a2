use Rattle.std.proofs.Common.{◌∙◌, ap}
use Rattle.shadow_fold.specs.declared.entry.ShadowCounts.{ShadowCounts}
use Rattle.cloak_machine.proofs.machine.Machine.counts.Goals as goal

pub returns-clause-counted : goal.returns-clause-counted
returns-clause-counted c s counts = c.counts.ensures ∙ (counts.tracks.entries counts.counting).counts

pub returns-clause-misses : goal.returns-clause-misses
returns-clause-misses c = ap (λ (x : ShadowCounts). x.misses) c.counts.ensures
