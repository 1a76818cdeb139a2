use Rattle.std.proofs.Common.{◌≡◌, ◌<◌, ℕ, true, None, slice_index_or}
use Rattle.std.specs.Prelude.{is_some}
use Rattle.resource_map.specs.Kept.{IsInUse}
use Rattle.hypercalls.specs.Standing.{control_of}
use Rattle.joint_machine.proofs.thawing.all_rooted.Given as goal

-- the spaces so far
abbrev pub invariant-loop-space : goal.invariant-loop-space
invariant-loop-space l = (s : ℕ) → s < l.space → is_some (slice_index_or l.roots s None) ≡ true →
    IsInUse (control_of l.domain).resources s
