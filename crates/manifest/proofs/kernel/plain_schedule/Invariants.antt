use Rattle.std.proofs.Common.{◌≡◌, ◌<◌, length}
use Rattle.std.specs.Prelude.{All}
use Rattle.manifest.specs.Parts.{harts_in_order}
use Rattle.manifest.proofs.kernel.plain_schedule.Given as goal

-- the turns so far
abbrev pub invariant-loop-hart : goal.invariant-loop-hart
invariant-loop-hart l = record {
  order : l.turns.items ≡ harts_in_order l.hart;
  count : length l.turns.items ≡ l.hart;
  turns : All (λ h. h < l.fn.harts) l.turns.items;
}
