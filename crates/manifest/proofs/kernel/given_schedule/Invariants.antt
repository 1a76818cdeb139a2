use Rattle.std.proofs.Common.{◌≡◌, ◌<◌, [], length, drop}
use Rattle.std.specs.Prelude.{All}
use Rattle.toml.specs.View.{items_view}
use Rattle.manifest.specs.Parts.{turns_of}
use Rattle.manifest.proofs.kernel.given_schedule.Given as goal

-- the turns so far
abbrev pub invariant-loop-turn : goal.invariant-loop-turn
invariant-loop-turn l = record {
  read : turns_of l.place.part l.harts l.schedule.items (items_view (drop l.turn-index l.turns))
      ≡ turns_of l.place.part l.harts [] (items_view l.turns);
  count : length l.schedule.items ≡ l.turn-index;
  turns : All (λ h. h < l.fn.harts) l.schedule.items;
}
