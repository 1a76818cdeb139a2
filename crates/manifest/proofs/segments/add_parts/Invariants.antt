use Rattle.std.proofs.Common.{◌≡◌, ◌≤◌, length, map, drop}
use Rattle.std.specs.Prelude.{All}
use Rattle.cloak_model.specs.Bundle.{IsSegmentIn, segment_counts}
use Rattle.elf_image.specs.Views.{seen}
use Rattle.manifest.specs.Faults.{by_keys}
use Rattle.manifest.specs.Loading.{with_parts}
use Rattle.manifest.proofs.segments.add_parts.Given as goal

-- the segments so far
abbrev pub invariant-loop-part : goal.invariant-loop-part
invariant-loop-part l = record {
  read : by_keys (with_parts l.place.part l.frames l.segments.items (map seen (drop l.part-index l.parts)))
      ≡ by_keys (with_parts l.place.part l.frames l.fn.segments.items (map seen l.parts));
  few : length l.segments.items ≤ segment_counts.high;
  in_ram : All (IsSegmentIn l.frames) l.segments.items;
}
