use Rattle.std.proofs.Common.{◌≡◌, ◌*◌, length, map, drop, replicate}
use Rattle.elf_image.specs.Views.{seen}
use Rattle.manifest.specs.Loading.{with_loaded}
use Rattle.manifest.proofs.loading.loaded.Given as goal

-- the parts so far
abbrev pub invariant-loop-part : goal.invariant-loop-part
invariant-loop-part l = record {
  bytes : with_loaded l.base l.memory.items (map seen (drop l.part-index l.parts))
      ≡ with_loaded l.base (replicate (4096 * l.pages) 0) (map seen l.parts);
  count : length l.memory.items ≡ 4096 * l.pages;
}
