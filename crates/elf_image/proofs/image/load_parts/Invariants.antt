use Rattle.std.proofs.Common.{◌≡◌, None, map}
use Rattle.elf_image.specs.Elf.{parts, parts_fault}
use Rattle.elf_image.specs.Views.{seen}
use Rattle.elf_image.proofs.image.load_parts.Given as goal

abbrev pub invariant-loop-number : goal.invariant-loop-number
invariant-loop-number l = record {
  found : map seen l.parts.items ≡ parts l.file l.number;
  faultless : parts_fault l.file l.number ≡ None;
}
