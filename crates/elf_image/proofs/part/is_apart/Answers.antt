use Rattle.std.proofs.Common.{not, sym, ap, ◌∙◌}
use Rattle.elf_image.specs.Elf.{overlap}
use Rattle.elf_image.specs.Views.{seen}
use Rattle.elf_image.proofs.Lists.{list_any-map}
use Rattle.elf_image.proofs.part.is_apart.Goals as goal

pub returns : goal.returns
returns c = ap not (c.overlaps.ensures ∙ sym (list_any-map (overlap (seen c.args.part.now)) seen c.args.others.now))
