-- What the parts and the image that are returned stand for.
use Rattle.std.specs.Prelude.{map}
use Rattle.elf_image.specs.Image.{Part, Image}
use Rattle.elf_image.specs.declared.part.ElfPart.{ElfPart}
use Rattle.elf_image.specs.declared.image.ElfImage.{ElfImage}

abbrev pub seen : ElfPart → Part
seen p = record { address = p.address; bytes = p.bytes.now; size = p.size }

abbrev pub seen_image : ElfImage → Image
seen_image image = record { entry = image.entry; parts = map seen image.parts.items }
