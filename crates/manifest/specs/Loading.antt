-- What the loadable parts of an ELF file become: segments of the kernel, or the pages of a program.
use Rattle.std.specs.Prelude.{ℕ, ◌+◌, ◌*◌, ◌-◌, ◌/◌, ◌%◌, ◌^◌, ◌==◌, ◌||◌, List, [], ◌∷◌, ◌++◌, length, replicate, fold, min, max, Option, Some, None, Result, Ok, Err, nat_lt, nat_le, if◌then◌else◌}
use Rattle.cloak_base.specs.declared.names.Start.{Start}
use Rattle.cloak_model.specs.Bundle.{key_numbers}
use Rattle.cloak_model.specs.BundleFault.{lies_in_ram}
use Rattle.cloak_model.specs.declared.image.Segment.{Segment as KernelSegment}
use Rattle.cloak_model.specs.declared.image.Program.{Program as CloakedProgram}
use Rattle.elf_image.specs.Image.{Part as ElfPart, Image as ElfImage}
use Rattle.elf_image.specs.Elf.{elf_image, elf_fault}
use Rattle.elf_image.specs.declared.fault.ElfFault.{ElfFault}
use Rattle.toml.specs.Data.{Data}
use Rattle.manifest.specs.declared.key.Key.TheVariants.{Elf, KeyNumber}
use Rattle.manifest.specs.declared.key.ManifestTable.{ManifestTable}
use Rattle.manifest.specs.declared.fault.FaultyKey.{FaultyKey}
use Rattle.manifest.specs.declared.fault.KeyFault.TheVariants.{NoElf, PartOutside, EntryOutside, UnalignedEntry, PastAddresses}
use Rattle.manifest.specs.Fields.{◌>>=◌, wrong_at, number_or_at}
use Rattle.manifest.specs.Parts.{with_bytes, with_segment, pages_at, frame_at, start_from}

-- ---- the file

-- an image, or the fault of its file
abbrev pub image_or_fault : ManifestTable → ElfImage → Option ElfFault → Result ElfImage FaultyKey
image_or_fault at image None = Ok image
image_or_fault at image (Some fault) = Err (wrong_at at Elf (NoElf fault))

unfoldable pub image_at : ManifestTable → (file : List ℕ) → Result ElfImage FaultyKey
image_at at file = image_or_fault at (elf_image file) (elf_fault file)

-- ---- segments

-- a part with its zeros, which lies in RAM
unfoldable pub part_segment : ManifestTable → (frames : ℕ) → ElfPart → Result KernelSegment FaultyKey
part_segment at frames p =
    if lies_in_ram frames p.address p.size
    then Ok (record { address = p.address; bytes = p.bytes ++ replicate (p.size - length p.bytes) 0 })
    else Err (wrong_at at Elf (PartOutside p.address))

-- the segments so far, and one for each part
unfoldable pub with_parts : ManifestTable → (frames : ℕ) → (so_far : List KernelSegment) → List ElfPart →
    Result (List KernelSegment) FaultyKey
with_parts at frames so_far [] = Ok so_far
with_parts at frames so_far (p ∷ parts) = do
  segment ← part_segment at frames p
  more ← with_segment so_far segment
  with_parts at frames more parts

-- the segments so far, and those of a file
abbrev pub with_elf : ManifestTable → (frames : ℕ) → (so_far : List KernelSegment) → (file : List ℕ) →
    Result (List KernelSegment) FaultyKey
with_elf at frames so_far file = image_at at file >>= (λ image. with_parts at frames so_far image.parts)

-- ---- a program

-- the lowest address of parts, and the address after their highest
abbrev pub lowest : List ElfPart → ℕ
lowest parts = fold (λ low p. min low p.address) (2 ^ 32 - 1) parts

abbrev pub highest : List ElfPart → ℕ
highest parts = fold (λ high p. max high (p.address + p.size)) 0 parts

-- A program begins with the page of its lowest address.
abbrev pub base_of : List ElfPart → ℕ
base_of parts = 4096 * (lowest parts / 4096)

-- the bytes of parts, each at its address; nothing else is stored
abbrev pub with_loaded : (base : ℕ) → (memory : List ℕ) → List ElfPart → List ℕ
with_loaded base memory parts = fold (λ so_far p. with_bytes (p.address - base) p.bytes so_far) memory parts

-- an entry that lies in the pages
unfoldable pub entry_in : ManifestTable → (base pages entry : ℕ) → Result ℕ FaultyKey
entry_in at base pages entry =
    if nat_lt entry base || nat_le (base + 4096 * pages) entry then Err (wrong_at at Elf (EntryOutside entry))
    else if entry % 4 == 0 then Ok entry else Err (wrong_at at Elf (UnalignedEntry entry))

module _ (at : ManifestTable) (table : Data) where
  -- The pages end with the last address or before. The entry is the file's.
  unfoldable pub elf_start_at : ElfImage → (pages : ℕ) → Result Start FaultyKey
  elf_start_at image pages =
      if nat_lt (2 ^ 32) (base_of image.parts + 4096 * pages) then Err (wrong_at at Elf PastAddresses)
      else entry_in at (base_of image.parts) pages image.entry >>= start_from at table pages (base_of image.parts)

  unfoldable pub image_program_at : (frames : ℕ) → ElfImage → Result CloakedProgram FaultyKey
  image_program_at frames image = do
    pages ← pages_at at table Elf (highest image.parts - base_of image.parts)
    place ← frame_at at table frames pages
    start ← elf_start_at image pages
    key ← number_or_at at table KeyNumber key_numbers 0
    Ok (record {
      place = place;
      start = start;
      key = key;
      bytes = with_loaded (base_of image.parts) (replicate (4096 * pages) 0) image.parts;
    })

  abbrev pub elf_program_at : (frames : ℕ) → (file : List ℕ) → Result CloakedProgram FaultyKey
  elf_program_at frames file = image_at at file >>= image_program_at frames
