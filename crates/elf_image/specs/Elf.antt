-- An ELF file as far as it is read: an executable of a 32-bit RISC-V machine, little-endian. What its loadable parts
-- are, and the first fault of a file that cannot be loaded.
--
-- The fields and their values: System V Application Binary Interface, edition 4.1 (1997), chapter 4, "ELF Header", and
-- chapter 5, "Program Header". Those of e_machine and e_flags: RISC-V ELF psABI, version 1.0, "File Header".
use Rattle.std.specs.Prelude.{ℕ, zero, suc, ◌+◌, ◌*◌, ◌^◌, ◌==◌, ◌&&◌, Bool, List, [], ◌∷◌, ◌++◌, length, take, drop}
use Rattle.std.specs.Prelude.{slice_index, bit_and, not, min, max, Option, Some, None, nat_lt, nat_le, if◌then◌else◌}
use Rattle.std.specs.Int.{w16, w32, from_le_bytes}
use Rattle.std.specs.List.{list_any}
use Rattle.std.specs.Str.{bytes_eq}
use Rattle.elf_image.specs.declared.fault.ElfFault.{ElfFault}
use Rattle.elf_image.specs.declared.fault.ElfCause.{ElfCause}
use Rattle.elf_image.specs.declared.fault.ElfCause.TheVariants as cause
use Rattle.elf_image.specs.Image.{Part, Image}

-- Elf32_Half: two bytes, the lowest first
abbrev pub half : List ℕ → ℕ → ℕ
half file at = from_le_bytes w16 (take 2 (drop at file))

-- Elf32_Word, Elf32_Addr, Elf32_Off: four bytes, the lowest first
abbrev pub word : List ℕ → ℕ → ℕ
word file at = from_le_bytes w32 (take 4 (drop at file))

-- ---- faults

-- a rule, and the fault of a file that breaks it: its cause and its offset
abbrev pub rule : Bool → ElfCause → ℕ → Option ElfFault
rule holds cause at = if holds then None else Some (record { cause = cause; at = at })

abbrev pub first_of : Option ElfFault → Option ElfFault → Option ElfFault
first_of None later = later
first_of (Some fault) later = Some fault

abbrev pub first : List (Option ElfFault) → Option ElfFault
first [] = None
first (fault ∷ faults) = first_of fault (first faults)

-- ---- the header

-- e_ident: the magic, EI_CLASS is ELFCLASS32, EI_DATA is ELFDATA2LSB, EI_VERSION is EV_CURRENT
unfoldable pub ident_fault : List ℕ → Option ElfFault
ident_fault file = first (
    rule (bytes_eq (take 4 file) (0x7f ∷ 0x45 ∷ 0x4c ∷ 0x46 ∷ [])) cause.NoMagic 0
    ∷ rule (slice_index file 4 == 1) cause.OtherClass 4
    ∷ rule (slice_index file 5 == 1) cause.OtherByteOrder 5
    ∷ rule (slice_index file 6 == 1) cause.OtherVersion 6
    ∷ [])

-- e_type is ET_EXEC, e_machine is EM_RISCV, e_version is EV_CURRENT
unfoldable pub kind_fault : List ℕ → Option ElfFault
kind_fault file = first (
    rule (half file 16 == 2) cause.NotExecutable 16
    ∷ rule (half file 18 == 243) cause.OtherMachine 18
    ∷ rule (word file 20 == 1) cause.OtherVersion 20
    ∷ [])

-- e_flags: no EF_RISCV_RVC, EF_RISCV_FLOAT_ABI is soft, no EF_RISCV_RVE, and no other flag but EF_RISCV_TSO, which
-- asks for no more than that steps come one after another
unfoldable pub flags_fault : List ℕ → Option ElfFault
flags_fault file = first (
    rule (bit_and (word file 36) 0x1 == 0) cause.Compressed 36
    ∷ rule (bit_and (word file 36) 0x6 == 0) cause.FloatRegisters 36
    ∷ rule (bit_and (word file 36) 0x8 == 0) cause.FewRegisters 36
    ∷ rule (nat_lt (word file 36) 0x20) cause.OtherFlags 36
    ∷ [])

-- e_phoff: where the program headers begin; e_phnum: how many there are
abbrev pub headers_from : List ℕ → ℕ
headers_from file = word file 28

abbrev pub header_count : List ℕ → ℕ
header_count file = half file 44

-- where a program header begins
abbrev pub header_at : List ℕ → ℕ → ℕ
header_at file number = headers_from file + 32 * number

-- e_phentsize; e_phnum, which from PN_XNUM on stands elsewhere; e_phoff
unfoldable pub table_fault : List ℕ → Option ElfFault
table_fault file = first (
    rule (half file 42 == 32) cause.HeaderSize 42
    ∷ rule (nat_lt (header_count file) 0xffff) cause.TooManyHeaders 44
    ∷ rule (nat_le (header_at file (header_count file)) (length file)) cause.HeadersOutside 28
    ∷ [])

-- A file shorter than a header has no other fault.
unfoldable pub header_fault : List ℕ → Option ElfFault
header_fault file = first (
    rule (nat_le 52 (length file)) cause.Short (length file)
    ∷ ident_fault file
    ∷ kind_fault file
    ∷ flags_fault file
    ∷ table_fault file
    ∷ [])

-- ---- the loadable parts

-- p_filesz and p_memsz are 0: the program header is that of no part of memory, whatever else it says
abbrev pub is_empty : List ℕ → ℕ → Bool
is_empty file at = word file (at + 16) == 0 && word file (at + 20) == 0

-- p_type is PT_LOAD, and there is something to load
abbrev pub is_loadable : List ℕ → ℕ → Bool
is_loadable file at = word file at == 1 && not (is_empty file at)

-- p_vaddr, p_filesz bytes from p_offset on, p_memsz
abbrev pub part_at : List ℕ → ℕ → Part
part_at file at = record {
  address = word file (at + 8);
  bytes = take (word file (at + 16)) (drop (word file (at + 4)) file);
  size = word file (at + 20);
}

-- There is an address in both: the later of the beginnings is before the earlier of the ends.
abbrev pub overlap : Part → Part → Bool
overlap a b = nat_lt (max a.address b.address) (min (a.address + a.size) (b.address + b.size))

-- The bytes of a part lie in the file, and are no more than its size. Its addresses are below 2^32, no part before it
-- has one of them, and fewer than 16 parts are before it.
unfoldable pub part_fault : List ℕ → List Part → ℕ → Option ElfFault
part_fault file before at = first (
    rule (nat_le (word file (at + 4) + word file (at + 16)) (length file)) cause.BytesOutside (at + 4)
    ∷ rule (nat_le (word file (at + 16)) (word file (at + 20))) cause.MoreBytesThanSize (at + 16)
    ∷ rule (nat_le (word file (at + 8) + word file (at + 20)) (2 ^ 32)) cause.AddressesOutside (at + 8)
    ∷ rule (not (list_any (overlap (part_at file at)) before)) cause.Overlap (at + 8)
    ∷ rule (nat_lt (length before) 16) cause.TooManyParts at
    ∷ [])

-- the part of a program header, and its fault, if it is loadable

unfoldable pub loaded : List ℕ → ℕ → List Part
loaded file at = if is_loadable file at then part_at file at ∷ [] else []

unfoldable pub load_fault : List ℕ → List Part → ℕ → Option ElfFault
load_fault file before at = if is_loadable file at then part_fault file before at else None

-- the parts of the first n program headers, and the first fault of them

unfoldable pub parts : List ℕ → ℕ → List Part
parts file zero = []
parts file (suc n) = parts file n ++ loaded file (header_at file n)

unfoldable pub parts_fault : List ℕ → ℕ → Option ElfFault
parts_fault file zero = None
parts_fault file (suc n) = first_of (parts_fault file n) (load_fault file (parts file n) (header_at file n))

-- ---- the file

-- e_entry, and the parts
abbrev pub elf_image : List ℕ → Image
elf_image file = record { entry = word file 24; parts = parts file (header_count file) }

-- The first fault, if there is one.
unfoldable pub elf_fault : List ℕ → Option ElfFault
elf_fault file = first (
    header_fault file
    ∷ parts_fault file (header_count file)
    ∷ rule (nat_lt 0 (length (parts file (header_count file)))) cause.NoPart 44
    ∷ [])
