-- Why a manifest means no image, for a person to read: the manifest, the table and the key, and what is wrong there.
use Rattle.std.specs.Prelude.{ℕ, false, List, [], ◌++◌, codes, decimal}
use Rattle.std.specs.Fmt.{digits}
use Rattle.asm_text.specs.Telling.{fault_text}
use Rattle.asm_text.specs.declared.fault.TextFault.{TextFault}
use Rattle.elf_image.specs.declared.fault.ElfCause.{ElfCause}
use Rattle.elf_image.specs.declared.fault.ElfCause.TheVariants as elf
use Rattle.manifest.specs.declared.key.ManifestTable.{ManifestTable}
use Rattle.manifest.specs.declared.key.ManifestTable.TheVariants as part
use Rattle.manifest.specs.declared.fault.KeyFault.{KeyFault}
use Rattle.manifest.specs.declared.fault.KeyFault.TheVariants.{Missing, NoSource, NoNumber, NoTurn, NoMultiple, NoName, NoList, NoTable, TooFew, TooMany, TwoSources, BesideElf, NoFile, NoElf, NoRoom, PartOutside, EntryOutside, UnalignedEntry, TooManySegments, PastRam, PastAddresses, TooLarge}
use Rattle.manifest.specs.declared.fault.FaultyKey.{FaultyKey}
use Rattle.manifest.specs.Keys.{key_name}
use Rattle.manifest.specs.Faults.{Fault, too_long, no_bytes, not_text, no_toml, at_key, unknown_key, faulty_text}

-- a table, and a colon; nothing for the top of the document
abbrev pub part_text : ManifestTable → List ℕ
part_text part.Image = []
part_text (part.Segment number) = codes "segment " ++ decimal number ++ codes ": "
part_text part.Disk = codes "disk: "
part_text (part.File number) = codes "disk: file " ++ decimal number ++ codes ": "
part_text (part.Program number) = codes "program " ++ decimal number ++ codes ": "

-- an address in hexadecimal digits
abbrev pub address_text : ℕ → List ℕ
address_text address = codes "0x" ++ digits 16 false address

-- why a file cannot be loaded
abbrev pub elf_words : ElfCause → List ℕ
elf_words elf.Short = codes "it ends before its header does"
elf_words elf.NoMagic = codes "it is no ELF file"
elf_words elf.OtherClass = codes "it is not of 32 bits"
elf_words elf.OtherByteOrder = codes "its numbers are not little-endian"
elf_words elf.OtherVersion = codes "the version is not 1"
elf_words elf.NotExecutable = codes "it is not a program at fixed addresses"
elf_words elf.OtherMachine = codes "it is not for RISC-V"
elf_words elf.Compressed = codes "it has compressed instructions"
elf_words elf.FloatRegisters = codes "it passes numbers in floating-point registers"
elf_words elf.FewRegisters = codes "it is for 16 registers"
elf_words elf.OtherFlags = codes "a flag is not known"
elf_words elf.HeaderSize = codes "the program headers are not of 32 bytes"
elf_words elf.TooManyHeaders = codes "there are 65535 program headers or more"
elf_words elf.HeadersOutside = codes "the program headers go past the end of the file"
elf_words elf.BytesOutside = codes "the bytes of a part go past the end of the file"
elf_words elf.MoreBytesThanSize = codes "a part has more bytes in the file than in memory"
elf_words elf.AddressesOutside = codes "a part goes past the last address"
elf_words elf.Overlap = codes "a part has an address of a part before it"
elf_words elf.TooManyParts = codes "there are more than 16 loadable parts"
elf_words elf.NoPart = codes "there is no loadable part"

-- what is wrong
abbrev pub wrong_words : KeyFault → List ℕ
wrong_words Missing = codes "it is missing"
wrong_words NoSource = codes "it is missing, and so is `text`"
wrong_words (NoNumber least most) = codes "it must be a whole number from " ++ decimal least ++ codes " to " ++ decimal most
wrong_words (NoTurn last) = codes "each turn must be a whole number from 0 to " ++ decimal last
wrong_words (NoMultiple of) = codes "it must be a multiple of " ++ decimal of
wrong_words NoName = codes "it must be the name of a file, in quotes"
wrong_words NoList = codes "it must be a list"
wrong_words NoTable = codes "it must be a table"
wrong_words TooFew = codes "it must have at least 1 element"
wrong_words (TooMany most) = codes "it must have at most " ++ decimal most ++ codes " elements"
wrong_words TwoSources = codes "it stands beside `text`: remove one of them"
wrong_words BesideElf = codes "it stands beside `elf`: remove one of them"
wrong_words NoFile = codes "the file is empty, or is not there"
wrong_words (NoRoom room) = codes "there is room for " ++ decimal room ++ codes " bytes, and there are more"
wrong_words (NoElf f) = codes "at byte " ++ (decimal f.at ++ (codes " of the file: " ++ elf_words f.cause))
wrong_words (PartOutside address) = codes "the part at " ++ address_text address ++ codes " in the file does not lie in RAM"
wrong_words (EntryOutside entry) =
    codes "the entry " ++ address_text entry ++ codes " in the file does not lie in the program's pages"
wrong_words (UnalignedEntry entry) = codes "the entry " ++ address_text entry ++ codes " in the file is not a multiple of 4"
wrong_words TooManySegments = codes "there would be more than 16 segments"
wrong_words PastRam = codes "what begins here goes past the end of RAM"
wrong_words PastAddresses = codes "the pages that begin here go past the last address"
wrong_words TooLarge = codes "the bundle would have more than 67108864 bytes"

-- a table, a key, and what is wrong there
abbrev pub key_fault_line : FaultyKey → List ℕ
key_fault_line f = part_text f.part ++ key_name f.key ++ codes ": " ++ wrong_words f.wrong ++ codes "\n"

-- an assembler text that a table names is faulty
abbrev pub faulty_text_line : ManifestTable → (name text : List ℕ) → TextFault → List ℕ
faulty_text_line at name text fault =
    part_text at ++ (codes "text: the file is not assembler text\n" ++ fault_text name text fault)

-- what is said after the manifest's name
abbrev pub fault_line : Fault → List ℕ
fault_line too_long = codes "the file has more than 1048576 bytes\n"
fault_line no_bytes = codes "the file is empty, or is not there\n"
fault_line not_text = codes "the file is not text in UTF-8\n"
fault_line (no_toml words) = codes "not a TOML document: " ++ words ++ codes "\n"
fault_line (at_key fault) = key_fault_line fault
fault_line (unknown_key at name) = part_text at ++ name ++ codes ": there is no key of this name here\n"
fault_line (faulty_text at path text wrong) = faulty_text_line at path text wrong

abbrev pub pack_text : List ℕ → Fault → List ℕ
pack_text manifest fault = manifest ++ codes ": " ++ fault_line fault
