-- What `disasm` makes of a part of an image: the words of a segment, or of a program. Both are counted from 0, in the order
-- of the image. The address of the first word is the image's.
use Rattle.std.specs.Prelude.{ℕ, ◌≡◌, ◌≢◌, List, ◌++◌, codes, decimal, Option, Some, None, option_map, slice_get, Vec, Result, Ok, Err}
use Rattle.std.specs.declared.alloc.Global.{Global}
use Rattle.io_traits.specs.Told.{SameFiles}
use Rattle.cloak_base.specs.declared.causes.Failed.{Failed}
use Rattle.cloak_model.specs.declared.image.Bundle.{Bundle}
use Rattle.cloak_model.specs.declared.image.Segment.{Segment}
use Rattle.cloak_model.specs.declared.image.Program.{Program}
use Rattle.command_parts.specs.Bundles.{IsInFile, ReadsBundle}
use Rattle.command_parts.specs.Outside.{Outside, Output}
use Rattle.command_parts.specs.Refusing.{Refuses}
use Rattle.command_parts.specs.declared.refusal.Refusal.TheVariants as refusal
use Rattle.command_parts.specs.declared.status.Status.{Status}
use Rattle.command_parts.specs.declared.status.Status.TheVariants as status
use Rattle.disassembly.specs.Disassembling.{HasFault, ShowsText}
use Rattle.disassembly.specs.ReadingBack.{IsDisassembled}
use Rattle.disassembly.specs.declared.fault.WordsFault.{WordsFault}
use Rattle.disassembly.specs.declared.fault.WordsFault.TheVariants.{NoBytes, TooLarge, NotWords, PastEnd, NoMemory}
use Rattle.disassembly.specs.declared.part.ImagePart.{ImagePart}
use Rattle.disassembly.specs.declared.part.ImagePart.TheVariants as part
use Rattle.disassembly.specs.declared.part.NoText.{NoText}
use Rattle.disassembly.specs.declared.part.PlacedBytes.{PlacedBytes}
use Rattle.disassembly.specs.declared.part.NoText.TheVariants.{Refused, NoPart, Faulty}

-- Bytes, and the address of the first.
pub record Placed : Type 0 where
  pub base : ℕ
  pub bytes : List ℕ

abbrev pub placed_segment : Segment → Placed
placed_segment s = record { base = s.address; bytes = s.bytes }

abbrev pub placed_program : Program → Placed
placed_program p = record { base = p.start.base; bytes = p.bytes }

abbrev pub placed_bytes : PlacedBytes → Placed
placed_bytes p = record { base = p.base; bytes = p.bytes.now }

-- the bytes of a part, if the image has one of its number
abbrev pub placed_part : Bundle → ImagePart → Option Placed
placed_part b (part.Segment number) = option_map placed_segment (slice_get b.kernel.segments number)
placed_part b (part.Program number) = option_map placed_program (slice_get b.programs number)

-- ---- reading

-- The file is an image that has this part.
pub record HasPart (told : Option (List ℕ)) (p : ImagePart) (placed : Placed) : Type 0 where
  pub bundle : Bundle
  pub file : IsInFile told bundle
  pub has : placed_part bundle p ≡ Some placed

-- The file is an image that has no part of this number.
pub record LacksPart (told : Option (List ℕ)) (p : ImagePart) : Type 0 where
  pub bundle : Bundle
  pub file : IsInFile told bundle
  pub lacks : placed_part bundle p ≡ None

-- This is the text of the words of the part.
pub record IsTextOfPart (told : Option (List ℕ)) (p : ImagePart) (text : List ℕ) : Type 0 where
  pub placed : Placed
  pub part : HasPart told p placed
  pub disassembled : IsDisassembled placed.base placed.bytes text

-- The bytes of the part have this fault. (Want of memory is none.)
pub record IsFaultyPart (told : Option (List ℕ)) (p : ImagePart) (fault : WordsFault) : Type 0 where
  pub placed : Placed
  pub part : HasPart told p placed
  pub cause : HasFault placed.base placed.bytes fault
  pub is_no_want : fault ≢ NoMemory

-- what was made of a part
abbrev pub MadePart : Type 0
MadePart = Result (Vec ℕ Global) NoText

-- what is made of a part of an image
abbrev pub MakesPart : Bundle → ImagePart → MadePart → Type 0
MakesPart b p (Ok text) = (placed : Placed) × (placed_part b p ≡ Some placed) × IsDisassembled placed.base placed.bytes text.items
MakesPart b p (Err (Refused refused)) = refused ≡ refusal.NoMemory
MakesPart b p (Err NoPart) = placed_part b p ≡ None
MakesPart b p (Err (Faulty fault)) =
    (placed : Placed) × (placed_part b p ≡ Some placed) × HasFault placed.base placed.bytes fault × (fault ≢ NoMemory)

-- want of memory is no fault of the words
abbrev pub reason_of_fault : WordsFault → NoText
reason_of_fault NoMemory = Refused refusal.NoMemory
reason_of_fault other = Faulty other

-- what it is made of, if the bytes of the file are told, and what became of the count of reading faults
abbrev pub ReadsPart : Option (List ℕ) → ImagePart → ℕ → ℕ → MadePart → Type 0
ReadsPart told p before now (Ok text) = (now ≡ before) × IsTextOfPart told p text.items
ReadsPart told p before now (Err (Refused refused)) = ReadsBundle told before now (Err refused)
ReadsPart told p before now (Err NoPart) = (now ≡ before) × LacksPart told p
ReadsPart told p before now (Err (Faulty fault)) = (now ≡ before) × IsFaultyPart told p fault

-- ---- showing

-- the part is named so
abbrev pub part_name : ImagePart → List ℕ
part_name (part.Segment number) = codes "segment " ++ decimal number
part_name (part.Program number) = codes "program " ++ decimal number

abbrev pub no_part_line : ImagePart → List ℕ
no_part_line p = codes "error: the image has no " ++ (part_name p ++ codes "\n")

-- what is wrong with the bytes of a part
abbrev pub part_fault_words : WordsFault → List ℕ
part_fault_words NoBytes = codes "it has no bytes"
part_fault_words TooLarge = codes "it has more than 65536 words"
part_fault_words NotWords = codes "it ends within a word"
part_fault_words PastEnd = codes "its words go past the last address"
part_fault_words NoMemory = codes "there is not enough memory"

-- of the image in the file of this name
abbrev pub part_fault_line : List ℕ → ImagePart → WordsFault → List ℕ
part_fault_line name p fault = name ++ (codes ": " ++ (part_name p ++ (codes ": " ++ (part_fault_words fault ++ codes "\n"))))

-- the status for how showing went
abbrev pub status_shown : Status → Result Unit Failed → Status
status_shown meant (Ok u) = meant
status_shown meant (Err failed) = status.WriteFault

-- what was made is shown, or why there is nothing
abbrev pub ShowsPart : {O : Type 0} → List ℕ → ImagePart → MadePart → Output O → Output O → Status → Type 0
ShowsPart name p (Ok text) before after answer = ShowsText text.items status.Done before after answer
ShowsPart name p (Err (Refused refused)) before after answer = Refuses before after refused answer
ShowsPart name p (Err NoPart) before after answer = ShowsText (no_part_line p) status.Usage before after answer
ShowsPart name p (Err (Faulty fault)) before after answer =
    ShowsText (part_fault_line name p fault) status.BadBundle before after answer

-- What `disasm` returns for a part of the image in the file of this name. It changes no file.
pub record DisasmsPart {S O : Type 0} (p : ImagePart) (name : List ℕ) (before after : Outside S O) (answer : Status) : Type 0
  where
    pub made : MadePart
    pub reads : ReadsPart (before.files.held name) p before.files.reading after.files.reading made
    pub shows : ShowsPart name p made before.output after.output answer
    pub held : SameFiles before.files.held after.files.held
    pub writing : after.files.writing ≡ before.files.writing
