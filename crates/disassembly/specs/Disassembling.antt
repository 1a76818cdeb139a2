-- What `disasm` makes of a file of words.
use Rattle.std.specs.Prelude.{ℕ, ◌≡◌, ◌≢◌, ◌+◌, ◌%◌, ◌^◌, ◌<◌, ◌≤◌, ◌⊎◌, List, [], ◌++◌, length, take, codes, Option, IfSome, Result, Ok, Err}
use Rattle.io_traits.specs.Told.{Grows, GrowsByFront, Rose}
use Rattle.command_parts.specs.Outside.{FilesOutside, Outside, Output}
use Rattle.command_parts.specs.declared.status.Status.{Status}
use Rattle.command_parts.specs.declared.status.Status.TheVariants as status
use Rattle.asm_text.specs.Making.{MadeFile, ReadsFor, ShowsWhy}
use Rattle.disassembly.specs.ReadingBack.{IsDisassembled}
use Rattle.disassembly.specs.declared.fault.WordsFault.{WordsFault}
use Rattle.disassembly.specs.declared.fault.WordsFault.TheVariants.{NoBytes, TooLarge, NotWords, PastEnd, NoMemory}

-- the most bytes that a file of words may have
abbrev pub most_bytes : ℕ
most_bytes = 262144

-- The bytes of a file with its first word at an address have this fault, and no other: they are counted before they are
-- taken as words, and these before they get addresses. (Want of memory is no fault of a file.)
abbrev pub HasFault : (base : ℕ) → List ℕ → WordsFault → Type 0
HasFault base bytes NoBytes = bytes ≡ []
HasFault base bytes TooLarge = most_bytes < length bytes
HasFault base bytes NotWords = (length bytes ≤ most_bytes) × (length bytes % 4 ≢ 0)
HasFault base bytes PastEnd =
    (length bytes ≤ most_bytes) × (length bytes % 4 ≡ 0) × (2 ^ 32 < base + length bytes)
HasFault base bytes NoMemory = Unit {0}

-- what is wrong
abbrev pub fault_words : WordsFault → List ℕ
fault_words NoBytes = codes "the file is empty, or is not there"
fault_words TooLarge = codes "the file has more than 65536 words"
fault_words NotWords = codes "the file ends within a word"
fault_words PastEnd = codes "the words go past the last address"
fault_words NoMemory = codes "there is not enough memory"

-- of the file of this name
abbrev pub fault_text : List ℕ → WordsFault → List ℕ
fault_text name fault = name ++ codes ": " ++ fault_words fault ++ codes "\n"

-- What is read of a file of words, if that is told: all, or one byte more than it may have.
abbrev pub AreBytesRead : Option (List ℕ) → List ℕ → Type 0
AreBytesRead told bytes = IfSome told (λ all. bytes ≡ take (most_bytes + 1) all)

-- the text of the words in a file
pub record IsTextOfFile (base : ℕ) (told : Option (List ℕ)) (text : List ℕ) : Type 0 where
  pub bytes : List ℕ
  pub read : AreBytesRead told bytes
  pub disassembled : IsDisassembled base bytes text

-- what is shown of the file of this name, and why
pub record TellsFault (base : ℕ) (name : List ℕ) (told : Option (List ℕ)) (shown : List ℕ) : Type 0 where
  pub bytes : List ℕ
  pub read : AreBytesRead told bytes
  pub fault : WordsFault
  pub cause : HasFault base bytes fault
  pub is_no_want : fault ≢ NoMemory
  pub is_shown : shown ≡ fault_text name fault

-- ---- showing

-- a text was shown, and this status is the answer
pub record IsShown {O : Type 0} (text : List ℕ) (meant : Status) (before after : Output O) (answer : Status) : Type 0 where
  pub answered : answer ≡ meant
  pub text_shown : Grows before.taken after.taken text
  pub faults : after.faults ≡ before.faults

-- a front of it was shown
pub record IsShownInPart {O : Type 0} (text : List ℕ) (before after : Output O) (answer : Status) : Type 0 where
  pub answered : answer ≡ status.WriteFault
  pub front_shown : GrowsByFront before.taken after.taken text
  pub faults : Rose before.faults after.faults

abbrev pub ShowsText : {O : Type 0} → List ℕ → Status → Output O → Output O → Status → Type 0
ShowsText text meant before after answer = IsShown text meant before after answer ⊎ IsShownInPart text before after answer

-- what was made is shown, or why there is nothing
abbrev pub ShowsMade : {O : Type 0} → MadeFile → Output O → Output O → Status → Type 0
ShowsMade (Ok text) before after answer = ShowsText text.items status.Done before after answer
ShowsMade (Err reason) before after answer = ShowsWhy reason before after answer

-- What `disasm` returns. It changes no file.
pub record DisasmAnswers {S O : Type 0} (base : ℕ) (name : List ℕ) (before after : Outside S O) (answer : Status) : Type 0
  where
    pub made : MadeFile
    pub reads : ReadsFor (IsTextOfFile base (before.files.held name)) (TellsFault base name (before.files.held name))
        before.files after.files made
    pub shows : ShowsMade made before.output after.output answer
