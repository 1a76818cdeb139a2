-- A text that the assembler reads back.
use Rattle.std.specs.Prelude.{ℕ, ◌≡◌, ◌≢◌, ◌+◌, ◌*◌, ◌^◌, ◌<◌, ◌≤◌, List, [], length, All, Ok}
use Rattle.std.specs.List.{flat_map}
use Rattle.std.specs.Str.{IsUtf8}
use Rattle.cloak_model.specs.Bits.{word}
use Rattle.rv_asm.specs.declared.image_word.ImageWord.{ImageWord}
use Rattle.rv_asm.specs.Assembly.{assembled, AreSpelled}
use Rattle.asm_text.specs.Assembling.{IsAssembled}
use Rattle.disassembly.specs.Listing.{listing}

-- the most words that a text may have
abbrev pub most_words : ℕ
most_words = 65536

-- the assembler reads these words in the text
pub record MeansWords (text words : List ℕ) : Type 0 where
  pub items : List ImageWord
  pub spelled : assembled text ≡ Ok items
  pub are_words : AreSpelled items words

-- the words, and their addresses, are not too many
pub record Fits (base : ℕ) (words : List ℕ) : Type 0 where
  pub few : length words ≤ most_words
  pub addresses : base + 4 * length words ≤ 2 ^ 32

-- The text of words means these words again.
abbrev pub AssemblesBack : (base : ℕ) → List ℕ → Type 0
AssemblesBack base words = IsUtf8 (listing base words) × MeansWords (listing base words) words

-- Of a file's bytes, of which there are some: this is the text of the words that they are, and the assembler makes these
-- bytes of it again.
pub record IsDisassembled (base : ℕ) (bytes text : List ℕ) : Type 0 where
  pub some : bytes ≢ []
  pub words : List ℕ
  pub flat : bytes ≡ flat_map word words
  pub fits : Fits base words
  pub listed : text ≡ listing base words
  pub is_text : IsUtf8 text
  pub again : IsAssembled text bytes
