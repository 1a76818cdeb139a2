-- What a file of assembler text is assembled to.
use Rattle.std.specs.Prelude.{ℕ, ◌≡◌, ◌<◌, ◌≤◌, List, [], length, Ok}
use Rattle.std.specs.List.{flat_map}
use Rattle.std.specs.Str.{IsUtf8}
use Rattle.cloak_model.specs.Bits.{word}
use Rattle.rv_asm.specs.declared.image_word.ImageWord.{ImageWord}
use Rattle.rv_asm.specs.Assembly.{assembled, AreSpelled, FailsAs}
use Rattle.asm_text.specs.declared.fault.TextFault.{TextFault}
use Rattle.asm_text.specs.declared.fault.TextFault.TheVariants.{NoBytes, TooLarge, NotText, Faulty}

-- the most bytes that a text may have
abbrev pub longest_text : ℕ
longest_text = 16777216

-- These bytes are the words of the text, one after another.
pub record IsAssembled (text bytes : List ℕ) : Type 0 where
  pub few : length text ≤ longest_text
  pub items : List ImageWord
  pub words : List ℕ
  pub spelled : assembled text ≡ Ok items
  pub are_words : AreSpelled items words
  pub flat : bytes ≡ flat_map word words

-- The text has this first fault. (Want of memory is no fault of a text.)
abbrev pub FailsToAssemble : List ℕ → TextFault → Type 0
FailsToAssemble text NoBytes = text ≡ []
FailsToAssemble text TooLarge = longest_text < length text
FailsToAssemble text NotText = ¬ IsUtf8 text
FailsToAssemble text (Faulty fault) = IsUtf8 text × FailsAs fault (assembled text)
