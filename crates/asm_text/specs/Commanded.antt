-- What `asm` makes of a text.
use Rattle.std.specs.Prelude.{ℕ, ◌≡◌, ◌≢◌, ◌+◌, List, take, Option, IfSome}
use Rattle.rv_asm.specs.declared.fault.AsmFault.TheVariants as asm
use Rattle.command_parts.specs.Outside.{Outside}
use Rattle.command_parts.specs.declared.status.Status.{Status}
use Rattle.asm_text.specs.declared.fault.TextFault.{TextFault}
use Rattle.asm_text.specs.declared.fault.TextFault.TheVariants.{Faulty}
use Rattle.asm_text.specs.Assembling.{longest_text, IsAssembled, FailsToAssemble}
use Rattle.asm_text.specs.Making.{MakesAs}
use Rattle.asm_text.specs.Telling.{fault_text}

-- What is read of a text's file, if that is told: all, or one byte more than a text may have.
abbrev pub IsTextRead : Option (List ℕ) → List ℕ → Type 0
IsTextRead told text = IfSome told (λ bytes. text ≡ take (longest_text + 1) bytes)

-- the words of the text in a file
pub record AreWordsOfFile (told : Option (List ℕ)) (bytes : List ℕ) : Type 0 where
  pub text : List ℕ
  pub read : IsTextRead told text
  pub assembled : IsAssembled text bytes

-- what is shown of the text in the file of this name, and why
pub record TellsTextFault (name : List ℕ) (told : Option (List ℕ)) (shown : List ℕ) : Type 0 where
  pub text : List ℕ
  pub read : IsTextRead told text
  pub fault : TextFault
  pub cause : FailsToAssemble text fault
  pub is_no_want : fault ≢ Faulty asm.NoMemory
  pub is_shown : shown ≡ fault_text name text fault

-- what `asm` returns
abbrev pub AsmAnswers : {S O : Type 0} → (text_name words_name : List ℕ) → Outside S O → Outside S O → Status → Type 0
AsmAnswers text_name words_name before after answer =
    MakesAs (AreWordsOfFile (before.files.held text_name)) (TellsTextFault text_name (before.files.held text_name))
    words_name before after answer
