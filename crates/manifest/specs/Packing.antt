-- What `pack` makes of a manifest.
use Rattle.std.specs.Prelude.{ℕ, ◌≡◌, List, Option, Ok, Err}
use Rattle.cloak_model.specs.declared.image.Bundle.{Bundle}
use Rattle.cloak_model.specs.Bundle.{IsBundleIn}
use Rattle.command_parts.specs.Outside.{Outside}
use Rattle.command_parts.specs.declared.status.Status.{Status}
use Rattle.asm_text.specs.Making.{MakesAs}
use Rattle.manifest.specs.Faults.{Fault}
use Rattle.manifest.specs.Images.{Means}
use Rattle.manifest.specs.Telling.{pack_text}

-- these bytes are the file of version 2 of the bundle that the manifest means
pub record IsPacked (held : List ℕ → Option (List ℕ)) (manifest bytes : List ℕ) : Type 0 where
  pub bundle : Bundle
  pub meant : Means held manifest (Ok bundle)
  pub file : IsBundleIn 2 bytes bundle

-- what is shown of a manifest that means no bundle: its first fault
pub record TellsPackFault (held : List ℕ → Option (List ℕ)) (manifest shown : List ℕ) : Type 0 where
  pub fault : Fault
  pub first : Means held manifest (Err fault)
  pub is_shown : shown ≡ pack_text manifest fault

-- the answer of `pack`
abbrev pub PackAnswers : {S O : Type 0} → (manifest bundle_name : List ℕ) → Outside S O → Outside S O → Status → Type 0
PackAnswers manifest bundle_name before after answer =
    MakesAs (IsPacked before.files.held manifest) (TellsPackFault before.files.held manifest) bundle_name before after answer
