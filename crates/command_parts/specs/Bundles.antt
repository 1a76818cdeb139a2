-- What reading the file of a bundle returns.
use Rattle.std.specs.Prelude.{ℕ, ◌≡◌, List, Option, Some, IfSome, Vec, Result, Ok, Err}
use Rattle.std.specs.declared.alloc.Global.{Global}
use Rattle.cloak_model.specs.declared.image.Bundle.{Bundle}
use Rattle.cloak_model.specs.Bundle.{IsBundle, IsBundleIn, IsInGrammar}
use Rattle.cloak_model.specs.BundleFault.{bundle_fault}
use Rattle.command_parts.specs.declared.refusal.Refusal.{Refusal}
use Rattle.command_parts.specs.declared.refusal.Refusal.TheVariants as refusal
use Rattle.command_parts.specs.Files.{ReadsFile}

-- a bundle of the grammar, which a file is if its bytes are told
pub record IsInFile (told : Option (List ℕ)) (bundle : Bundle) : Type 0 where
  pub is : IfSome told (λ bytes. IsBundle bytes bundle)
  pub in_grammar : IsInGrammar bundle

-- a file is a bundle, if its bytes are told
abbrev pub IsSomeBundle : Option (List ℕ) → Type 0
IsSomeBundle told = (bundle : Bundle) × IsInFile told bundle

-- A file was read, or why it was not: also that it is no bundle, if that was seen. What became of the count of reading
-- faults.
abbrev pub ReadsJudging : {A : Type 0} → Option (List ℕ) → ℕ → ℕ → Result A Refusal → Type 0
ReadsJudging told before now (Err (refusal.BadBundle fault)) =
    (now ≡ before) × IfSome told (λ bytes. bundle_fault bytes ≡ Some fault)
ReadsJudging told before now outcome = ReadsFile before now outcome

-- the bundle that a file is, or why it is none
abbrev pub ReadsBundle : Option (List ℕ) → ℕ → ℕ → Result Bundle Refusal → Type 0
ReadsBundle told before now (Ok bundle) = (now ≡ before) × IsInFile told bundle
ReadsBundle told before now (Err refused) = ReadsJudging {A = Bundle} told before now (Err refused)

-- These bytes are a bundle of this version, and they are the file's, if the file's bytes are told.
pub record IsInFileAs (version : ℕ) (told : Option (List ℕ)) (bytes : List ℕ) (bundle : Bundle) : Type 0 where
  pub is : IsBundleIn version bytes bundle
  pub file : IfSome told (λ known. known ≡ bytes)

-- the bundle that a file is with the file's bytes, or why it is none
abbrev pub ReadsBundleBytes : Option (List ℕ) → ℕ → ℕ → Result (Bundle × Vec ℕ Global) Refusal → Type 0
ReadsBundleBytes told before now (Ok read) =
    (now ≡ before) × ((version : ℕ) × IsInFileAs version told read.1.items read.0)
ReadsBundleBytes told before now (Err refused) = ReadsJudging {A = Bundle} told before now (Err refused)
