-- What the secret file and the store file of a run are read as.
use Rattle.std.specs.Prelude.{ℕ, ◌≡◌, ◌≢◌, ◌<◌, List, length, Option, IfSome, Some, Result, Ok, Err}
use Rattle.cloak_model.specs.StoredFiles.{StoredFile}
use Rattle.cloak_model.specs.StoreFault.{store_fault}
use Rattle.command_parts.specs.declared.refusal.Refusal.{Refusal}
use Rattle.command_parts.specs.declared.refusal.Refusal.TheVariants as refusal
use Rattle.command_parts.specs.Files.{ReadsFile}
use Rattle.command_parts.specs.Storing as given
use Rattle.command_parts.specs.Storing.{IsOld, IsSecret, secret_length}
use Rattle.old_files.specs.declared.secret.Secret.{Secret}

abbrev pub keys_of : Secret → given.Secret
keys_of secret = record { mac = secret.mac; keys = secret.keys }

-- the secret that a file has, or why it was not read
abbrev pub ReadsSecret : Option (List ℕ) → ℕ → ℕ → Result Secret Refusal → Type 0
ReadsSecret told before now (Ok secret) = (now ≡ before) × IsSecret told (keys_of secret)
ReadsSecret told before now (Err refusal.ShortSecret) =
    (now ≡ before) × IfSome told (λ bytes. length bytes < secret_length)
ReadsSecret told before now (Err other) = ReadsFile {A = Secret} before now (Err other)

-- the table of what an earlier run left, or why it was not read
abbrev pub ReadsOld : Option (List ℕ) → List ℕ → ℕ → ℕ → ℕ → List StoredFile → Result Unit Refusal → Type 0
ReadsOld told mac counter before now table (Ok done) = (now ≡ before) × IsOld told mac counter table
ReadsOld told mac counter before now table (Err (refusal.BadStore fault)) =
    (now ≡ before) × ((counter ≢ 0) × IfSome told (λ bytes. store_fault mac counter bytes ≡ Some fault))
ReadsOld told mac counter before now table (Err other) = ReadsFile {A = Unit} before now (Err other)
