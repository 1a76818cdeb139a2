-- The order in which a command reads files: which file is next, once those before it were read.
use Rattle.std.specs.Prelude.{ℕ, ◌≡◌, ◌≢◌, ◌⊎◌, List, Option}
use Rattle.cloak_model.specs.StoredFiles.{StoredFile}
use Rattle.command_words.specs.Command as spec
use Rattle.command_parts.specs.Bundles.{IsSomeBundle}
use Rattle.command_parts.specs.Storing.{IsOld, IsSecret, Secret}
use Rattle.command_parts.specs.Streams.{IsStreamFile}

-- the bundle; or the bundle is one, and the file is one of those that are read after it
abbrev pub FromBundleOn : (List ℕ → Option (List ℕ)) → (bundle_name : List ℕ) → (IsAfter : Type 0) → List ℕ → Type 0
FromBundleOn held bundle_name IsAfter name = (name ≡ bundle_name) ⊎ (IsSomeBundle (held bundle_name) × IsAfter)

-- the store file, which is read unless the counter is 0; or it is one, and the file is that of the random stream
abbrev pub FromOldOn : (List ℕ → Option (List ℕ)) → spec.StoreNames → ℕ → spec.Randomness → Secret → List ℕ → Type 0
FromOldOn held names counter randomness secret name =
    ((counter ≢ 0) × (name ≡ names.old_name))
    ⊎ ((table : List StoredFile) × IsOld (held names.old_name) secret.mac counter table × IsStreamFile randomness name)

-- the secret; or it is one, and the file is one of those that are read after it
abbrev pub FromSecretOn : (List ℕ → Option (List ℕ)) → spec.StoreNames → ℕ → spec.Randomness → List ℕ → Type 0
FromSecretOn held names counter randomness name =
    (name ≡ names.secret_name)
    ⊎ ((secret : Secret) × IsSecret (held names.secret_name) secret
    × FromOldOn held names counter randomness secret name)

-- the secret of the files that a run went on from; or it is one, and the file is their store file, which is read unless the
-- counter is 0
abbrev pub FromOldFilesOn : (List ℕ → Option (List ℕ)) → spec.OldFiles → List ℕ → Type 0
FromOldFilesOn held old name =
    (name ≡ old.secret_name)
    ⊎ ((secret : Secret) × IsSecret (held old.secret_name) secret × ((old.counter ≢ 0) × (name ≡ old.old_name)))

-- The words name this file to be read, and each file that is judged before it is read is what it must be. (The state that
-- `thaw` reads is judged after the random stream was read.)
abbrev pub IsNextToRead : spec.Asked → (List ℕ → Option (List ℕ)) → List ℕ → Type 0
IsNextToRead (spec.Faulty fault) held name = ⊥
IsNextToRead (spec.Run bundle record_name steps randomness) held name =
    FromBundleOn held bundle (IsStreamFile randomness name) name
IsNextToRead (spec.View bundle record_name) held name = name ≡ bundle
IsNextToRead (spec.Solo domain bundle record_name) held name = name ≡ bundle
IsNextToRead (spec.SoloOver domain bundle record_name old) held name =
    FromBundleOn held bundle (FromOldFilesOn held old name) name
IsNextToRead (spec.Gen number bundle_name) held name = ⊥
IsNextToRead (spec.Demo number steps) held name = ⊥
IsNextToRead (spec.Stats bundle steps randomness) held name =
    FromBundleOn held bundle (IsStreamFile randomness name) name
IsNextToRead (spec.Upgrade old_name new_name) held name = name ≡ old_name
IsNextToRead (spec.Store names counter steps randomness) held name =
    FromBundleOn held names.bundle (FromSecretOn held names counter randomness name) name
IsNextToRead (spec.Freeze names steps randomness) held name =
    FromBundleOn held names.bundle (IsStreamFile randomness name ⊎ (name ≡ names.vectors_name)) name
IsNextToRead (spec.Thaw names steps randomness) held name =
    FromBundleOn held names.bundle ((name ≡ names.state_name) ⊎ IsStreamFile randomness name) name
