-- What store files are, beside their definition.
use Rattle.std.specs.Prelude.{ℕ, ◌≡◌, ◌<◌, List, All, None}
use Rattle.cloak_model.specs.StoredFiles.{StoredFile, IsStore}
use Rattle.cloak_model.specs.StoreFault.{store_fault}

-- the tables that a file spells under a key for codes and a counter are one
abbrev pub SpellsOne : List ℕ → ℕ → List ℕ → Type 0
SpellsOne mac counter bytes =
    (files others : List StoredFile) → IsStore mac counter bytes files → IsStore mac counter bytes others →
    others ≡ files

-- What spells a table has no fault, and bytes without a fault spell one.
pub record HasFaultOrTable (mac : List ℕ) (counter : ℕ) (bytes : List ℕ) : Type 0 where
  pub right : (files : List StoredFile) → IsStore mac counter bytes files → store_fault mac counter bytes ≡ None
  pub spelled : All (λ b. b < 256) bytes → store_fault mac counter bytes ≡ None →
      (files : List StoredFile) × IsStore mac counter bytes files
