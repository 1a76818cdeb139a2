-- A table by its keys and the bytes that it names.
use Rattle.std.proofs.Common.{◌≡◌, ℕ, List, Option, Some, None, Result, Ok, Err, refl}
use Rattle.toml.specs.Data.{Data, as_str}
use Rattle.manifest.specs.declared.key.Key.{Key}
use Rattle.manifest.specs.declared.key.ManifestTable.{ManifestTable}
use Rattle.manifest.specs.declared.fault.FaultyKey.{FaultyKey}
use Rattle.manifest.specs.declared.key.Key.TheVariants.{Bytes, Text, Elf}
use Rattle.manifest.specs.declared.fault.KeyFault.TheVariants.{NoName}
use Rattle.manifest.specs.Fields.{alone_at, name_at, wrong_at}
use Rattle.manifest.specs.Faults.{Fault, at_key, by_keys, only_keys}
use Rattle.manifest.specs.Sources.{AtPath, ElfReads, IsFileAt, NamedReads, SourceReads, TableReads}

module _ (held : List ℕ → Option (List ℕ)) (manifest : List ℕ) (at : ManifestTable) (keys : List Key) where
  pub other_key : {A : Type 0} (meaning : List ℕ → Result A FaultyKey) (from : Data) (fault : Fault) →
      Err fault ≡ only_keys at keys from → TableReads held manifest at keys meaning from (Err fault)
  unfolding TableReads
  other_key meaning from fault only = rw (← only) refl

  pub no_source : {A : Type 0} (meaning : List ℕ → Result A FaultyKey) (from : Data) (fault : Fault) (u : Unit {0}) →
      Ok u ≡ only_keys at keys from → SourceReads held manifest at from (Err fault) →
      TableReads held manifest at keys meaning from (Err fault)
  unfolding TableReads
  no_source meaning from fault u only source = rw (← only) (Err fault, source, refl)

  pub whole_table : {A : Type 0} (meaning : List ℕ → Result A FaultyKey) (from : Data) (r : Result A Fault) (u : Unit {0})
      (bytes : List ℕ) → Ok u ≡ only_keys at keys from → SourceReads held manifest at from (Ok bytes) →
      r ≡ by_keys (meaning bytes) → TableReads held manifest at keys meaning from r
  unfolding TableReads
  whole_table meaning from r u bytes only source is = rw (← only) (Ok bytes, source, is)

module _ (held : List ℕ → Option (List ℕ)) (manifest : List ℕ) (at : ManifestTable) (from : Data) where
  pub wrong_flat : (e : FaultyKey) → name_at at from Bytes ≡ Err e → SourceReads held manifest at from (Err (at_key e))
  unfolding SourceReads
  wrong_flat e wrong = rw wrong refl

  pub wrong_written : (flat : Option (List ℕ)) (e : FaultyKey) → name_at at from Bytes ≡ Ok flat →
      name_at at from Text ≡ Err e → SourceReads held manifest at from (Err (at_key e))
  unfolding SourceReads
  wrong_written flat e is_flat wrong = rw (is_flat, wrong) refl

  pub named_source : (flat written : Option (List ℕ)) (r : Result (List ℕ) Fault) → name_at at from Bytes ≡ Ok flat →
      name_at at from Text ≡ Ok written → NamedReads held manifest at flat written r → SourceReads held manifest at from r
  unfolding SourceReads
  named_source flat written r is_flat is_written reads = rw (is_flat, is_written) reads

  -- ---- an ELF file

  module _ (value : Data) (others : List Key) where
    pub elf_beside : (e : FaultyKey) → Err e ≡ alone_at at from others →
        ElfReads held manifest at others from value (Err (at_key e))
    unfolding ElfReads
    elf_beside e wrong = rw (← wrong) refl

    module _ (u : Unit {0}) (alone : Ok u ≡ alone_at at from others) where
      pub elf_no_name : as_str value ≡ None → ElfReads held manifest at others from value (Err (at_key (wrong_at at Elf NoName)))
      unfolding ElfReads
      elf_no_name none = rw (← alone, none) refl

      pub elf_named : (name : List ℕ) (r : Result (List ℕ) Fault) → as_str value ≡ Some name →
          AtPath manifest name (λ path. IsFileAt at Elf (held path)) r → ElfReads held manifest at others from value r
      unfolding ElfReads
      elf_named name r some reads = rw (← alone, some) reads
