-- The segments and the programs of tables, by what was read so far.
use Rattle.std.proofs.Common.{◌≡◌, ℕ, List, Option, Some, None, Result, Ok, Err, refl, sym, subst}
use Rattle.cloak_model.specs.declared.image.Segment.{Segment}
use Rattle.cloak_model.specs.declared.image.Program.{Program}
use Rattle.toml.specs.Data.{Data}
use Rattle.manifest.specs.declared.key.Key.TheVariants.{Elf}
use Rattle.manifest.specs.declared.key.ManifestTable.{ManifestTable}
use Rattle.manifest.specs.declared.key.ManifestTable.TheVariants as part
use Rattle.manifest.specs.Keys.{stands_at}
use Rattle.manifest.specs.Faults.{Fault, by_keys, only_keys}
use Rattle.manifest.specs.Parts.{program_at, with_flat}
use Rattle.manifest.specs.Loading.{with_elf, elf_program_at}
use Rattle.manifest.specs.Sources.{ElfReads, SourceReads}
use Rattle.manifest.specs.Images.{segment_keys, program_keys, beside_no_elf, FlatSegmentReads, ElfSegmentsRead, SegmentsBy, SegmentReads, FlatProgramReads, ElfProgramReads, ProgramBy, ProgramReads}

module _ (held : List ℕ → Option (List ℕ)) (manifest : List ℕ) (frames : ℕ) (from : Data) where
  -- ---- segments

  module _ (so_far : List Segment) where
    pub segment_key : (number : ℕ) (fault : Fault) → Err fault ≡ only_keys (part.Segment number) segment_keys from →
        SegmentReads held manifest frames number from so_far (Err fault)
    unfolding SegmentReads
    segment_key number fault only = rw (← only) refl

    pub segment_read : (number : ℕ) (r : Result (List Segment) Fault) (u : Unit {0}) →
        Ok u ≡ only_keys (part.Segment number) segment_keys from →
        SegmentsBy held manifest (part.Segment number) frames from (stands_at Elf from) so_far r →
        SegmentReads held manifest frames number from so_far r
    unfolding SegmentReads
    segment_read number r u only reads = rw (← only) reads

    module _ (at : ManifestTable) (elf : Option Data) where
      module _ (none : elf ≡ None) where
        pub flat_unread : (fault : Fault) → SourceReads held manifest at from (Err fault) →
            SegmentsBy held manifest at frames from elf so_far (Err fault)
        unfolding FlatSegmentReads
        flat_unread fault source = rw none (Err fault, source, refl)

        pub flat_read : (bytes : List ℕ) (r : Result (List Segment) Fault) → SourceReads held manifest at from (Ok bytes) →
            r ≡ by_keys (with_flat at from frames so_far bytes) →
            SegmentsBy held manifest at frames from elf so_far r
        unfolding FlatSegmentReads
        flat_read bytes r source is = rw none (Ok bytes, source, is)

      module _ (value : Data) (some : elf ≡ Some value) where
        pub elf_unread : (fault : Fault) → ElfReads held manifest at beside_no_elf from value (Err fault) →
            SegmentsBy held manifest at frames from elf so_far (Err fault)
        unfolding ElfSegmentsRead
        elf_unread fault file = rw some (Err fault, file, refl)

        pub elf_read : (file : List ℕ) (r : Result (List Segment) Fault) →
            ElfReads held manifest at beside_no_elf from value (Ok file) →
            r ≡ by_keys (with_elf at frames so_far file) →
            SegmentsBy held manifest at frames from elf so_far r
        unfolding ElfSegmentsRead
        elf_read file r reads is = rw some (Ok file, reads, is)

  -- ---- programs

  pub program_key : (number : ℕ) (fault : Fault) → Err fault ≡ only_keys (part.Program number) program_keys from →
      ProgramReads held manifest frames number from (Err fault)
  unfolding ProgramReads
  program_key number fault only = rw (← only) refl

  pub program_read : (number : ℕ) (r : Result Program Fault) (u : Unit {0}) →
      Ok u ≡ only_keys (part.Program number) program_keys from →
      ProgramBy held manifest (part.Program number) frames from (stands_at Elf from) r →
      ProgramReads held manifest frames number from r
  unfolding ProgramReads
  program_read number r u only reads = rw (← only) reads

  module _ (at : ManifestTable) (elf : Option Data) where
    module _ (none : elf ≡ None) where
      pub flat_program_unread : (fault : Fault) → SourceReads held manifest at from (Err fault) →
          ProgramBy held manifest at frames from elf (Err fault)
      unfolding FlatProgramReads
      flat_program_unread fault source = rw none (Err fault, source, refl)

      pub flat_program_read : (bytes : List ℕ) (r : Result Program Fault) → SourceReads held manifest at from (Ok bytes) →
          r ≡ by_keys (program_at at from frames bytes) → ProgramBy held manifest at frames from elf r
      unfolding FlatProgramReads
      flat_program_read bytes r source is = rw none (Ok bytes, source, is)

    module _ (value : Data) (some : elf ≡ Some value) where
      pub elf_program_unread : (fault : Fault) → ElfReads held manifest at beside_no_elf from value (Err fault) →
          ProgramBy held manifest at frames from elf (Err fault)
      unfolding ElfProgramReads
      elf_program_unread fault file = rw some (Err fault, file, refl)

      pub elf_program_read : (file : List ℕ) (r : Result Program Fault) →
          ElfReads held manifest at beside_no_elf from value (Ok file) →
          r ≡ by_keys (elf_program_at at from frames file) →
          ProgramBy held manifest at frames from elf r
      unfolding ElfProgramReads
      elf_program_read file r reads is = rw some (Ok file, reads, is)
