-- An image and its parts, by what was read so far.
use Rattle.std.proofs.Common.{◌≡◌, ℕ, Bool, true, false, not, List, [], Option, Some, None, is_some, option_map, Result, Ok, Err, refl, sym}
use Rattle.cloak_model.specs.Bundle.{frame_counts, hart_counts, segment_counts, block_counts, program_counts}
use Rattle.cloak_model.specs.declared.image.Segment.{Segment as KernelSegment}
use Rattle.cloak_model.specs.declared.image.KernelImage.{KernelImage}
use Rattle.cloak_model.specs.declared.image.Program.{Program as CloakedProgram}
use Rattle.cloak_model.specs.declared.image.Bundle.{Bundle}
use Rattle.toml.specs.Data.{Data, Items, Members, as_table}
use Rattle.manifest.specs.declared.key.Key.TheVariants.{Frames, Harts, Segment, Disk, Program, Blocks, File}
use Rattle.manifest.specs.declared.key.ManifestTable.TheVariants.{Image}
use Rattle.manifest.specs.declared.key.ManifestTable.TheVariants as part
use Rattle.manifest.specs.declared.fault.KeyFault.TheVariants.{NoTable}
use Rattle.manifest.specs.declared.fault.FaultyKey.{FaultyKey}
use Rattle.manifest.specs.Keys.{stands_at}
use Rattle.manifest.specs.Fields.{wrong_at, number_or_at, needed_at, list_at, short_list_at}
use Rattle.manifest.specs.Parts.{schedule_at, entry_at, fitting}
use Rattle.manifest.specs.Faults.{Fault, at_key, by_keys, only_keys}
use Rattle.manifest.specs.Images.{image_keys, disk_keys, SegmentsRead, FilesRead, DiskTableReads, DiskReads, KernelReads, ProgramsRead, ImageReads}

-- a value is no table, or it is one

pub no_table : {X : Type 0} (found : Option X) (see : X → Members) (read : Option Members) (none : Bool) →
    option_map see found ≡ read → is_some found ≡ not none → none ≡ true → read ≡ None
no_table None see read none is told gone = sym is
no_table (Some x) see read true is told gone = absurd cc
no_table (Some x) see read false is told gone = absurd cc

pub a_table : {X : Type 0} (found : Option X) (see : X → Members) (read : Option Members) (none : Bool) →
    option_map see found ≡ read → is_some found ≡ not none → none ≡ false → (inside : Members) × (read ≡ Some inside)
a_table (Some x) see read none is told some = (see x, sym is)
a_table None see read true is told some = absurd cc
a_table None see read false is told some = absurd cc

module _ (held : List ℕ → Option (List ℕ)) (manifest : List ℕ) where
  -- ---- the disk

  module _ (from : Data) where
    pub disk_key : (fault : Fault) → Err fault ≡ only_keys part.Disk disk_keys from →
        DiskTableReads held manifest from (Err fault)
    unfolding DiskTableReads
    disk_key fault only = rw (← only) refl

    module _ (u : Unit {0}) (only : Ok u ≡ only_keys part.Disk disk_keys from) where
      pub disk_blocks : (e : FaultyKey) → Err e ≡ needed_at part.Disk from Blocks block_counts →
          DiskTableReads held manifest from (Err (at_key e))
      unfolding DiskTableReads
      disk_blocks e wrong = rw (← only, ← wrong) refl

      module _ (blocks : ℕ) (is_blocks : Ok blocks ≡ needed_at part.Disk from Blocks block_counts) where
        pub disk_list : (e : FaultyKey) → list_at part.Disk from File ≡ Err e →
            DiskTableReads held manifest from (Err (at_key e))
        unfolding DiskTableReads
        disk_list e wrong = rw (← only, ← is_blocks, wrong) refl

        pub disk_files : (tables : Items) (r : Result (List ℕ) Fault) → list_at part.Disk from File ≡ Ok tables →
            FilesRead held manifest blocks tables r → DiskTableReads held manifest from r
        unfolding DiskTableReads
        disk_files tables r list files = rw (← only, ← is_blocks, list) files

  module _ (stands : Option Data) where
    pub disk_none : (bytes : List ℕ) → stands ≡ None → bytes ≡ [] → DiskReads held manifest stands (Ok bytes)
    unfolding DiskReads
    disk_none bytes none empty = rw (none, empty) refl

    pub disk_no_table : (from : Data) → stands ≡ Some from → as_table from ≡ None →
        DiskReads held manifest stands (Err (at_key (wrong_at Image Disk NoTable)))
    unfolding DiskReads
    disk_no_table from some none = rw (some, none) refl

    pub disk_table : (from : Data) (inside : Members) (r : Result (List ℕ) Fault) → stands ≡ Some from →
        as_table from ≡ Some inside → DiskTableReads held manifest from r → DiskReads held manifest stands r
    unfolding DiskReads
    disk_table from inside r some is reads = rw (some, is) reads

  -- ---- the kernel

  module _ (document : Data) where
    pub kernel_frames : (e : FaultyKey) → Err e ≡ number_or_at Image document Frames frame_counts 64 →
        KernelReads held manifest document (Err (at_key e))
    unfolding KernelReads
    kernel_frames e wrong = rw (← wrong) refl

    module _ (frames : ℕ) (is_frames : Ok frames ≡ number_or_at Image document Frames frame_counts 64) where
      pub kernel_harts : (e : FaultyKey) → Err e ≡ number_or_at Image document Harts hart_counts 1 →
          KernelReads held manifest document (Err (at_key e))
      unfolding KernelReads
      kernel_harts e wrong = rw (← is_frames, ← wrong) refl

      module _ (harts : ℕ) (is_harts : Ok harts ≡ number_or_at Image document Harts hart_counts 1) where
        pub kernel_schedule : (fault : Fault) → Err fault ≡ by_keys (schedule_at Image document harts) →
            KernelReads held manifest document (Err fault)
        unfolding KernelReads
        kernel_schedule fault wrong = rw (← is_frames, ← is_harts, ← wrong) refl

        module _ (schedule : List ℕ) (is_schedule : Ok schedule ≡ by_keys (schedule_at Image document harts)) where
          pub kernel_entry : (e : FaultyKey) → Err e ≡ entry_at Image document →
              KernelReads held manifest document (Err (at_key e))
          unfolding KernelReads
          kernel_entry e wrong = rw (← is_frames, ← is_harts, ← is_schedule, ← wrong) refl

          module _ (entry : ℕ) (is_entry : Ok entry ≡ entry_at Image document) where
            pub kernel_list : (e : FaultyKey) → short_list_at Image document Segment segment_counts.high ≡ Err e →
                KernelReads held manifest document (Err (at_key e))
            unfolding KernelReads
            kernel_list e wrong = rw (← is_frames, ← is_harts, ← is_schedule, ← is_entry, wrong) refl

            module _ (tables : Items) (is_list : short_list_at Image document Segment segment_counts.high ≡ Ok tables) where
              pub kernel_segments : (fault : Fault) → SegmentsRead held manifest frames tables (Err fault) →
                  KernelReads held manifest document (Err fault)
              unfolding KernelReads
              kernel_segments fault wrong =
                  rw (← is_frames, ← is_harts, ← is_schedule, ← is_entry, is_list) (Err fault, wrong, refl)

              module _ (segments : List KernelSegment) (are_segments : SegmentsRead held manifest frames tables (Ok segments)) where
                pub kernel_disk : (fault : Fault) → DiskReads held manifest (stands_at Disk document) (Err fault) →
                    KernelReads held manifest document (Err fault)
                unfolding KernelReads
                kernel_disk fault wrong =
                    rw (← is_frames, ← is_harts, ← is_schedule, ← is_entry, is_list)
                    (Ok segments, are_segments, (Err fault, wrong, refl))

                pub kernel_whole : (disk : List ℕ) → DiskReads held manifest (stands_at Disk document) (Ok disk) →
                    KernelReads held manifest document (Ok (record {
                      frames = frames;
                      harts = harts;
                      schedule = schedule;
                      entry = entry;
                      segments = segments;
                      disk = disk;
                    }))
                unfolding KernelReads
                kernel_whole disk is_disk =
                    rw (← is_frames, ← is_harts, ← is_schedule, ← is_entry, is_list)
                    (Ok segments, are_segments, (Ok disk, is_disk, refl))

    -- ---- the image

    pub image_key : (fault : Fault) → Err fault ≡ only_keys Image image_keys document →
        ImageReads held manifest document (Err fault)
    unfolding ImageReads
    image_key fault only = rw (← only) refl

    module _ (u : Unit {0}) (only : Ok u ≡ only_keys Image image_keys document) where
      pub image_kernel : (fault : Fault) → KernelReads held manifest document (Err fault) →
          ImageReads held manifest document (Err fault)
      unfolding ImageReads
      image_kernel fault wrong = rw (← only) (Err fault, wrong, refl)

      module _ (kernel : KernelImage) (is_kernel : KernelReads held manifest document (Ok kernel)) where
        pub image_list : (e : FaultyKey) → short_list_at Image document Program program_counts.high ≡ Err e →
            ImageReads held manifest document (Err (at_key e))
        unfolding ImageReads
        image_list e wrong = rw (← only, wrong) (Ok kernel, is_kernel, refl)

        module _ (tables : Items) (is_list : short_list_at Image document Program program_counts.high ≡ Ok tables) where
          pub image_programs : (fault : Fault) → ProgramsRead held manifest kernel.frames tables (Err fault) →
              ImageReads held manifest document (Err fault)
          unfolding ImageReads
          image_programs fault wrong = rw (← only, is_list) (Ok kernel, is_kernel, (Err fault, wrong, refl))

          pub image_whole : (programs : List CloakedProgram) (r : Result Bundle Fault) →
              ProgramsRead held manifest kernel.frames tables (Ok programs) →
              r ≡ by_keys (fitting (record { kernel = kernel; programs = programs })) →
              ImageReads held manifest document r
          unfolding ImageReads
          image_whole programs r are_programs is = rw (← only, is_list) (Ok kernel, is_kernel, (Ok programs, are_programs, is))
