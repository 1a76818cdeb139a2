-- What a manifest means: the image of its document and of the files that this names; or its first fault.
use Rattle.std.specs.Prelude.{ℕ, ◌≡◌, ◌⊎◌, ◌*◌, ◌==◌, List, [], ◌∷◌, ◌++◌, length, replicate, Option, Some, None, Result, Ok, Err, nat_lt, if◌then◌else◌}
use Rattle.std.specs.Str.{IsUtf8}
use Rattle.io_traits.specs.Told.{Tells}
use Rattle.cloak_model.specs.declared.image.Segment.{Segment as KernelSegment}
use Rattle.cloak_model.specs.declared.image.KernelImage.{KernelImage}
use Rattle.cloak_model.specs.declared.image.Program.{Program as CloakedProgram}
use Rattle.cloak_model.specs.declared.image.Bundle.{Bundle}
use Rattle.cloak_model.specs.Bundle.{frame_counts, hart_counts, segment_counts, block_counts, program_counts}
use Rattle.toml.specs.Data.{Data, table, as_table, Items, Members}
use Rattle.toml.specs.Parse.{parse_document}
use Rattle.manifest.specs.declared.key.Key.{Key}
use Rattle.manifest.specs.declared.key.Key.TheVariants.{Frames, Harts, Schedule, Entry, Segment, Disk, Program, Address, Text, Bytes, Elf, Blocks, File, Block, Pages, Place, Base, Stack, KeyNumber}
use Rattle.manifest.specs.declared.key.ManifestTable.{ManifestTable}
use Rattle.manifest.specs.declared.key.ManifestTable.TheVariants as part
use Rattle.manifest.specs.declared.fault.KeyFault.TheVariants.{NoTable}
use Rattle.manifest.specs.Keys.{stands_at}
use Rattle.manifest.specs.Fields.{wrong_at, number_or_at, needed_at, list_at, short_list_at}
use Rattle.manifest.specs.Parts.{schedule_at, entry_at, with_flat, stored_at, program_at, fitting}
use Rattle.manifest.specs.Loading.{with_elf, elf_program_at}
use Rattle.manifest.specs.Faults.{Fault, too_long, no_bytes, not_text, no_toml, at_key, by_keys, only_keys, After, Then}
use Rattle.manifest.specs.Sources.{SourceReads, ElfReads, TableReads, InTurn, EachReads}

-- the most bytes of a manifest
abbrev pub longest_manifest : ℕ
longest_manifest = 1048576

-- the keys of each table

abbrev pub image_keys : List Key
image_keys = Frames ∷ Harts ∷ Schedule ∷ Entry ∷ Segment ∷ Disk ∷ Program ∷ []

abbrev pub segment_keys : List Key
segment_keys = Address ∷ Text ∷ Bytes ∷ Elf ∷ []

-- those that stand beside no `elf`
abbrev pub beside_no_elf : List Key
beside_no_elf = Address ∷ Text ∷ Bytes ∷ Base ∷ Entry ∷ []

abbrev pub disk_keys : List Key
disk_keys = Blocks ∷ File ∷ []

abbrev pub file_keys : List Key
file_keys = Block ∷ Text ∷ Bytes ∷ []

abbrev pub program_keys : List Key
program_keys = Text ∷ Bytes ∷ Elf ∷ Pages ∷ Place ∷ Base ∷ Entry ∷ Stack ∷ KeyNumber ∷ []

-- the document of a text (What is said of a text that is none, no clause says.)
unfoldable pub DocumentReads : List ℕ → Result Members Fault → Type 0
DocumentReads text (Ok document) = parse_document text ≡ Some document
DocumentReads text (Err fault) =
    ((¬ IsUtf8 text) × (fault ≡ not_text))
    ⊎ (IsUtf8 text × (parse_document text ≡ None) × ((words : List ℕ) × (fault ≡ no_toml words)))

-- A manifest has some bytes, and at most so many.
abbrev pub manifest_text : List ℕ → Result (List ℕ) Fault
manifest_text bytes =
    if nat_lt longest_manifest (length bytes) then Err too_long
    else if length bytes == 0 then Err no_bytes else Ok bytes

-- the document of the text of a manifest
unfoldable pub TextReads : List ℕ → Result Members Fault → Type 0
TextReads text r = After (manifest_text text) DocumentReads r

-- `held` are the files, as far as they are told, and `manifest` is the manifest's name.
module _ (held : List ℕ → Option (List ℕ)) (manifest : List ℕ) where
  -- ---- the kernel

  -- the segments so far, and that of the bytes that a table names
  unfoldable pub FlatSegmentReads : ManifestTable → (frames : ℕ) → Data → List KernelSegment →
      Result (List KernelSegment) Fault → Type 0
  FlatSegmentReads at frames from so_far r =
      Then (SourceReads held manifest at from) (λ bytes r. r ≡ by_keys (with_flat at from frames so_far bytes)) r

  -- the segments so far, and those of an ELF file
  unfoldable pub ElfSegmentsRead : ManifestTable → (frames : ℕ) → Data → (value : Data) → List KernelSegment →
      Result (List KernelSegment) Fault → Type 0
  ElfSegmentsRead at frames from value so_far r =
      Then (ElfReads held manifest at beside_no_elf from value)
      (λ file r. r ≡ by_keys (with_elf at frames so_far file)) r

  abbrev pub SegmentsBy : ManifestTable → (frames : ℕ) → Data → (elf : Option Data) → List KernelSegment →
      Result (List KernelSegment) Fault → Type 0
  SegmentsBy at frames from None so_far r = FlatSegmentReads at frames from so_far r
  SegmentsBy at frames from (Some value) so_far r = ElfSegmentsRead at frames from value so_far r

  -- the segments so far, and those of a table
  unfoldable pub SegmentReads : (frames number : ℕ) → Data → List KernelSegment →
      Result (List KernelSegment) Fault → Type 0
  SegmentReads frames number from so_far r =
      let at = part.Segment number in
      After (only_keys at segment_keys from) (λ _. SegmentsBy at frames from (stands_at Elf from) so_far) r

  unfoldable pub SegmentsRead : (frames : ℕ) → Items → Result (List KernelSegment) Fault → Type 0
  SegmentsRead frames tables r = InTurn (SegmentReads frames) 1 tables [] r

  -- the disk with the file of a table
  unfoldable pub FileReads : (number : ℕ) → Data → (disk : List ℕ) → Result (List ℕ) Fault → Type 0
  FileReads number file disk r =
      let at = part.File number in
      TableReads held manifest at file_keys (stored_at at file disk) file r

  -- blocks of zeros, on which files are stored
  unfoldable pub FilesRead : (blocks : ℕ) → Items → Result (List ℕ) Fault → Type 0
  FilesRead blocks tables r = InTurn FileReads 1 tables (replicate (4096 * blocks) 0) r

  unfoldable pub DiskTableReads : Data → Result (List ℕ) Fault → Type 0
  DiskTableReads disk r =
      After (only_keys part.Disk disk_keys disk) (λ _.
      After (by_keys (needed_at part.Disk disk Blocks block_counts)) (λ blocks.
      After (by_keys (list_at part.Disk disk File)) (FilesRead blocks))) r

  -- the disk that stands here, if it is a table
  abbrev pub DiskValueReads : Data → Option Members → Result (List ℕ) Fault → Type 0
  DiskValueReads disk None r = r ≡ Err (at_key (wrong_at part.Image Disk NoTable))
  DiskValueReads disk (Some inside) r = DiskTableReads disk r

  unfoldable pub DiskReads : Option Data → Result (List ℕ) Fault → Type 0
  DiskReads None r = r ≡ Ok []
  DiskReads (Some disk) r = DiskValueReads disk (as_table disk) r

  unfoldable pub KernelReads : Data → Result KernelImage Fault → Type 0
  KernelReads document r =
      After (by_keys (number_or_at part.Image document Frames frame_counts 64)) (λ frames.
      After (by_keys (number_or_at part.Image document Harts hart_counts 1)) (λ harts.
      After (by_keys (schedule_at part.Image document harts)) (λ schedule.
      After (by_keys (entry_at part.Image document)) (λ entry.
      After (by_keys (short_list_at part.Image document Segment segment_counts.high)) (λ tables.
      Then (SegmentsRead frames tables) (λ segments.
      Then (DiskReads (stands_at Disk document)) (λ disk r. r ≡ Ok (record {
        frames = frames;
        harts = harts;
        schedule = schedule;
        entry = entry;
        segments = segments;
        disk = disk;
      }))))))))
      r

  -- ---- the programs

  -- the program of the bytes that a table names
  unfoldable pub FlatProgramReads : ManifestTable → (frames : ℕ) → Data → Result CloakedProgram Fault → Type 0
  FlatProgramReads at frames from r =
      Then (SourceReads held manifest at from) (λ bytes r. r ≡ by_keys (program_at at from frames bytes)) r

  -- the program of an ELF file
  unfoldable pub ElfProgramReads : ManifestTable → (frames : ℕ) → Data → (value : Data) →
      Result CloakedProgram Fault → Type 0
  ElfProgramReads at frames from value r =
      Then (ElfReads held manifest at beside_no_elf from value)
      (λ file r. r ≡ by_keys (elf_program_at at from frames file)) r

  abbrev pub ProgramBy : ManifestTable → (frames : ℕ) → Data → (elf : Option Data) →
      Result CloakedProgram Fault → Type 0
  ProgramBy at frames from None r = FlatProgramReads at frames from r
  ProgramBy at frames from (Some value) r = ElfProgramReads at frames from value r

  unfoldable pub ProgramReads : (frames number : ℕ) → Data → Result CloakedProgram Fault → Type 0
  ProgramReads frames number from r =
      let at = part.Program number in
      After (only_keys at program_keys from) (λ _. ProgramBy at frames from (stands_at Elf from)) r

  unfoldable pub ProgramsRead : (frames : ℕ) → Items → Result (List CloakedProgram) Fault → Type 0
  ProgramsRead frames tables r = EachReads (ProgramReads frames) tables r

  -- ---- the image

  unfoldable pub ImageReads : Data → Result Bundle Fault → Type 0
  ImageReads document r =
      After (only_keys part.Image image_keys document) (λ _.
      Then (KernelReads document) (λ kernel.
      After (by_keys (short_list_at part.Image document Program program_counts.high)) (λ tables.
      Then (ProgramsRead kernel.frames tables) (λ programs r.
      r ≡ by_keys (fitting (record { kernel = kernel; programs = programs }))))))
      r

  -- what the manifest means, or its first fault
  pub record Means (r : Result Bundle Fault) : Type 0 where
    pub text : List ℕ
    pub told : Tells (held manifest) text
    pub reads : Then (TextReads text) (λ document. ImageReads (table document)) r
