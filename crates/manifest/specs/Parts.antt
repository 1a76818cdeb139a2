-- The parts of an image, each by the keys of its table and the bytes that this names; or the first key at which one is wrong,
-- and what is wrong there.
use Rattle.std.specs.Prelude.{ℕ, zero, suc, ◌+◌, ◌*◌, ◌-◌, ◌%◌, ◌/◌, ◌^◌, ◌==◌, max, List, [], ◌∷◌, ◌++◌, length, take, drop, replicate, Option, Some, None, Result, Ok, Err, nat_lt, nat_le, if◌then◌else◌}
use Rattle.cloak_base.specs.Constants.{ram_start, ram_end, largest_bundle}
use Rattle.cloak_base.specs.declared.names.Start.{Start}
use Rattle.cloak_model.specs.declared.image.Segment.{Segment as KernelSegment}
use Rattle.cloak_model.specs.declared.image.Program.{Program as CloakedProgram}
use Rattle.cloak_model.specs.declared.image.Bundle.{Bundle}
use Rattle.cloak_model.specs.Bundle.{bundle_bytes, frame_counts, schedule_lengths, segment_counts, block_counts}
use Rattle.cloak_model.specs.Bundle.{page_counts, key_numbers}
use Rattle.toml.specs.Data.{Data, as_integer, as_array, Items, no_items, item}
use Rattle.manifest.specs.declared.key.Key.{Key}
use Rattle.manifest.specs.declared.key.Key.TheVariants.{Frames, Harts, Schedule, Entry, Segment, Disk, Program, Address, Text, Bytes, Blocks, File, Block, Pages, Place, Base, Stack, KeyNumber}
use Rattle.manifest.specs.declared.key.ManifestTable.{ManifestTable}
use Rattle.manifest.specs.declared.key.ManifestTable.TheVariants as part
use Rattle.manifest.specs.declared.fault.FaultyKey.{FaultyKey}
use Rattle.manifest.specs.declared.fault.KeyFault.TheVariants.{NoTurn, NoList, TooFew, TooMany, NoFile, NoRoom, TooManySegments, PastRam, PastAddresses, TooLarge}
use Rattle.manifest.specs.Keys.{stands_at}
use Rattle.manifest.specs.Fields.{◌>>=◌, or_fault, below, number_from, count_of, wrong_at, multiple_at, number_at, needed_at, number_or_at}

-- as many pages as this many bytes need, and at least one
abbrev pub pages_needed : ℕ → ℕ
pages_needed count = max 1 ((count + 4095) / 4096)

-- the harts in order, one turn each
abbrev pub harts_in_order : ℕ → List ℕ
harts_in_order zero = []
harts_in_order (suc n) = harts_in_order n ++ n ∷ []

-- the turns so far, and those that values mean
unfoldable pub turns_of : ManifestTable → (harts : ℕ) → (so_far : List ℕ) → Items → Result (List ℕ) FaultyKey
turns_of at harts so_far no_items = Ok so_far
turns_of at harts so_far (item value values) =
    or_fault (number_from (below harts) (as_integer value)) (wrong_at at Schedule (NoTurn (harts - 1)))
    >>= (λ turn. turns_of at harts (so_far ++ turn ∷ []) values)

unfoldable pub schedule_of : ManifestTable → (harts : ℕ) → Items → Result (List ℕ) FaultyKey
schedule_of at harts values =
    if count_of values == 0 then Err (wrong_at at Schedule TooFew)
    else if nat_lt schedule_lengths.high (count_of values) then Err (wrong_at at Schedule (TooMany schedule_lengths.high))
    else turns_of at harts [] values

-- some turns, or the harts in order if none is given
abbrev pub schedule_in : ManifestTable → (harts : ℕ) → Option Data → Result (List ℕ) FaultyKey
schedule_in at harts None = Ok (harts_in_order harts)
schedule_in at harts (Some value) =
    or_fault (as_array value) (wrong_at at Schedule NoList) >>= schedule_of at harts

-- these bytes from a place on, and what was there before and after them
abbrev pub with_bytes : (at : ℕ) → (bytes so_far : List ℕ) → List ℕ
with_bytes at bytes so_far = take at so_far ++ (bytes ++ drop (at + length bytes) so_far)

-- one segment more, up to the most that there can be
abbrev pub with_segment : (so_far : List KernelSegment) → KernelSegment → Result (List KernelSegment) FaultyKey
with_segment so_far segment =
    if nat_lt (length so_far) segment_counts.high then Ok (so_far ++ segment ∷ [])
    else Err (wrong_at part.Image Segment TooManySegments)

module _ (at : ManifestTable) where
  -- a file that a key names: it has some bytes, and is no larger than an image
  unfoldable pub file_bytes : Key → List ℕ → Result (List ℕ) FaultyKey
  file_bytes key bytes =
      if nat_lt largest_bundle (length bytes) then Err (wrong_at at key (NoRoom largest_bundle))
      else if length bytes == 0 then Err (wrong_at at key NoFile) else Ok bytes

  module _ (table : Data) where
    unfoldable pub schedule_at : (harts : ℕ) → Result (List ℕ) FaultyKey
    schedule_at harts = schedule_in at harts (stands_at Schedule table)

    -- where the harts begin
    unfoldable pub entry_at : Result ℕ FaultyKey
    entry_at = number_or_at at table Entry (below (2 ^ 32)) ram_start >>= multiple_at at Entry 4

    -- bytes that lie in RAM
    unfoldable pub segment_at : (frames : ℕ) → List ℕ → Result KernelSegment FaultyKey
    segment_at frames bytes = do
      address ← needed_at at table Address (record { low = ram_start; high = 2 ^ 32 - 1 })
      if nat_le (address + length bytes) (ram_end frames)
          then Ok (record { address = address; bytes = bytes })
          else Err (wrong_at at Address PastRam)

    -- the segments so far, and that of these bytes
    abbrev pub with_flat : (frames : ℕ) → (so_far : List KernelSegment) → List ℕ → Result (List KernelSegment) FaultyKey
    with_flat frames so_far bytes = segment_at frames bytes >>= with_segment so_far

    -- a disk on which these bytes are stored at a block
    unfoldable pub stored_at : (disk bytes : List ℕ) → Result (List ℕ) FaultyKey
    stored_at disk bytes = do
      block ← needed_at at table Block (below block_counts.high)
      if nat_le (4096 * block + length bytes) (length disk)
          then Ok (with_bytes (4096 * block) bytes disk)
          else Err (wrong_at at Block (NoRoom (length disk - 4096 * block)))

    -- how many pages: as many as this many bytes need, if nothing else is given
    unfoldable pub pages_at : Key → (size : ℕ) → Result ℕ FaultyKey
    pages_at key size = do
      needed ← if nat_lt page_counts.high (pages_needed size)
          then Err (wrong_at at key (NoRoom (4096 * page_counts.high)))
          else Ok (pages_needed size)
      pages ← number_or_at at table Pages page_counts needed
      if nat_le size (4096 * pages) then Ok pages else Err (wrong_at at Pages (NoRoom (4096 * pages)))

    -- the frame of the first page, of pages that lie in RAM
    unfoldable pub frame_at : (frames pages : ℕ) → Result ℕ FaultyKey
    frame_at frames pages = do
      frame ← needed_at at table Place (below frame_counts.high)
      if nat_le (frame + pages) frames then Ok frame else Err (wrong_at at Place PastRam)

    -- the address of the first page, of pages that end with the last address or before
    unfoldable pub base_at : (pages : ℕ) → Result ℕ FaultyKey
    base_at pages = do
      base ← needed_at at table Base (below (2 ^ 32)) >>= multiple_at at Base 4096
      if nat_le (base + 4096 * pages) (2 ^ 32) then Ok base else Err (wrong_at at Base PastAddresses)

    -- The stack begins at the end of the pages, if nothing else is given.
    unfoldable pub start_from : (pages base entry : ℕ) → Result Start FaultyKey
    start_from pages base entry = do
      sp ← number_or_at at table Stack (below (2 ^ 32)) ((base + 4096 * pages) % 2 ^ 32)
      Ok (record { pages = pages; base = base; entry = entry; sp = sp })

    -- The entry is the base, if nothing else is given.
    unfoldable pub start_at : (pages : ℕ) → Result Start FaultyKey
    start_at pages = do
      base ← base_at pages
      entry ← number_or_at at table Entry (below (2 ^ 32)) base >>= multiple_at at Entry 4
      start_from pages base entry

    -- What the bytes do not fill is zeros. The key has number 0, if nothing else is given.
    unfoldable pub program_at : (frames : ℕ) → List ℕ → Result CloakedProgram FaultyKey
    program_at frames bytes = do
      pages ← pages_at Bytes (length bytes)
      place ← frame_at frames pages
      start ← start_at pages
      key ← number_or_at at table KeyNumber key_numbers 0
      Ok (record {
        place = place;
        start = start;
        key = key;
        bytes = bytes ++ replicate (4096 * pages - length bytes) 0;
      })

-- the image itself, whose file of version 2 is not too large
unfoldable pub fitting : Bundle → Result Bundle FaultyKey
fitting bundle =
    if nat_lt largest_bundle (length (bundle_bytes 2 bundle)) then Err (wrong_at part.Image Segment TooLarge) else Ok bundle
