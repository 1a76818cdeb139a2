-- A file is read from left to right, each field tested as soon as it is read whole.
use Rattle.std.specs.Prelude.{ℕ, zero, suc, ◌+◌, ◌-◌, ◌==◌, Bool, List, [], ◌∷◌, length, slice_index}
use Rattle.std.specs.Prelude.{codes, Result, Ok, Err, nat_lt, nat_le, if◌then◌else◌}
use Rattle.std.specs.Str.{bytes_eq}
use Rattle.cloak_base.specs.Constants.{largest_bundle}
use Rattle.cloak_model.specs.Bundle.{is_version, frame_counts, hart_counts, schedule_lengths, segment_counts}
use Rattle.cloak_model.specs.Bundle.{block_counts, program_counts, page_counts, key_numbers}
use Rattle.cloak_model.specs.declared.image.Segment.{Segment}
use Rattle.cloak_model.specs.declared.image.KernelImage.{KernelImage}
use Rattle.cloak_model.specs.declared.image.Program.{Program}
use Rattle.cloak_model.specs.declared.image.Bundle.{Bundle}
use Rattle.cloak_model.specs.declared.fault.BundleFault.{BundleFault}
use Rattle.cloak_model.specs.declared.fault.BundleFault.TheVariants.{Short, BadMagic, BadVersion, TooLarge, BadRange}
use Rattle.cloak_model.specs.declared.fault.BundleFault.TheVariants.{Extra}
use Rattle.cloak_model.specs.BundleFault.{lies_in_ram, is_base_of}
use Rattle.guest_bundle.specs.declared.header.Header.{Header}
use Rattle.guest_bundle.specs.Fields.{◌>>=◌, bytes_at, pages_at, number_at, count_at, entry_at}
use Rattle.guest_bundle.specs.Places.{key_size}

-- n parts of one kind and the offset after them, each part as long as its size says
unfoldable pub parts_at : {X : Type 0} → (ℕ → Result X BundleFault) → (X → ℕ) → ℕ → ℕ → Result (List X × ℕ) BundleFault
parts_at part_at size zero at = Ok ([], at)
parts_at part_at size (suc n) at = do
  first ← part_at at
  others ← parts_at part_at size n (at + size first)
  Ok (first ∷ others.0, others.1)

-- the magic and the version
unfoldable pub version_at : List ℕ → Result ℕ BundleFault
version_at file = do
  magic ← bytes_at file 0 8
  version ← if bytes_eq magic (codes "CLOAKBND") then number_at file 8 else Err BadMagic
  if is_version version then Ok version else Err (BadVersion version)

unfoldable pub header_at : List ℕ → Result Header BundleFault
header_at file = do
  version ← version_at file
  frames ← count_at file 12 frame_counts
  harts ← count_at file 16 hart_counts
  turns ← count_at file 20 schedule_lengths
  entry ← entry_at file 24
  segments ← count_at file 28 segment_counts
  blocks ← count_at file 32 block_counts
  programs ← count_at file 36 program_counts
  Ok (record {
    keys = version == 2;
    frames = frames;
    harts = harts;
    turns = turns;
    entry = entry;
    segments = segments;
    blocks = blocks;
    programs = programs;
  })

-- a byte of the schedule
abbrev pub turn_at : ℕ → List ℕ → ℕ → Result ℕ BundleFault
turn_at harts file at =
    if nat_lt (length file - at) 1 then Err (Short at)
    else if nat_lt (slice_index file at) harts then Ok (slice_index file at) else Err (BadRange at)

unfoldable pub segment_at : ℕ → List ℕ → ℕ → Result Segment BundleFault
segment_at frames file at = do
  address ← number_at file at
  size ← number_at file (at + 4)
  bytes ← if lies_in_ram frames address size then bytes_at file (at + 8) size else Err (BadRange at)
  Ok (record { address = address; bytes = bytes })

abbrev pub segment_size : Segment → ℕ
segment_size s = 8 + length s.bytes

-- the frame of the first of some pages
unfoldable pub place_at : ℕ → ℕ → List ℕ → ℕ → Result ℕ BundleFault
place_at frames pages file at = do
  place ← number_at file at
  if nat_le (place + pages) frames then Ok place else Err (BadRange at)

-- the address of the first of some pages
unfoldable pub base_at : ℕ → List ℕ → ℕ → Result ℕ BundleFault
base_at pages file at = do
  base ← number_at file at
  if is_base_of pages base then Ok base else Err (BadRange at)

-- the number of a key, which is 0 in a file without keys
unfoldable pub key_at : Bool → List ℕ → ℕ → Result ℕ BundleFault
key_at keys file at = if keys then count_at file at key_numbers else Ok 0

-- a program of a file with keys, or without
unfoldable pub program_at : Bool → ℕ → List ℕ → ℕ → Result Program BundleFault
program_at keys frames file at = do
  pages ← count_at file at page_counts
  place ← place_at frames pages file (at + 4)
  base ← base_at pages file (at + 8)
  entry ← entry_at file (at + 12)
  sp ← number_at file (at + 16)
  key ← key_at keys file (at + 20)
  bytes ← pages_at file (at + 20 + key_size keys) pages
  Ok (record {
    place = place;
    start = record { pages = pages; base = base; entry = entry; sp = sp };
    key = key;
    bytes = bytes;
  })

abbrev pub program_size : Bool → Program → ℕ
program_size keys p = 20 + key_size keys + length p.bytes

abbrev pub bundle_of : Header → List ℕ → List Segment → List ℕ → List Program → Bundle
bundle_of h schedule segments disk programs =
    let k : KernelImage = record {
      frames = h.frames;
      harts = h.harts;
      schedule = schedule;
      entry = h.entry;
      segments = segments;
      disk = disk;
    } in
    record { kernel = k; programs = programs }

unfoldable pub bundle_at : List ℕ → Result Bundle BundleFault
bundle_at file = do
  h ← if nat_lt largest_bundle (length file) then Err (TooLarge 0) else header_at file
  schedule ← parts_at (turn_at h.harts file) (λ _. 1) h.turns 40
  segments ← parts_at (segment_at h.frames file) segment_size h.segments schedule.1
  disk ← pages_at file segments.1 h.blocks
  programs ← parts_at (program_at h.keys h.frames file) (program_size h.keys) h.programs (segments.1 + length disk)
  if programs.1 == length file then Ok (bundle_of h schedule.0 segments.0 disk programs.0) else Err (Extra programs.1)
