-- The image of a number is in the grammar of bundles, and how long its file is.
use Rattle.std.proofs.Common.{◌≡◌, ◌<◌, ◌≤◌, ◌+◌, ◌*◌, ◌/◌, ◌%◌, ℕ, List, [], ◌∷◌, ◌++◌, length, ap, ◌∙◌, refl, arith, length-append, codes, lit≤, lit<}
use Rattle.std.specs.Prelude.{replicate, All}
use Rattle.std.specs.List.{flat_map}
use Rattle.std.proofs.lemmas.List.{length-replicate}
use Rattle.std.proofs.lemmas.List.Elements.{All-nil, All-cons}
use Rattle.cloak_base.specs.Constants.{largest_bundle}
use Rattle.cloak_model.specs.Bits.{word}
use Rattle.cloak_model.specs.declared.image.Segment.{Segment}
use Rattle.cloak_model.specs.declared.image.KernelImage.{KernelImage}
use Rattle.cloak_model.specs.declared.image.Program.{Program}
use Rattle.cloak_model.specs.declared.image.Bundle.{Bundle}
use Rattle.cloak_model.specs.Bundle.{segment_bytes, program_bytes, bundle_bytes, key_numbers, IsSegmentIn, IsKernelImage, IsProgramIn, IsInGrammar}
use Rattle.guest_kernel.specs.Layout.{kernel_words, kernel_address, boot_table_address, demo_frame}
use Rattle.guest_kernel.specs.Drawing.{hart_count, program_count, hart_of_turn, schedule_of, rounds_of}
use Rattle.guest_kernel.specs.Generated.{words_segment, boot_table, segments_of, demo_program, demo_programs, generated}
use Rattle.guest_kernel.proofs.Counted.{All-below, length-flat_map_below}
use Rattle.guest_kernel.proofs.Drawn.{hart_of_turn-lt}
use Rattle.guest_kernel.proofs.Lengths.{length-kernel_words, length-demo_bytes}
use Rattle.cloak_model.proofs.Opening.{length-map_below}
use Rattle.cloak_model.proofs.Lengths.{length-words, length-segment_bytes}

-- the file's front has 40 bytes, whatever its numbers
length-front : (version : ℕ) (b : Bundle) (rest : List ℕ) →
    let k = b.kernel in
    length (codes "CLOAKBND" ++ (word version ++ (word k.frames ++ (word k.harts ++ (word (length k.schedule) ++ (word k.entry
    ++ (word (length k.segments) ++ (word (length k.disk / 4096) ++ (word (length b.programs) ++ rest)))))))))
    ≡ 40 + length rest
length-front version b rest = omega arith

length-bundle_bytes : (version : ℕ) (b : Bundle) →
    length (bundle_bytes version b)
    ≡ 40 + (length b.kernel.schedule + (length (flat_map segment_bytes b.kernel.segments)
    + (length b.kernel.disk + length (flat_map (program_bytes version) b.programs))))
unfolding bundle_bytes
length-bundle_bytes version b =
    let k = b.kernel in
    let segments = flat_map segment_bytes k.segments in
    let programs = flat_map (program_bytes version) b.programs in
    let one = length-append k.schedule (segments ++ (k.disk ++ programs)) in
    let two = length-append segments (k.disk ++ programs) in
    let three = length-append k.disk programs in
    length-front version b (k.schedule ++ (segments ++ (k.disk ++ programs))) ∙ omega (arith, one, two, three)

length-program_bytes : (d rounds : ℕ) → length (program_bytes 2 (demo_program d rounds)) ≡ 4120
length-program_bytes d rounds = let page = length-demo_bytes d rounds in omega (arith, page)

-- A file without keys has at most as many bytes.

fewer_in_programs : (programs : List Program) →
    length (flat_map (program_bytes 1) programs) ≤ length (flat_map (program_bytes 2) programs)
fewer_in_programs [] = lit≤ tt
fewer_in_programs (p ∷ programs) =
    let one = length-append (program_bytes 1 p) (flat_map (program_bytes 1) programs) in
    let two = length-append (program_bytes 2 p) (flat_map (program_bytes 2) programs) in
    let first : length (program_bytes 1 p) ≤ length (program_bytes 2 p) = omega arith in
    let rest = fewer_in_programs programs in omega (arith, one, two, first, rest)

pub fewer_bytes : (b : Bundle) → length (bundle_bytes 1 b) ≤ length (bundle_bytes 2 b)
fewer_bytes b =
    let one = length-bundle_bytes 1 b in
    let two = length-bundle_bytes 2 b in
    let programs = fewer_in_programs b.programs in omega (arith, one, two, programs)

length-boot_table : (n : ℕ) → length (boot_table n) ≡ 2 + program_count n
length-boot_table n = let frames = length-map_below demo_frame (program_count n) in omega (arith, frames)

length-segments : (n : ℕ) → length (flat_map segment_bytes (segments_of n)) ≡ 720 + 4 * program_count n
length-segments n =
    let kernel = words_segment kernel_address kernel_words in
    let table = words_segment boot_table_address (boot_table n) in
    let both = length-append (segment_bytes kernel) (segment_bytes table ++ []) in
    let last = length-append (segment_bytes table) [] in
    let none : length {A = ℕ} [] ≡ 0 = refl in
    let one = length-segment_bytes kernel in
    let two = length-segment_bytes table in
    let kernel_bytes = length-words kernel_words in
    let kernel_count = length-kernel_words in
    let table_bytes = length-words (boot_table n) in
    let table_count = length-boot_table n in
    omega (arith, both, last, none, one, two, kernel_bytes, kernel_count, table_bytes, table_count)

pub length-generated : (n : ℕ) → length (bundle_bytes 2 (generated n)) ≡ 262920 + 4124 * program_count n
unfolding generated
length-generated n =
    let whole = length-bundle_bytes 2 (generated n) in
    let turns : length (schedule_of n) ≡ 16 = length-map_below (hart_of_turn n) 16 in
    let segments = length-segments n in
    let disk : length {A = ℕ} (replicate (64 * 4096) 0) ≡ 64 * 4096 = length-replicate {A = ℕ} (64 * 4096) 0 in
    let programs : length (flat_map (program_bytes 2) (demo_programs n)) ≡ program_count n * 4120 =
    length-flat_map_below (λ d. demo_program d (rounds_of n d)) (program_bytes 2) 4120 (program_count n)
    (λ d. length-program_bytes d (rounds_of n d)) in
    omega (arith, whole, turns, segments, disk, programs)

pub generated_fits : (n : ℕ) → length (bundle_bytes 2 (generated n)) ≤ largest_bundle
generated_fits n = let whole = length-generated n in omega (arith, whole)

segments_in : (n : ℕ) → All (IsSegmentIn 256) (segments_of n)
segments_in n =
    let kernel_bytes = length-words kernel_words in
    let kernel_count = length-kernel_words in
    let table_bytes = length-words (boot_table n) in
    let table_count = length-boot_table n in
    let kernel = words_segment kernel_address kernel_words in
    let table = words_segment boot_table_address (boot_table n) in
    let kernel_in : IsSegmentIn 256 kernel =
    record { from_start = lit≤ tt; to_end = omega (arith, kernel_bytes, kernel_count) } in
    let table_in : IsSegmentIn 256 table =
    record { from_start = lit≤ tt; to_end = omega (arith, table_bytes, table_count) } in
    All-cons (IsSegmentIn 256) kernel (table ∷ []) kernel_in
    (All-cons (IsSegmentIn 256) table [] table_in (All-nil (IsSegmentIn 256)))

demo_program_in : (d rounds : ℕ) → d ≤ key_numbers.high → IsProgramIn 256 (demo_program d rounds)
unfolding demo_program
demo_program_in d rounds few = record {
  some_pages = lit≤ tt;
  few_pages = lit≤ tt;
  place = omega arith;
  base = refl;
  top = lit≤ tt;
  entry = refl;
  entry_fits = lit< tt;
  sp_fits = lit< tt;
  key = few;
  bytes = length-demo_bytes d rounds;
}

kernel_in : (n : ℕ) → IsKernelImage (generated n).kernel
unfolding generated
kernel_in n =
    let turns : length (schedule_of n) ≡ 16 = length-map_below (hart_of_turn n) 16 in
    let disk : length {A = ℕ} (replicate (64 * 4096) 0) ≡ 64 * 4096 = length-replicate {A = ℕ} (64 * 4096) 0 in record {
      some_frames = lit≤ tt;
      few_frames = lit≤ tt;
      some_harts = omega arith;
      few_harts = omega arith;
      some_turns = omega (arith, turns);
      few_turns = omega (arith, turns);
      turns = All-below (λ h. h < hart_count n) (hart_of_turn n) 16 (λ turn _. hart_of_turn-lt n turn);
      entry = refl;
      entry_fits = lit< tt;
      few_segments = lit≤ tt;
      segments = segments_in n;
      blocks = ap (λ k. k % 4096) disk;
      few_blocks = omega (arith, disk);
    }

pub generated_in : (n : ℕ) → IsInGrammar (generated n)
unfolding generated
generated_in n =
    let count : length (demo_programs n) ≡ program_count n =
    length-map_below (λ d. demo_program d (rounds_of n d)) (program_count n) in
    let fits = generated_fits n in
    let fewer = fewer_bytes (generated n) in record {
      kernel = kernel_in n;
      few_programs = omega (arith, count);
      programs = All-below (IsProgramIn 256) (λ d. demo_program d (rounds_of n d)) (program_count n)
          (λ d low. demo_program_in d (rounds_of n d) (omega arith));
      not_too_large = omega (arith, fits, fewer);
    }

-- what the code makes, part by part
pub made_image : (n harts : ℕ) (schedule disk : List ℕ) (segments : List Segment) (programs : List Program) →
    harts ≡ hart_count n → schedule ≡ schedule_of n → segments ≡ segments_of n → disk ≡ replicate (64 * 4096) 0 →
    programs ≡ demo_programs n →
    let k : KernelImage = record {
      frames = 256;
      harts = harts;
      schedule = schedule;
      entry = kernel_address;
      segments = segments;
      disk = disk;
    } in
    let b : Bundle = record { kernel = k; programs = programs } in b ≡ generated n
unfolding generated
made_image n harts schedule disk segments programs is_harts is_schedule is_segments is_disk is_programs = λ i. record {
  kernel = record {
    frames = 256;
    harts = is_harts i;
    schedule = is_schedule i;
    entry = kernel_address;
    segments = is_segments i;
    disk = is_disk i;
  };
  programs = is_programs i;
}
